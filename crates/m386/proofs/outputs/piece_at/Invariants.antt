use Rattle.std.proofs.Common.{◌≡◌, length, take, drop}
use Rattle.m386.specs.Writing.{image_bytes}
use Rattle.m386.proofs.outputs.piece_at.Given as goal

abbrev pub invariant-loop-place : goal.invariant-loop-place
invariant-loop-place l = record {
  piece : l.piece.items ≡ take l.place (drop l.at (image_bytes l.image l.pc));
  count : length l.piece.items ≡ l.place;
}
