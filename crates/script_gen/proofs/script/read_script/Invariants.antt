use Rattle.std.proofs.Common.{◌+◌, ◌≤◌, length}
use Rattle.script_gen.proofs.Reading.{HasRead}
use Rattle.script_gen.proofs.script.read_script.Given as goal

abbrev pub invariant-loop-line : goal.invariant-loop-line
invariant-loop-line l = record {
  room : l.number + length l.rest ≤ length l.bytes;
  read : HasRead l.bytes l.number l.rest l.events.items;
}

abbrev pub decreases-loop-line : goal.decreases-loop-line
decreases-loop-line l = length l.rest
