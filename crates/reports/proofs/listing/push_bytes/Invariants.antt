use Rattle.std.proofs.Common.{◌≡◌, ◌+◌, ◌*◌, ◌++◌, length, take}
use Rattle.mdl_insn.specs.Listing.{bytes_text}
use Rattle.reports.proofs.listing.push_bytes.Given as goal

abbrev pub invariant-loop-byte : goal.invariant-loop-byte
invariant-loop-byte l = record {
  text : l.text.items ≡ l.fn.text.items ++ bytes_text (take l.byte-index l.bytes);
  length : length l.text.items ≡ length l.fn.text.items + 2 * l.byte-index;
}
