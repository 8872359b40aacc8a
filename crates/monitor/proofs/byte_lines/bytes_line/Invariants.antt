use Rattle.std.proofs.Common.{◌≡◌, ◌+◌, ◌*◌, ◌++◌, length}
use Rattle.std.specs.List.{range_with_len, flat_map}
use Rattle.mdl_insn.specs.Text.{hex}
use Rattle.monitor.specs.Bytes.{byte_word}
use Rattle.monitor.proofs.byte_lines.bytes_line.Given as goal

abbrev pub invariant-loop-place : goal.invariant-loop-place
invariant-loop-place g l = record {
  text : l.text.items ≡ hex 8 l.at ++ flat_map (byte_word (g.T.Target.machine l.target).state.mem.physical l.at) (range_with_len 0 l.place);
  length : length l.text.items ≡ 8 + 3 * l.place;
}
