use Rattle.std.proofs.Common.{◌≡◌, ◌≤◌, ◌*◌, length}
use Rattle.std.specs.List.{range_with_len, flat_map}
use Rattle.monitor.specs.Bytes.{line_of}
use Rattle.monitor.proofs.byte_lines.bytes_lines.Given as goal

abbrev pub invariant-loop-line : goal.invariant-loop-line
invariant-loop-line g l = record {
  text : l.text.items ≡ flat_map (line_of (g.T.Target.machine l.target).state.mem.physical l.at l.count) (range_with_len 0 l.line);
  length : length l.text.items ≤ 57 * l.line;
}
