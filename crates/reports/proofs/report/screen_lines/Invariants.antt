use Rattle.std.proofs.Common.{◌≡◌, ◌*◌, length}
use Rattle.std.specs.List.{range_with_len, flat_map}
use Rattle.mdl_step.specs.Report.{screen_line}
use Rattle.reports.proofs.report.screen_lines.Given as goal

abbrev pub invariant-loop-row : goal.invariant-loop-row
invariant-loop-row g l = record {
  text : l.text.items ≡ flat_map (screen_line (g.M.Shown.state l.machine).mem.physical l.start) (range_with_len 0 l.row);
  length : length l.text.items ≡ 81 * l.row;
}
