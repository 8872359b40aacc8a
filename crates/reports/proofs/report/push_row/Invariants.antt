use Rattle.std.proofs.Common.{◌≡◌, ◌+◌, ◌*◌, ◌++◌, ℕ, map, length}
use Rattle.std.specs.List.{range_with_len}
use Rattle.mdl_state.specs.Memory.{byte_at}
use Rattle.mdl_step.specs.Report.{printed, cell_address}
use Rattle.reports.proofs.report.push_row.Given as goal

abbrev pub invariant-loop-column : goal.invariant-loop-column
invariant-loop-column g l = record {
  text : l.text.items ≡ l.fn.text.items ++ map (λ (column : ℕ). printed (byte_at (g.M.Shown.state l.machine).mem.physical (cell_address l.start (80 * l.row + column)))) (range_with_len 0 l.column);
  length : length l.text.items ≡ length l.fn.text.items + l.column;
}
