use Rattle.std.proofs.Common.{ℕ, ◌+◌, ◌*◌, arith}
use Rattle.mdl_state.specs.Memory.{byte_at}
use Rattle.mdl_step.specs.Report.{printed, cell_address, screen_line}
use Rattle.reports.proofs.Screen.{row_ended}
use Rattle.reports.proofs.report.push_row.Goals as goal

pub returns-clause-text : goal.returns-clause-text
unfolding screen_line
returns-clause-text g c = row_ended c.args.text.now.items c.loop-column.text.items c.push-2.new.self.items
    (λ (column : ℕ). printed (byte_at (g.M.Shown.state c.args.machine.now).mem.physical (cell_address c.args.start (80 * c.args.row + column))))
    c.loop-column.column 80 10 c.push-2.ensures.items c.loop-column.invariant.text (omega arith)
