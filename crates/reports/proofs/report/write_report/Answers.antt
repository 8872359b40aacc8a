use Rattle.std.proofs.Common.{OnErr, Result, Ok, Err}
use Rattle.host_io.specs.Prefixes.{prefix_then}
use Rattle.host_io.specs.declared.host.OutSlot.TheVariants.{Report}
use Rattle.mdl_step.specs.Report.{register_lines, report_text, screen_lines}
use Rattle.reports.specs.Shown.{start_of, cursor_of}
use Rattle.reports.proofs.report.write_report.Goals as goal

-- what holds anyway holds at an error
on_err : {T E : Type 0} (r : Result T E) (P : Type 0) → P → OnErr r P
on_err (Ok x) P p = tt
on_err (Err e) P p = p

pub returns-in_err-write_all-2-clause-err : goal.returns-in_err-write_all-2-clause-err
unfolding report_text
returns-in_err-write_all-2-clause-err g c = on_err c.from_residual-in_err-write_all-2.result _
    (prefix_then (g.H.Host.took c.args.host.now Report) (g.H.Host.took c.write_all.new.host Report) (g.H.Host.took c.write_all-2.new.host Report)
    (register_lines (g.M.Shown.state c.args.machine.now) (g.M.Shown.state c.args.machine.now).mem.walks (start_of (g.M.Shown.screen c.args.machine.now)) (cursor_of (g.M.Shown.screen c.args.machine.now)))
    (screen_lines (g.M.Shown.state c.args.machine.now).mem.physical (start_of (g.M.Shown.screen c.args.machine.now)))
    (rw (c.as_slice.ensures.value, c.register_lines.ensures) at c.in_ok-write_all.ensures.ok)
    (rw (c.as_slice-2.ensures.value, c.screen_lines.ensures) at c.in_err-write_all-2.ensures.err))
