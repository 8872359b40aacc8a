use Rattle.std.proofs.Common.{OnErr, Result, Ok, Err, refl, ◌∙◌}
use Rattle.host_io.specs.declared.host.OutSlot.TheVariants.{Report, Mem, Save}
use Rattle.command_words.specs.Jobs.{run_of}
use Rattle.m386.specs.Slots.{output_path}
use Rattle.m386.proofs.Assured.{output_unwritable, result_unwritable}
use Rattle.m386.proofs.outputs.write_outputs.Goals as goal

-- what holds anyway holds at an error
on_err : {T E : Type 0} (r : Result T E) (P : Type 0) → P → OnErr r P
on_err (Ok x) P p = tt
on_err (Err e) P p = p

pub returns-in_err-report-clause-sure : goal.returns-in_err-report-clause-sure
returns-in_err-report-clause-sure g c =
    let promise = g.H.Host.promise c.args.host.now in
    on_err c.from_residual.result _
    (output_unwritable promise promise (output_path (run_of c.args.job.now)) (g.H.Host.took c.report.new.host) Report refl (λ opens. ((λ none. cc), c.in_err-report.ensures.sure opens)))

pub returns-in_err-save-clause-sure : goal.returns-in_err-save-clause-sure
returns-in_err-save-clause-sure g c =
    let promise = g.H.Host.promise in
    on_err c.from_residual-in_err-save.result _
    (output_unwritable (promise c.args.host.now) (promise c.report.new.host) (output_path (run_of c.args.job.now)) (g.H.Host.took c.save.new.host) Mem c.report.ensures.promise c.in_err-save.ensures.sure)

pub returns-clause-sure : goal.returns-clause-sure
returns-clause-sure g c =
    let promise = g.H.Host.promise in
    result_unwritable c.save-2.result (promise c.args.host.now) (promise c.save.new.host) (output_path (run_of c.args.job.now)) (g.H.Host.took c.save-2.new.host) Save (c.save.ensures.promise ∙ c.report.ensures.promise) c.save-2.ensures.sure
