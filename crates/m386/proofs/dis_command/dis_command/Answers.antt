use Rattle.std.proofs.Common.{rules, refl, ◌∙◌}
use Rattle.host_io.specs.declared.host.InSlot.TheVariants.{Rom}
use Rattle.host_io.specs.declared.host.Slot.TheVariants.{In}
use Rattle.command_words.specs.Jobs.{Dis, dis_of}
use Rattle.m386.specs.Slots.{path_for}
use Rattle.m386.proofs.Within.{first_within}
use Rattle.m386.proofs.Assured.{report_full, report_unopened}
use Rattle.m386.proofs.dis_command.dis_command.Goals as goal

pub returns-in_err-rom-clause-within : goal.returns-in_err-rom-clause-within
returns-in_err-rom-clause-within g c =
    let left = g.H.Host.left in
    search (rules, first_within Rom (left c.args.host.now) (left c.read_input.new.host) c.in_err-rom.field-0.0 c.read_input.ensures.left c.in_err-rom.ensures.memory)

pub returns-in_err-rom-clause-sure : goal.returns-in_err-rom-clause-sure
returns-in_err-rom-clause-sure g c = λ assured. search (rules, c.in_err-rom.ensures.sure (assured.opens (In Rom)))

pub returns-in_default-clause-sure : goal.returns-in_default-clause-sure
returns-in_default-clause-sure g c =
    let promise = g.H.Host.promise in
    report_unopened (promise c.args.host.now) (promise c.read_input.new.host) (path_for (Dis (dis_of c.args.job.now))) (g.H.Host.took c.open_out.new.self) refl c.read_input.ensures.promise c.in_default.ensures.sure

pub returns-clause-sure : goal.returns-clause-sure
returns-clause-sure g c =
    let promise = g.H.Host.promise in
    report_full (promise c.args.host.now) (promise c.open_out.new.self) (path_for (Dis (dis_of c.args.job.now))) (g.H.Host.took c.write_listing.new.host) refl (c.open_out.ensures.promise ∙ c.read_input.ensures.promise) c.in-Err.ensures.sure
