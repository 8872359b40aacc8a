use Rattle.m386.proofs.Demos.{demo_run, demo_result, demo_refused}
use Rattle.std.proofs.Common.{refl}
use Rattle.command_words.specs.Jobs.{Demo}
use Rattle.m386.specs.Slots.{path_for}
use Rattle.m386.proofs.Assured.{report_quiet}
use Rattle.m386.proofs.demo_command.demo_command.Goals as goal

pub returns-clause-ok : goal.returns-clause-ok
returns-clause-ok g c =
    let took = g.H.Host.took in
    let path = g.H.Host.path in
    let told = c.report.ensures in
    demo_result c.report.result c.args.number (took c.args.host.now) (took c.report.new.host) (path c.args.host.now) (path c.report.new.host) c.in_ok-pc.pc
    (demo_run c.args.number c.in-Ok.rom.items c.new.result.items c.new-2.result.items c.in_ok-pc.pc c.in-Ok.ensures.rom c.new.ensures.items c.new-2.ensures.items c.in_ok-pc.ensures.ok)
    told.ok told.outputs told.opened told.paths

pub returns-clause-refused : goal.returns-clause-refused
returns-clause-refused g c =
    let took = g.H.Host.took in
    demo_refused c.report.result c.args.number (g.H.Host.left c.args.host.now) (g.H.Host.left c.report.new.host) (took c.args.host.now) (took c.report.new.host) c.in_ok-pc.pc
    (demo_run c.args.number c.in-Ok.rom.items c.new.result.items c.new-2.result.items c.in_ok-pc.pc c.in-Ok.ensures.rom c.new.ensures.items c.new-2.ensures.items c.in_ok-pc.ensures.ok)
    c.report.ensures.refused c.report.ensures.outputs

pub returns-clause-sure : goal.returns-clause-sure
returns-clause-sure g c = report_quiet c.report.result (g.H.Host.promise c.args.host.now) (path_for (Demo c.args.number)) (g.H.Host.took c.report.new.host) refl c.report.ensures.sure
