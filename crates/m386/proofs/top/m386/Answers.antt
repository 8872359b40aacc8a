use Rattle.std.proofs.Common.{refl}
use Rattle.command_words.specs.Jobs.{texts}
use Rattle.m386.specs.Slots.{path_for, report_only}
use Rattle.m386.proofs.Complete.{completed}
use Rattle.m386.proofs.Ending.{done_headline, done_demo, done_monitor, faulted, imaged}
use Rattle.m386.proofs.Opening.{unwritten, unopened}
use Rattle.m386.proofs.Slots.{keeps_told, report_path}
use Rattle.m386.proofs.Within.{memory_within}
use Rattle.m386.proofs.Assured.{assured_end, unasked_end}
use Rattle.host_io.specs.declared.host.OutSlot.TheVariants.{Report}
use Rattle.host_io.specs.declared.host.Slot.TheVariants.{Out}
use Rattle.m386.proofs.top.m386.Goals as goal

pub returns-in-Ok-clause-headline : goal.returns-in-Ok-clause-headline
returns-in-Ok-clause-headline g c = λ job matched is. done_headline (texts c.args.words.now) (g.H.Host.left c.args.host.now) (g.H.Host.took c.args.host.now) (g.H.Host.took c.command.new.host)
    (g.H.Host.path c.args.host.now) (g.H.Host.path c.command.new.host) job c.in-Ok.ensures.ok matched

pub returns-in-Ok-clause-demo : goal.returns-in-Ok-clause-demo
returns-in-Ok-clause-demo g c = λ number matched is. done_demo (texts c.args.words.now) (g.H.Host.left c.args.host.now) (g.H.Host.took c.args.host.now) (g.H.Host.took c.command.new.host)
    (g.H.Host.path c.args.host.now) (g.H.Host.path c.command.new.host) number c.in-Ok.ensures.ok matched

pub returns-in-Ok-clause-monitor : goal.returns-in-Ok-clause-monitor
returns-in-Ok-clause-monitor g c = λ machine matched is. done_monitor (texts c.args.words.now) (g.H.Host.left c.args.host.now) (g.H.Host.took c.args.host.now) (g.H.Host.took c.command.new.host)
    (g.H.Host.path c.args.host.now) (g.H.Host.path c.command.new.host) machine c.in-Ok.ensures.ok matched

pub returns-in-Err-clause-image : goal.returns-in-Err-clause-image
returns-in-Err-clause-image g c =
    let took = g.H.Host.took in
    let faults = g.H.Host.faults in
    let told = c.refuse.ensures in
    imaged (texts c.args.words.now) (g.H.Host.left c.args.host.now) (g.H.Host.left c.command.new.host) (took c.args.host.now) (took c.command.new.host) (took c.refuse.new.host) (g.H.Host.path c.refuse.new.host)
    (faults c.args.host.now) (faults c.command.new.host) (faults c.refuse.new.host) c.in-Err.refusal c.refuse.result
    c.in-Err.ensures.refused c.in-Err.ensures.counted told.status told.line told.outputs

pub returns-in-Err-clause-fault : goal.returns-in-Err-clause-fault
returns-in-Err-clause-fault g c =
    let left = g.H.Host.left in
    let took = g.H.Host.took in
    let path = g.H.Host.path in
    let faults = g.H.Host.faults in
    let told = c.refuse.ensures in
    faulted (texts c.args.words.now) (left c.args.host.now) (left c.command.new.host) (left c.refuse.new.host) (took c.args.host.now) (took c.command.new.host) (took c.refuse.new.host) (path c.args.host.now) (path c.command.new.host) (path c.refuse.new.host)
    (faults c.args.host.now) (faults c.command.new.host) (faults c.refuse.new.host) c.in-Err.refusal c.refuse.result
    told.left c.in-Err.ensures.refused c.in-Err.ensures.counted told.status told.line told.outputs told.faults told.later told.paths c.in-Err.ensures.up_to

pub returns-in-Err-clause-keeps : goal.returns-in-Err-clause-keeps
returns-in-Err-clause-keeps g c =
    let left = g.H.Host.left in
    let path = g.H.Host.path in
    let told = c.refuse.ensures in
    λ job matched. keeps_told (path_for job) c.in-Err.refusal (left c.args.host.now) (left c.command.new.host) (left c.refuse.new.host)
    (path c.args.host.now) (path c.command.new.host) (path c.refuse.new.host) (report_path job)
    (c.in-Err.ensures.keeps job matched) c.in-Err.ensures.up_to told.left told.path told.paths

pub returns-in-Err-clause-unasked : goal.returns-in-Err-clause-unasked
returns-in-Err-clause-unasked g c =
    let left = g.H.Host.left in
    let path = g.H.Host.path in
    let told = c.refuse.ensures in
    λ none. keeps_told report_only c.in-Err.refusal (left c.args.host.now) (left c.command.new.host) (left c.refuse.new.host)
    (path c.args.host.now) (path c.command.new.host) (path c.refuse.new.host) refl
    (c.in-Err.ensures.unasked none) c.in-Err.ensures.up_to told.left told.path told.paths

pub returns-in-Err-clause-complete : goal.returns-in-Err-clause-complete
returns-in-Err-clause-complete g c =
    let faults = g.H.Host.faults in
    let told = c.refuse.ensures in
    λ job matched accepts tells calm. completed (texts c.args.words.now) (g.H.Host.left c.args.host.now) (g.H.Host.left c.command.new.host) (g.H.Host.took c.args.host.now) (g.H.Host.took c.command.new.host)
    (faults c.args.host.now) (faults c.command.new.host) (faults c.refuse.new.host) job c.in-Err.refusal c.refuse.result
    c.in-Err.ensures.refused c.in-Err.ensures.counted told.status matched accepts tells calm told.faults told.later

pub returns-in-Err-clause-unwritten : goal.returns-in-Err-clause-unwritten
returns-in-Err-clause-unwritten g c =
    let path = g.H.Host.path in
    λ undone calm. unwritten c.in-Err.refusal c.refuse.result (path c.args.host.now) (path c.command.new.host) (path c.refuse.new.host)
    c.in-Err.ensures.up_to c.refuse.ensures.paths c.refuse.ensures.status calm

pub returns-in-Err-clause-unopened : goal.returns-in-Err-clause-unopened
returns-in-Err-clause-unopened g c =
    let path = g.H.Host.path in
    unopened c.in-Err.refusal c.refuse.result (path c.args.host.now) (path c.command.new.host) (path c.refuse.new.host)
    c.in-Err.ensures.up_to c.refuse.ensures.unopened c.refuse.ensures.status

pub returns-in-Err-clause-within : goal.returns-in-Err-clause-within
returns-in-Err-clause-within g c =
    let left = g.H.Host.left in
    memory_within c.in-Err.refusal c.refuse.result (left c.args.host.now) (left c.command.new.host) (left c.refuse.new.host)
    c.in-Err.ensures.within c.refuse.ensures.left c.refuse.ensures.status

pub returns-in-Err-clause-sure : goal.returns-in-Err-clause-sure
returns-in-Err-clause-sure g c =
    let took = g.H.Host.took in
    let promise = g.H.Host.promise in
    let faults = g.H.Host.faults in
    let told = c.refuse.ensures in
    λ job matched assured. assured_end (promise c.args.host.now) (promise c.command.new.host) (path_for job) (took c.command.new.host) (took c.refuse.new.host) (g.H.Host.path c.refuse.new.host (Out Report))
    (faults c.args.host.now) (faults c.command.new.host) (faults c.refuse.new.host) c.in-Err.refusal c.refuse.result (report_path job) c.command.ensures.promise
    (c.in-Err.ensures.sure job matched) c.in-Err.ensures.counted told.status told.line told.outputs told.sure assured

pub returns-in-Err-clause-sure_of_the_line : goal.returns-in-Err-clause-sure_of_the_line
returns-in-Err-clause-sure_of_the_line g c =
    let took = g.H.Host.took in
    let promise = g.H.Host.promise in
    let faults = g.H.Host.faults in
    let told = c.refuse.ensures in
    λ none assured. unasked_end (texts c.args.words.now) (g.H.Host.left c.args.host.now) (g.H.Host.left c.command.new.host) (took c.args.host.now) (promise c.args.host.now) (promise c.command.new.host) report_only
    (took c.command.new.host) (took c.refuse.new.host) (g.H.Host.path c.refuse.new.host (Out Report))
    (faults c.args.host.now) (faults c.command.new.host) (faults c.refuse.new.host) c.in-Err.refusal c.refuse.result none c.in-Err.ensures.refused refl c.command.ensures.promise
    c.in-Err.ensures.counted told.status told.line told.outputs told.sure assured
