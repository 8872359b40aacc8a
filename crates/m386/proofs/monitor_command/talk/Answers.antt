use Rattle.std.proofs.Common.{refl, sym, subst, [], ◌∙◌}
use Rattle.host_io.specs.declared.host.InSlot.TheVariants.{Commands}
use Rattle.host_io.specs.declared.host.OutSlot.TheVariants.{Report}
use Rattle.host_io.specs.declared.host.Slot.TheVariants.{In}
use Rattle.host_io.specs.Promises.{Promise, IsSure, Opens}
use Rattle.monitor.specs.declared.session.Broken.{Broken}
use Rattle.monitor.specs.Session.{IsExcused}
use Rattle.m386.specs.Talking.{talk_path}
use Rattle.m386.proofs.Assured.{report_full, report_unopened}
use Rattle.m386.proofs.Monitors.{talked, talk_cut, talk_interrupted, talk_overlong}
use Rattle.m386.proofs.monitor_command.talk.Goals as goal

pub returns-in-Ok-converse-clause-ok : goal.returns-in-Ok-converse-clause-ok
returns-in-Ok-converse-clause-ok g c =
    let left = g.H.Host.left in
    let took = g.H.Host.took in
    let guest = c.args.guest.now in
    talked guest.events guest.machine c.converse.new.target.machine (left c.args.host.now Commands) (left c.open_out.new.self Commands) (took c.args.host.now Report) (took c.open_out.new.self Report) (took c.converse.new.host Report)
    (c.open_out.ensures.left Commands ∙ c.open_in.ensures.left Commands) (c.open_out.ensures.took Report ∙ c.open_in.ensures.took Report) c.in-Ok-converse.ensures.session

pub returns-in-Err-Report-clause-refused : goal.returns-in-Err-Report-clause-refused
returns-in-Err-Report-clause-refused g c =
    let left = g.H.Host.left in
    let took = g.H.Host.took in
    let guest = c.args.guest.now in
    talk_cut c.in-Err-Report.field-0 guest.events guest.machine c.converse.new.target.machine (left c.args.host.now Commands) (left c.open_out.new.self Commands) (left c.converse.new.host Commands) (took c.args.host.now Report) (took c.open_out.new.self Report) (took c.converse.new.host Report)
    c.in-Err-Report.field-0-is (c.open_out.ensures.left Commands ∙ c.open_in.ensures.left Commands) (c.open_out.ensures.took Report ∙ c.open_in.ensures.took Report) c.in-Err-Report.ensures.broken

pub returns-in-Err-Report-clause-inputs : goal.returns-in-Err-Report-clause-inputs
returns-in-Err-Report-clause-inputs g c = λ other differs. c.converse.ensures.inputs other differs ∙ c.open_out.ensures.left other ∙ c.open_in.ensures.left other

pub returns-in-Err-Report-clause-outputs : goal.returns-in-Err-Report-clause-outputs
returns-in-Err-Report-clause-outputs g c = λ other differs. c.converse.ensures.outputs other differs ∙ c.open_out.ensures.took other ∙ c.open_in.ensures.took other

pub returns-in-Err-Commands-clause-refused : goal.returns-in-Err-Commands-clause-refused
returns-in-Err-Commands-clause-refused g c =
    let left = g.H.Host.left in
    let took = g.H.Host.took in
    let guest = c.args.guest.now in
    talk_interrupted c.in-Err-Commands.field-0 guest.events guest.machine c.converse.new.target.machine (left c.args.host.now Commands) (left c.open_out.new.self Commands) (left c.converse.new.host Commands) (took c.args.host.now Report) (took c.open_out.new.self Report) (took c.converse.new.host Report)
    c.in-Err-Commands.field-0-is (c.open_out.ensures.left Commands ∙ c.open_in.ensures.left Commands) (c.open_out.ensures.took Report ∙ c.open_in.ensures.took Report) c.in-Err-Commands.ensures.broken

pub returns-in-Err-TooLong-clause-refused : goal.returns-in-Err-TooLong-clause-refused
returns-in-Err-TooLong-clause-refused g c =
    let left = g.H.Host.left in
    let took = g.H.Host.took in
    let guest = c.args.guest.now in
    talk_overlong c.in-Err-TooLong.field-0 guest.events guest.machine c.converse.new.target.machine (left c.args.host.now Commands) (left c.open_out.new.self Commands) (left c.converse.new.host Commands) (took c.args.host.now Report) (took c.open_out.new.self Report) (took c.converse.new.host Report)
    c.in-Err-TooLong.field-0-is (c.open_out.ensures.left Commands ∙ c.open_in.ensures.left Commands) (c.open_out.ensures.took Report ∙ c.open_in.ensures.took Report) c.in-Err-TooLong.ensures.broken

pub returns-in_default-clause-sure : goal.returns-in_default-clause-sure
returns-in_default-clause-sure g c = λ assured. c.in_default.ensures.sure (assured.opens (In Commands))

pub returns-in_default-open_out-clause-sure : goal.returns-in_default-open_out-clause-sure
returns-in_default-open_out-clause-sure g c =
    let promise = g.H.Host.promise in
    report_unopened (promise c.args.host.now) (promise c.open_in.new.self) talk_path (g.H.Host.took c.open_out.new.self) refl c.open_in.ensures.promise c.in_default-open_out.ensures.sure

pub returns-in-Err-Report-clause-sure : goal.returns-in-Err-Report-clause-sure
returns-in-Err-Report-clause-sure g c =
    let promise = g.H.Host.promise in
    let took = g.H.Host.took c.converse.new.host in
    report_full (promise c.args.host.now) (promise c.open_out.new.self) talk_path took refl (c.open_out.ensures.promise ∙ c.open_in.ensures.promise)
    (subst (λ (b : Broken). IsExcused b (promise c.open_out.new.self) (took Report)) c.in-Err-Report.field-0-is c.in-Err-Report.ensures.sure)

pub returns-in-Err-Commands-clause-sure : goal.returns-in-Err-Commands-clause-sure
returns-in-Err-Commands-clause-sure g c = λ assured.
    let promise = g.H.Host.promise in
    let took = g.H.Host.took c.converse.new.host in
    let opens : Opens (promise c.args.host.now) (In Commands) [] = assured.opens (In Commands) in
    let fails = subst (λ (b : Broken). IsExcused b (promise c.open_out.new.self) (took Report)) c.in-Err-Commands.field-0-is c.in-Err-Commands.ensures.sure in
    fails (subst (λ (p : Promise). IsSure p (In Commands)) (sym (c.open_out.ensures.promise ∙ c.open_in.ensures.promise)) opens.sure)
