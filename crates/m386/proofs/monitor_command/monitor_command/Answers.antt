use Rattle.std.proofs.Common.{rules, refl, Result, Ok, Err, OnOk, ◌∙◌}
use Rattle.host_io.specs.declared.host.InSlot.TheVariants.{Commands}
use Rattle.command_words.specs.Jobs.{machine_of}
use Rattle.m386.specs.Feeding.{fed_of}
use Rattle.m386.proofs.Slots.{counted_result}
use Rattle.m386.proofs.Opening.{up_to_result}
use Rattle.m386.proofs.Monitors.{keeps_talk, session_result, talk_result}
use Rattle.m386.proofs.Within.{talk_within, any_within}
use Rattle.m386.proofs.Assured.{inputs_open, talk_quiet}
use Rattle.host_io.specs.Slots.{Same}
use Rattle.m386.specs.Slots.{Counts}
use Rattle.m386.proofs.monitor_command.monitor_command.Goals as goal

-- no count rose in the session, nor before it
kept_then : {T E : Type 0} (r : Result T E) (f g h : Counts) → Same f g → OnOk r (Same g h) → OnOk r (Same f h)
kept_then (Ok x) f g h first second = λ slot. second slot ∙ first slot
kept_then (Err e) f g h first second = tt

pub returns-clause-kept : goal.returns-clause-kept
returns-clause-kept g c =
    let faults = g.H.Host.faults in
    kept_then c.talk.result (faults c.args.host.now) (faults c.read_inputs.new.host) (faults c.talk.new.host) c.in_ok-inputs.ensures.kept c.talk.ensures.kept

pub returns-clause-ok : goal.returns-clause-ok
returns-clause-ok g c =
    let left = g.H.Host.left in
    let took = g.H.Host.took in
    let path = g.H.Host.path in
    let read = c.in_ok-inputs.ensures in
    let talked = c.talk.ensures in
    session_result c.talk.result (machine_of c.args.machine.now) (left c.args.host.now) (left c.read_inputs.new.host) (took c.args.host.now) (took c.read_inputs.new.host) (took c.talk.new.host)
    (path c.args.host.now) (path c.read_inputs.new.host) (path c.talk.new.host) (fed_of c.in_ok-inputs.inputs) c.in_ok-guest.guest
    read.fed c.in_ok-guest.ensures.ok (read.unread Commands refl) read.took talked.outputs read.opened read.outputs talked.opened talked.ok

pub returns-clause-refused : goal.returns-clause-refused
returns-clause-refused g c =
    let left = g.H.Host.left in
    let took = g.H.Host.took in
    let read = c.in_ok-inputs.ensures in
    let talked = c.talk.ensures in
    talk_result c.talk.result (machine_of c.args.machine.now) (left c.args.host.now) (left c.read_inputs.new.host) (left c.talk.new.host) (took c.args.host.now) (took c.read_inputs.new.host) (took c.talk.new.host)
    (fed_of c.in_ok-inputs.inputs) c.in_ok-guest.guest read.fed c.in_ok-guest.ensures.ok (read.unread Commands refl) read.took talked.outputs talked.refused

pub returns-clause-counted : goal.returns-clause-counted
returns-clause-counted g c =
    let faults = g.H.Host.faults in
    counted_result c.talk.result (faults c.args.host.now) (faults c.read_inputs.new.host) (faults c.talk.new.host) c.in_ok-inputs.ensures.kept c.talk.ensures.counted

pub returns-clause-up_to : goal.returns-clause-up_to
returns-clause-up_to g c =
    let path = g.H.Host.path in
    up_to_result c.talk.result (path c.args.host.now) (path c.read_inputs.new.host) (path c.talk.new.host) c.in_ok-inputs.ensures.outputs c.talk.ensures.up_to

pub returns-clause-keeps : goal.returns-clause-keeps
returns-clause-keeps g c =
    let left = g.H.Host.left in
    let path = g.H.Host.path in
    let read = c.in_ok-inputs.ensures in
    keeps_talk (machine_of c.args.machine.now) (left c.args.host.now) (left c.read_inputs.new.host) (left c.talk.new.host) (path c.args.host.now) (path c.read_inputs.new.host) (path c.talk.new.host)
    read.only read.outputs read.unread c.talk.ensures.only c.talk.ensures.inputs

pub returns-clause-within : goal.returns-clause-within
returns-clause-within g c =
    let left = g.H.Host.left in
    talk_within c.talk.result (left c.args.host.now) (left c.talk.new.host) c.talk.ensures.memory

pub returns-in_err-guest-clause-within : goal.returns-in_err-guest-clause-within
returns-in_err-guest-clause-within g c =
    let left = g.H.Host.left in
    search (rules, any_within (left c.args.host.now) (left c.read_inputs.new.host) c.in_err-guest.field-0.0 c.in_ok-inputs.ensures.within)

pub returns-in_err-inputs-clause-sure : goal.returns-in_err-inputs-clause-sure
returns-in_err-inputs-clause-sure g c = λ assured.
    search (rules, c.in_err-inputs.ensures.sure (inputs_open (g.H.Host.promise c.args.host.now) (machine_of c.args.machine.now) (g.H.Host.took c.read_inputs.new.host) assured))

pub returns-clause-sure : goal.returns-clause-sure
returns-clause-sure g c =
    let promise = g.H.Host.promise in
    talk_quiet c.talk.result (promise c.args.host.now) (promise c.read_inputs.new.host) (machine_of c.args.machine.now) (g.H.Host.took c.talk.new.host) c.read_inputs.ensures.promise c.talk.ensures.sure
