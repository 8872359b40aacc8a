use Rattle.std.proofs.Common.{◌≡◌, ap, arith}
use Rattle.mdl_state.specs.declared.Event.{Event}
use Rattle.mdl_text.specs.ScriptLaws.{one_event}
use Rattle.script_gen.proofs.script.next_event.Goals as goal
use Rattle.script_gen.proofs.script.next_event.Goals.{then-event-last_count-via-then-event-last_count, then-event-last_count-via-else-event-last_count+then-events-ge-MOST_EVENTS}

pub returns-in_err-event-clause-none : goal.returns-in_err-event-clause-none
returns-in_err-event-clause-none c = rw c.from_residual.ensures (λ event f. c.in_err-event.ensures.none event f.stated)

pub returns-then-event-last_count-clause-none : goal.returns-then-event-last_count-clause-none
returns-then-event-last_count-clause-none c = λ event f.
    let same : event.at ≡ c.in_ok-event.event.at = ap (λ (e : Event). e.at) (one_event c.args.line.now event c.in_ok-event.event f.stated c.in_ok-event.ensures.some) in
    let rising = f.rising in
    let room = f.room in
    let last = c.last_count.ensures in
    elim c.then-event-last_count.branch [
      | then-event-last_count-via-then-event-last_count w ↦ omega (arith, w.if-event-last_count.true)
      | then-event-last_count-via-else-event-last_count+then-events-ge-MOST_EVENTS w ↦ omega (arith, w.if-events-ge-MOST_EVENTS.true)
    ]
