use Rattle.std.proofs.Common.{rules, ◌≡◌, ◌++◌, ◌∷◌, [], List, ◌+◌, subst, sym, arith}
use Rattle.mdl_state.specs.declared.Event.{Event}
use Rattle.mdl_text.specs.Script.{IsFirstBad}
use Rattle.mdl_text.specs.ScriptLaws.{Follows}
use Rattle.script_gen.proofs.Reading.{HasRead, skips, takes, ends, refuses}
use Rattle.script_gen.proofs.script.read_script.Goals as goal

pub loop-line-preserved-then-is_skipped : goal.loop-line-preserved-then-is_skipped
loop-line-preserved-then-is_skipped c =
    let shorter = c.in-Some.ensures.shorter in record {
      room = omega arith;
      read = skips c.args.bytes.now c.loop-line.rest.now c.in-Some.line.now c.in-Some.behind.now c.loop-line.number c.loop-line.events.items c.loop-line.invariant.read c.in-Some.ensures.some (sym c.if-is_skipped.ensures);
    }

pub returns-in_default-next_event-clause-line : goal.returns-in_default-next_event-clause-line
returns-in_default-next_event-clause-line c = λ n e.
    let none : (event : Event) → ¬ (Follows c.loop-line.events.items c.in-Some.line.now event) = subst (λ (es : List Event). (event : Event) → ¬ (Follows es c.in-Some.line.now event)) c.deref.ensures.value c.in_default-next_event.ensures.none in
    let bad = refuses c.args.bytes.now c.loop-line.rest.now c.in-Some.line.now c.in-Some.behind.now c.loop-line.number c.loop-line.events.items c.loop-line.invariant.read c.in-Some.ensures.some (sym c.if-is_skipped.ensures) none in
    let same : c.loop-line.number + 1 ≡ n = cc in
    subst (IsFirstBad c.args.bytes.now) same bad

pub loop-line-preserved : goal.loop-line-preserved
loop-line-preserved c =
    let shorter = c.in-Some.ensures.shorter in
    let pushed : c.push.new.self.items ≡ c.loop-line.events.items ++ c.in-Some-next_event.event ∷ [] = search rules in
    let follows : Follows c.loop-line.events.items c.in-Some.line.now c.in-Some-next_event.event = subst (λ (es : List Event). Follows es c.in-Some.line.now c.in-Some-next_event.event) c.deref.ensures.value c.in-Some-next_event.ensures.some in
    record {
      room = omega arith;
      read = subst (HasRead c.args.bytes.now (c.loop-line.number + 1) c.in-Some.behind.now) (sym pushed) (takes c.args.bytes.now c.loop-line.rest.now c.in-Some.line.now c.in-Some.behind.now c.loop-line.number c.loop-line.events.items c.in-Some-next_event.event c.loop-line.invariant.read c.in-Some.ensures.some (sym c.if-is_skipped.ensures) follows);
    }

pub returns-clause-script : goal.returns-clause-script
returns-clause-script c = ends c.args.bytes.now c.loop-line.rest.now c.loop-line.number c.loop-line.events.items c.loop-line.invariant.read c.in_default.ensures.none
