use Rattle.std.proofs.Common.{sym, subst}
use Rattle.mdl_text.specs.Script.{IsKindText}
use Rattle.script_gen.proofs.NotStated.{no_space, parts}
use Rattle.script_gen.proofs.events.event_of.Goals as goal

pub returns-in_err-count-clause-none : goal.returns-in_err-count-clause-none
returns-in_err-count-clause-none c = rw c.from_residual.ensures (λ event s. no_space c.args.line.now c.in_err-count.ensures.none event s)

pub returns-in_err-at-clause-none : goal.returns-in_err-at-clause-none
returns-in_err-at-clause-none c = rw c.from_residual-in_err-at.ensures (λ event s.
    let p = parts c.args.line.now c.in_ok-count.count.now c.in_ok-count.kind.now c.in_ok-count.ensures.whole c.in_ok-count.ensures.first event s in
    c.in_err-at.ensures.none event.at s.count (sym p.0))

pub returns-in_err-kind-clause-none : goal.returns-in_err-kind-clause-none
returns-in_err-kind-clause-none c = rw c.from_residual-in_err-kind.ensures (λ event s.
    let p = parts c.args.line.now c.in_ok-count.count.now c.in_ok-count.kind.now c.in_ok-count.ensures.whole c.in_ok-count.ensures.first event s in
    c.in_err-kind.ensures.none event.kind (subst (IsKindText event.kind) p.1 s.happens))
