use Rattle.std.proofs.Common.{ℕ, ◌+◌, ◌-◌, ◌≤◌, List, length, take, drop, ap, subst, arith, rules}
use Rattle.std.proofs.Math.Facts.{Fits-le}
use Rattle.mdl_state.specs.declared.Event.{Event}
use Rattle.monitor.specs.Moves.{Makes}
use Rattle.pc_machine.specs.Runs.{RanFor}
use Rattle.scripted_pc.specs.Played.{Played}
use Rattle.scripted_pc.proofs.Events.{part_rises, makes_all, due_more, due_most}
use Rattle.scripted_pc.proofs.guest.GuestTarget.advance.Goals as goal

pub run-applied-requires-clause-rises : goal.run-applied-requires-clause-rises
run-applied-requires-clause-rises c =
    part_rises c.self.inside.events.items c.as_slice.result.now c.self.inside.pc.state.core.steps c.self.inside.applied c.as_slice.ensures.value c.self.invariant.rises c.self.invariant.due

pub overflow_add-self : goal.overflow_add-self
overflow_add-self c =
    let k = c.self.inside.pc.state.core.steps in
    let j = c.run-applied.new.self.state.core.steps in
    let le : k ≤ j = omega (arith, c.run-applied.ensures.count) in
    let due = due_more c.self.inside.events.items c.as_slice.result.now c.self.inside.applied c.run-applied.result k j c.as_slice.ensures.value c.self.invariant.rises le c.self.invariant.due c.run-applied.ensures.applied in
    let most = due_most c.self.inside.events.items (c.self.inside.applied + c.run-applied.result) j due in
    let same = ap (λ (xs : List Event). length xs) c.as_slice.ensures.value in
    Fits-le most (search rules)

pub invariant_of-self : goal.invariant_of-self
invariant_of-self c =
    let k = c.self.inside.pc.state.core.steps in
    let j = c.run-applied.new.self.state.core.steps in
    let le : k ≤ j = omega (arith, c.run-applied.ensures.count) in
    let due = due_more c.self.inside.events.items c.as_slice.result.now c.self.inside.applied c.run-applied.result k j c.as_slice.ensures.value c.self.invariant.rises le c.self.invariant.due c.run-applied.ensures.applied in
    record {
      rises = c.self.invariant.rises;
      due = due;
      inside = due_most c.self.inside.events.items (c.self.inside.applied + c.run-applied.result) j due;
    }

pub returns-clause-made : goal.returns-clause-made
returns-clause-made c =
    subst (λ (p : Played). Makes p.events (c.args.to - p.machine.state.core.steps) p.machine c.run-applied.new.self) c.self.view_is
    (makes_all c.self.inside.events.items c.as_slice.result.now (c.args.to - c.self.inside.pc.state.core.steps) c.self.inside.applied c.self.inside.pc c.run-applied.new.self c.as_slice.ensures.value c.self.invariant.rises
    c.self.invariant.due (subst (λ (n : ℕ). RanFor (take (length c.as_slice.result.now - c.self.inside.applied) (drop c.self.inside.applied c.as_slice.result.now)) (c.args.to - n) c.self.inside.pc c.run-applied.new.self) c.steps.ensures c.run-applied.ensures.ran))
