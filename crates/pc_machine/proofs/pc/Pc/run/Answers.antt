use Rattle.std.proofs.Common.{◌≡◌, ℕ, ◌+◌, refl, sym, subst, arith, ◌∙◌}
use Rattle.mdl_state.specs.Machine.{Machine}
use Rattle.mdl_board.specs.Board.{BoardState}
use Rattle.mdl_step.specs.RunLaws.{StepsFor, steps_none}
use Rattle.mdl_step.specs.Computer.{board_rules, on_board, run_policy}
use Rattle.pc_machine.specs.Runs.{RanFor}
use Rattle.pc_machine.specs.EventLaws.{Split, after_events, ran_for, split_count}
use Rattle.pc_machine.proofs.Bursts.{none_between, split_between, steps_burst}
use Rattle.pc_machine.proofs.pc.Pc.run.Goals as goal

pub loop-done-init : goal.loop-done-init
loop-done-init c =
    let after = c.apply-applied.ensures in
    let first = after_events c.args.events.now c.args.self.now in
    record {
      ran = subst (λ (x : Machine BoardState). StepsFor board_rules on_board c.args.events.now run_policy 0 first x) (sym after.applied) (steps_none board_rules on_board c.args.events.now run_policy first);
      split = after.split;
      steps = omega (arith, after.steps);
      most = omega arith;
    }

pub steps_before_next-burst-requires : goal.steps_before_next-burst-requires
steps_before_next-burst-requires c = record {
  split = subst (λ (k : ℕ). Split (k + 1) (k + 1) c.args.events.now c.loop-done.applied) (sym c.steps.ensures) c.loop-done.invariant.split;
  most = omega (arith, c.loop-done-test.true);
}

pub advance-requires : goal.advance-requires
advance-requires c = omega (arith, c.steps_before_next-burst.ensures.most, c.loop-done.invariant.steps, c.requires.count, c.loop-done-test.true)

pub apply-applied-requires-in-loop-done : goal.apply-applied-requires-in-loop-done
apply-applied-requires-in-loop-done c =
    let next = c.steps_before_next-burst.ensures in
    let here = c.loop-done.self.state.core.steps in
    let now = c.advance.new.self.state.core.steps in
    let split : Split (here + 1) (here + c.steps_before_next-burst.result) c.args.events.now c.loop-done.applied = subst (λ (k : ℕ). Split (k + 1) (k + c.steps_before_next-burst.result) c.args.events.now c.loop-done.applied) c.steps.ensures next.split in
    record {
      split = split_between (here + 1) now (here + c.steps_before_next-burst.result) now c.args.events.now c.loop-done.applied split (omega (arith, c.advance.ensures.count, next.some)) (omega (arith, c.advance.ensures.count));
    }

pub loop-done-preserved : goal.loop-done-preserved
loop-done-preserved c =
    let held = c.loop-done.invariant in
    let after = c.apply-applied-in-loop-done.ensures in
    let next = c.steps_before_next-burst.ensures in
    let here = c.loop-done.self.state.core.steps in
    let split : Split (here + 1) (here + c.steps_before_next-burst.result) c.args.events.now c.loop-done.applied = subst (λ (k : ℕ). Split (k + 1) (k + c.steps_before_next-burst.result) c.args.events.now c.loop-done.applied) c.steps.ensures next.split in
    record {
      ran = steps_burst c.args.events.now c.loop-done.done c.steps_before_next-burst.result (after_events c.args.events.now c.args.self.now) c.loop-done.self c.advance.new.self c.apply-applied-in-loop-done.new.self
          held.ran c.advance.ensures.made next.some
          (λ j p q. none_between (here + 1) (here + c.steps_before_next-burst.result) j c.args.events.now c.loop-done.applied split (omega (arith, p)) q) after.applied;
      split = after.split;
      steps = omega (arith, after.steps, c.advance.ensures.count, held.steps);
      most = omega (arith, next.most, c.loop-done-test.true);
    }

pub returns-clause-ran : goal.returns-clause-ran
returns-clause-ran c = subst (λ (k : ℕ). RanFor c.args.events.now k c.args.self.now c.loop-done.self) (omega (arith, c.loop-done-test.false, c.loop-done.invariant.most))
    (ran_for c.args.events.now c.loop-done.done c.args.self.now c.loop-done.self c.loop-done.invariant.ran)

pub returns-clause-applied : goal.returns-clause-applied
returns-clause-applied c = split_count c.loop-done.self.state.core.steps c.args.events.now c.loop-done.applied c.loop-done.invariant.split
