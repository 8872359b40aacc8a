use Rattle.std.proofs.Common.{◌≡◌, ℕ, ◌+◌, ◌-◌, [], refl, ap, sym, subst, ◌∙◌, arith}
use Rattle.mdl_state.specs.Machine.{Machine}
use Rattle.mdl_board.specs.Board.{BoardState}
use Rattle.mdl_step.specs.RunLaws.{StepsFor, SomeStep, steps_none, steps_more}
use Rattle.mdl_step.specs.Computer.{board_rules, on_board, run_policy}
use Rattle.cpu_core.specs.Passing.{later}
use Rattle.pc_machine.proofs.Bursts.{steps_idle}
use Rattle.pc_machine.proofs.pc.Pc.advance.Goals as goal

pub loop-done-init : goal.loop-done-init
loop-done-init c = record { ran = steps_none board_rules on_board [] run_policy c.args.self.now; steps = omega arith }

pub step-requires : goal.step-requires
step-requires c = omega (arith, ap (λ (x : Machine BoardState). x.state.core.steps) c.if-pass.ensures.unchanged, c.loop-done.invariant.steps, c.loop-done-test.true, c.requires)

pub returns-then-pass-clause-made : goal.returns-then-pass-clause-made
returns-then-pass-clause-made c =
    let held = c.loop-done.invariant in
    let left = c.args.steps - c.loop-done.done in
    let passed = c.if-pass.ensures in
    subst (λ (k : ℕ). StepsFor board_rules on_board [] run_policy k c.args.self.now c.pass.new.self) (omega (arith, c.loop-done-test.true))
    (subst (λ (x : Machine BoardState). StepsFor board_rules on_board [] run_policy (c.loop-done.done + left) c.args.self.now x) (sym passed.passed)
    (steps_idle c.loop-done.done left c.args.self.now c.loop-done.self held.ran passed.idle passed.settled))

pub returns-then-pass-clause-count : goal.returns-then-pass-clause-count
returns-then-pass-clause-count c = omega (arith, ap (λ (x : Machine BoardState). x.state.core.steps) c.if-pass.ensures.passed, c.loop-done.invariant.steps, c.loop-done-test.true)

pub loop-done-preserved : goal.loop-done-preserved
loop-done-preserved c =
    let held = c.loop-done.invariant in
    let same = c.if-pass.ensures.unchanged in
    record {
      ran = steps_more board_rules on_board [] run_policy c.loop-done.done c.args.self.now c.loop-done.self c.step.new.self c.step.new.self held.ran
          (subst (λ (x : Machine BoardState). SomeStep board_rules run_policy x c.step.new.self) same c.step.ensures.made) refl;
      steps = omega (arith, c.step.ensures.count, ap (λ (x : Machine BoardState). x.state.core.steps) same, held.steps);
    }

pub returns-clause-made : goal.returns-clause-made
returns-clause-made c = subst (λ (k : ℕ). StepsFor board_rules on_board [] run_policy k c.args.self.now c.loop-done.self) (omega (arith, c.loop-done-test.false, c.loop-done.auto.done-end)) c.loop-done.invariant.ran
