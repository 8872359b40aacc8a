use Rattle.std.proofs.Common.{rules, arith, min, ◌∙◌}
use Rattle.monitor.specs.Moves.{steps_left, IsStopped}
use Rattle.monitor.specs.Answers.{most_continued}
use Rattle.monitor.proofs.Steps.{most_is, makes_with, passes_more, met, through}
use Rattle.monitor.proofs.moves.go_on.Goals as goal

pub returns-then-is_stopped-clause-made : goal.returns-then-is_stopped-clause-made
returns-then-is_stopped-clause-made g c =
    let m = g.T.Target.machine c.args.target.now in
    let mid = g.T.Target.machine c.loop-step.target in
    let n = g.T.Target.machine c.step.new.self in
    let events = g.T.Target.script c.args.target.now in
    let most = most_is m c.min-most.result c.steps.result c.min-most.ensures c.steps.ensures in
    met events c.args.breaks.now.items c.loop-step._step (min most_continued (steps_left m)) m mid n (omega (arith, most, c.loop-step-test.true)) c.loop-step.invariant.passes
    (makes_with (g.T.Target.script c.loop-step.target) events 1 mid n c.loop-step.invariant.script c.step.ensures.made)
    (c.if-is_stopped.ensures.0 (search rules))

pub loop-step-preserved : goal.loop-step-preserved
loop-step-preserved g c =
    let m = g.T.Target.machine c.args.target.now in
    let mid = g.T.Target.machine c.loop-step.target in
    let n = g.T.Target.machine c.step.new.self in
    let events = g.T.Target.script c.args.target.now in
    let held = c.loop-step.invariant in
    record {
      passes = passes_more events c.args.breaks.now.items c.loop-step._step m mid n held.passes
          (makes_with (g.T.Target.script c.loop-step.target) events 1 mid n held.script c.step.ensures.made)
          (λ (is : IsStopped c.args.breaks.now.items n). let no = c.if-is_stopped.ensures.1 is in cc);
      bound = omega (arith, held.bound, c.step.ensures.count);
      script = c.step.ensures.script ∙ held.script;
    }

pub returns-clause-made : goal.returns-clause-made
returns-clause-made g c =
    let m = g.T.Target.machine c.args.target.now in
    let most = most_is m c.min-most.result c.steps.result c.min-most.ensures c.steps.ensures in
    through (g.T.Target.script c.args.target.now) c.args.breaks.now.items c.loop-step._step (min most_continued (steps_left m)) m (g.T.Target.machine c.loop-step.target)
    (omega (arith, most, c.loop-step-test.false, c.loop-step.auto._step-end)) c.loop-step.invariant.passes
