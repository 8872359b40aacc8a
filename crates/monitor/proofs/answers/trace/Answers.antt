use Rattle.std.proofs.Common.{ℕ, List, ◌++◌, length, min, ap, ◌∙◌, arith}
use Rattle.monitor.specs.Moves.{steps_left}
use Rattle.monitor.proofs.Steps.{makes_with, trace_more, trace_whole}
use Rattle.monitor.proofs.answers.trace.Goals as goal

pub loop-line-preserved : goal.loop-line-preserved
loop-line-preserved g c =
    let mid = g.T.Target.machine c.loop-line.target in
    let n = g.T.Target.machine c.move_by.new.target in
    let events = g.T.Target.script c.args.target.now in
    let held = c.loop-line.invariant in
    let pushed = c.push_line in
    let same = ap (λ (xs : List ℕ). length xs) c.as_slice.ensures.value in
    record {
      traces = trace_more events c.loop-line._line (g.T.Target.machine c.args.target.now) mid n c.loop-line.text.items c.place_line.result.items pushed.new.text.items held.traces
          (makes_with (g.T.Target.script c.loop-line.target) events (min 1 (steps_left mid)) mid n held.script c.move_by.ensures.made)
          c.place_line.ensures.line (pushed.ensures.text ∙ ap (λ (xs : List ℕ). c.loop-line.text.items ++ xs) c.as_slice.ensures.value);
      length = omega (arith, held.length, pushed.ensures.length, c.place_line.ensures.length, same);
      bound = c.move_by.ensures.bound;
      script = c.move_by.ensures.script ∙ held.script;
    }

pub returns-clause-trace : goal.returns-clause-trace
returns-clause-trace g c =
    trace_whole (g.T.Target.script c.args.target.now) c.loop-line._line c.args.count (g.T.Target.machine c.args.target.now) (g.T.Target.machine c.loop-line.target) c.loop-line.text.items
    (omega (arith, c.loop-line-test.false, c.loop-line.auto._line-end)) c.loop-line.invariant.traces
