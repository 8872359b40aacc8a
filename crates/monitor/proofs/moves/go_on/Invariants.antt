use Rattle.std.proofs.Common.{◌≡◌, ◌≤◌, ◌+◌}
use Rattle.monitor.specs.Moves.{Passes}
use Rattle.monitor.proofs.moves.go_on.Given as goal

abbrev pub invariant-loop-step : goal.invariant-loop-step
invariant-loop-step g l = record {
  passes : Passes (g.T.Target.script l.fn.target) l.breaks.items l._step (g.T.Target.machine l.fn.target) (g.T.Target.machine l.target);
  bound : (g.T.Target.machine l.target).state.core.steps ≤ (g.T.Target.machine l.fn.target).state.core.steps + l._step;
  script : g.T.Target.script l.target ≡ g.T.Target.script l.fn.target;
}
