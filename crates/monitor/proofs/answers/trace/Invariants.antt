use Rattle.std.proofs.Common.{◌≡◌, ◌≤◌, ◌*◌, length}
use Rattle.mdl_text.specs.CommandLine.{most_steps}
use Rattle.monitor.specs.Answers.{Traces}
use Rattle.monitor.proofs.answers.trace.Given as goal

abbrev pub invariant-loop-line : goal.invariant-loop-line
invariant-loop-line g l = record {
  traces : Traces (g.T.Target.script l.fn.target) l._line (g.T.Target.machine l.fn.target) (g.T.Target.machine l.target) l.text.items;
  length : length l.text.items ≤ 140 * l._line;
  bound : (g.T.Target.machine l.target).state.core.steps ≤ most_steps;
  script : g.T.Target.script l.target ≡ g.T.Target.script l.fn.target;
}
