use Rattle.std.proofs.Common.{◌≡◌, true}
use Rattle.cpu_core.proofs.tests.run.Given as goal

abbrev pub invariant-loop-step : goal.invariant-loop-step
invariant-loop-step l = record {
  count : l.cpu.state.core.steps ≡ l.step;
  a20 : l.cpu.state.mem.physical.a20 ≡ true;
}
