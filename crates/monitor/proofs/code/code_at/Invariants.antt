use Rattle.std.proofs.Common.{◌≡◌, ◌+◌, ◌%◌, ◌^◌, ◌<◌, ℕ, length, Some}
use Rattle.std.specs.Prelude.{slice_index}
use Rattle.mdl_step.specs.Computer.{linear_byte}
use Rattle.monitor.proofs.code.code_at.Given as goal

abbrev pub invariant-loop-place : goal.invariant-loop-place
invariant-loop-place g l = record {
  count : length l.code.items ≡ l.place;
  each : (i : ℕ) → i < l.place → linear_byte (g.T.Target.machine l.target).state.mem ((l.at + i) % 2 ^ 32) ≡ Some (slice_index l.code.items i);
}
