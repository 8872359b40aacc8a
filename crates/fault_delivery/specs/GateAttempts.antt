-- The attempt of a gate, which a task gate's switch follows. Manual, chapter 9.
use Rattle.mdl_state.specs.declared.Regs.{Regs}
use Rattle.mdl_state.specs.State.{Mem}
use Rattle.mdl_state.specs.Serving.{Serve, Outcome}
use Rattle.mdl_state.specs.Attempt.{tried, finished}
use Rattle.mdl_cpu.specs.declared.Cause.{Cause}
use Rattle.mdl_cpu.specs.Transfers.{Transfer}
use Rattle.mdl_cpu.specs.Gates.{gate_way_plan, with_ext}

-- the way through the gate of a cause, placed or dropped
abbrev pub gate_attempt : Serve → Cause → Regs → Mem → Outcome Transfer × Mem
gate_attempt serve cause r m = finished (with_ext cause.ext (tried serve 0 (gate_way_plan cause r) m))
