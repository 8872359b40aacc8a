-- A gate that raises a fault leaves memory as it was but for the cache and the marks of walks.
use Rattle.std.proofs.Common.{◌≡◌, Bool, refl, []}
use Rattle.mdl_state.specs.declared.Regs.{Regs}
use Rattle.mdl_state.specs.State.{Mem}
use Rattle.mdl_state.specs.Serving.{Serve, Outcome, Passed, Failed, NoStep}
use Rattle.mdl_state.specs.Accesses.{discarded}
use Rattle.mdl_state.specs.Attempt.{tried, finished}
use Rattle.mdl_state.specs.Restart.{bare, OnlyMarks, Leaves, IsFailed, tried_bare}
use Rattle.mdl_cpu.specs.declared.Cause.{Cause}
use Rattle.mdl_cpu.specs.Gates.{gate_way_plan, with_ext}

finished_bare : {A : Type 0} (ext : Bool) (m : Mem) (w : Outcome A × Mem) → Leaves m w → IsFailed (finished (with_ext ext w)).0
    → (bare (finished (with_ext ext w)).1 ≡ bare m) × ((finished (with_ext ext w)).1.held ≡ [])
unfolding discarded
finished_bare ext m (Passed x, n) l f = absurd f
finished_bare ext m (Failed fault, n) l f = (l.same, refl)
finished_bare ext m (NoStep, n) l f = absurd f

pub gate_restarts : (serve : Serve) → OnlyMarks serve → (cause : Cause) (r : Regs) (m : Mem)
    → IsFailed (finished (with_ext cause.ext (tried serve 0 (gate_way_plan cause r) m))).0
    → (bare (finished (with_ext cause.ext (tried serve 0 (gate_way_plan cause r) m))).1 ≡ bare m)
    × ((finished (with_ext cause.ext (tried serve 0 (gate_way_plan cause r) m))).1.held ≡ [])
gate_restarts serve marks cause r m f = finished_bare cause.ext m (tried serve 0 (gate_way_plan cause r) m) (tried_bare serve marks 0 (gate_way_plan cause r) m) f
