-- The delivery of interrupts and exceptions. Manual, chapters 9, 10 and 14.
use Rattle.std.specs.Prelude.{ℕ, zero, suc, Bool, false, Option, Some, None}
use Rattle.mdl_state.specs.declared.Regs.{Regs}
use Rattle.mdl_state.specs.declared.Fault.{Fault}
use Rattle.mdl_state.specs.declared.Activity.{Activity}
use Rattle.mdl_state.specs.declared.Activity.TheVariants.{Running, Shutdown}
use Rattle.mdl_state.specs.State.{Mem}
use Rattle.mdl_state.specs.Serving.{Serve, Outcome, Passed, NoStep, handled}
use Rattle.mdl_state.specs.Attempt.{tried, finished}
use Rattle.mdl_cpu.specs.declared.Cause.{Cause}
use Rattle.mdl_cpu.specs.Causes.{fault_cause, with_address}
use Rattle.mdl_cpu.specs.Gates.{gate_plan, with_ext}
use Rattle.mdl_cpu.specs.DoubleFault.{combine}

-- what a delivery comes to: the registers, what the processor then does, and whether a task with its T bit
-- set was entered
pub record Arrival : Type 0 where
  pub regs : Regs
  pub activity : Activity
  pub trap : Bool

-- at a handler
abbrev pub running : Regs → Arrival
running r = record { regs = r; activity = Running; trap = false }

-- shut down
abbrev pub shut_down : Regs → Arrival
shut_down r = record { regs = r; activity = Shutdown; trap = false }

-- One delivery: an attempt that is wholly committed, or the fault that it raises.
unfoldable pub delivered_once : Serve → Cause → Regs → Mem → Outcome Regs × Mem
delivered_once serve cause r m = finished (with_ext cause.ext (tried serve 0 (gate_plan cause r) m))

-- what follows the fault of a delivery, with the registers as when that began: the delivery of this fault, with EIP
-- as it stands, or shutdown
abbrev pub followed_by : Option Fault → Regs → Mem → (Cause → Regs → Mem → Outcome Arrival × Mem) → Outcome Arrival × Mem
followed_by None r m next = (Passed (shut_down r), m)
followed_by (Some fault) r m next = next (fault_cause r fault) (with_address r fault) m

-- a delivery and those of the faults that arise; there is no step that makes more than so many
unfoldable pub deliveries : ℕ → Serve → Cause → Regs → Mem → Outcome Arrival × Mem
deliveries zero serve cause r m = (NoStep, m)
deliveries (suc more) serve cause r m = handled (delivered_once serve cause r m) (λ q n. (Passed (running q), n))
    (λ fault n. followed_by (combine cause fault) r n (deliveries more serve))

-- The delivery of a cause. A step makes at most four deliveries, and none needs a fifth.
unfoldable pub deliver : Serve → Cause → Regs → Mem → Outcome Arrival × Mem
deliver serve cause r m = deliveries 4 serve cause r m
