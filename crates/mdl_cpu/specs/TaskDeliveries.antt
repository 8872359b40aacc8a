-- The delivery of interrupts and exceptions in every mode, to handlers and to tasks. Manual, chapters 7, 9, 10, 14 and 15.
use Rattle.std.specs.Prelude.{ℕ, zero, suc, Bool, false}
use Rattle.mdl_state.specs.declared.Regs.{Regs}
use Rattle.mdl_state.specs.declared.Fault.{Fault}
use Rattle.mdl_state.specs.declared.Activity.TheVariants.{Running}
use Rattle.mdl_state.specs.State.{Mem}
use Rattle.mdl_state.specs.Serving.{Serve, Outcome as Attempted, Passed, Failed, NoStep}
use Rattle.mdl_state.specs.Attempt.{tried, finished}
use Rattle.mdl_cpu.specs.declared.Cause.{Cause}
use Rattle.mdl_cpu.specs.declared.Outcome.{Outcome}
use Rattle.mdl_cpu.specs.declared.Outcome.TheVariants as outcome
use Rattle.mdl_cpu.specs.declared.Reason.TheVariants.{Interrupt}
use Rattle.mdl_cpu.specs.declared.Request.{Request}
use Rattle.mdl_cpu.specs.declared.Switched.{Switched}
use Rattle.mdl_cpu.specs.declared.Switched.TheVariants as switched
use Rattle.mdl_cpu.specs.Causes.{saved_eip}
use Rattle.mdl_cpu.specs.Transfers.{Transfer}
use Rattle.mdl_cpu.specs.Gates.{gate_way_plan, with_ext}
use Rattle.mdl_cpu.specs.DoubleFault.{combine}
use Rattle.mdl_cpu.specs.Switch.{Left, left, switch}
use Rattle.mdl_cpu.specs.Delivery.{Arrival, followed_by}

-- ---- one delivery

-- the switch to the task that a task gate names
abbrev pub task_request : Cause → Regs → ℕ → Request
task_request cause r sel = record {
  selector = sel;
  reason = Interrupt;
  direct = false;
  back = saved_eip r cause;
  code = cause.code;
  ext = cause.ext;
  fault = cause.fault;
}

-- T of the task that was entered, or the fault, in whichever task it was raised
abbrev pub entered : Attempted Switched → Regs → Mem → Left Bool × Mem
entered (Passed (switched.Done trap)) r m = left (Passed trap) r m
entered (Passed (switched.OldFault fault)) r m = left (Failed fault) r m
entered (Passed (switched.NewFault fault)) r m = left (Failed fault) r m
entered (Failed fault) r m = left (Failed fault) r m
entered NoStep r m = left NoStep r m

abbrev pub entering : Left Switched × Mem → Left Bool × Mem
entering w = entered w.0.outcome w.0.regs w.1

-- at a handler, or on to the task
abbrev pub by_way : Outcome → Serve → Cause → Regs → Mem → Left Bool × Mem
by_way outcome.Done serve cause r m = left (Passed false) r m
by_way (outcome.Switch sel) serve cause r m = entering (switch serve r (task_request cause r sel) m)

abbrev pub behind_gate : Serve → Cause → Regs → Attempted Transfer × Mem → Left Bool × Mem
behind_gate serve cause r (Passed t, n) = by_way t.outcome serve cause t.regs n
behind_gate serve cause r (Failed fault, n) = left (Failed fault) r n
behind_gate serve cause r (NoStep, n) = left NoStep r n

-- One delivery, committed: whether a task with its T bit set was entered, or the fault that it raises, with the
-- registers of the task in which that is.
unfoldable pub delivered_by_gate : Serve → Cause → Regs → Mem → Left Bool × Mem
delivered_by_gate serve cause r m = behind_gate serve cause r (finished (with_ext cause.ext (tried serve 0 (gate_way_plan cause r) m)))

-- ---- a delivery and those of the faults that arise

-- code goes on with these registers
abbrev pub going_on : Bool → Regs → Arrival
going_on trap r = record { regs = r; activity = Running; trap = trap }

abbrev pub settled : Attempted Bool → Regs → Mem → (Fault → Regs → Mem → Attempted Arrival × Mem) → Attempted Arrival × Mem
settled (Passed trap) r m next = (Passed (going_on trap r), m)
settled (Failed fault) r m next = next fault r m
settled NoStep r m next = (NoStep, m)

abbrev pub behind_delivery : Left Bool × Mem → (Fault → Regs → Mem → Attempted Arrival × Mem) → Attempted Arrival × Mem
behind_delivery w next = settled w.0.outcome w.0.regs w.1 next

-- there is no step that makes more than so many
unfoldable pub deliveries_by_gate : ℕ → Serve → Cause → Regs → Mem → Attempted Arrival × Mem
deliveries_by_gate zero serve cause r m = (NoStep, m)
deliveries_by_gate (suc more) serve cause r m =
    behind_delivery (delivered_by_gate serve cause r m) (λ fault q n. followed_by (combine cause fault) q n (deliveries_by_gate more serve))

-- a step makes at most four deliveries
unfoldable pub deliver_by_gate : Serve → Cause → Regs → Mem → Attempted Arrival × Mem
deliver_by_gate serve cause r m = deliveries_by_gate 4 serve cause r m
