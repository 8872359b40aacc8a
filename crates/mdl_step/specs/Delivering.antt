-- The processor as an exception or interrupt is delivered. Manual, chapters 7, 9 and 12.
use Rattle.std.specs.Prelude.{ℕ, if◌then◌else◌, bit_or}
use Rattle.mdl_state.specs.declared.Regs.{Regs}
use Rattle.mdl_state.specs.State.{Mem, Core}
use Rattle.mdl_state.specs.Serving.{Serve, Outcome, Passed, on}
use Rattle.mdl_cpu.specs.declared.Cause.{Cause}
use Rattle.mdl_cpu.specs.Delivery.{Arrival}
use Rattle.mdl_cpu.specs.TaskDeliveries.{deliver_by_gate}

-- bits set in DR6
abbrev pub with_debug_bits : Regs → ℕ → Regs
with_debug_bits r bits = record r { dr6 = bit_or r.dr6 bits }

-- BT of DR6, which a task with its T bit set makes pending
abbrev pub BT : ℕ
BT = 0x8000

-- the processor at its handler, or in the task of it
abbrev pub arrived : Core → Arrival → Core
arrived core arrival = record core {
  regs = arrival.regs;
  activity = arrival.activity;
  latches = if arrival.trap then record core.latches { pending = bit_or core.latches.pending BT } else core.latches;
}

-- the processor, with these registers and latches, delivers a cause
abbrev pub delivered : Serve → Cause → Core → Mem → Outcome Core × Mem
delivered serve cause core m = on (deliver_by_gate serve cause core.regs m) (λ arrival n. (Passed (arrived core arrival), n))
