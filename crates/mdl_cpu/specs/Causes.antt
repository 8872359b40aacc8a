-- What is delivered: the causes of deliveries. Manual, chapter 9.
use Rattle.std.specs.Prelude.{ℕ, ◌==◌, ◌&&◌, ◌||◌, nat_le, Bool, true, false, if◌then◌else◌, Some, None}
use Rattle.mdl_state.specs.declared.Regs.{Regs}
use Rattle.mdl_state.specs.declared.Fault.{Fault}
use Rattle.mdl_cpu.specs.declared.Cause.{Cause}

-- the faults that have an error code
abbrev pub has_code : ℕ → Bool
has_code vector = vector == 8 || (nat_le 10 vector && nat_le vector 14)

-- a fault of the instruction at EIP, or of a delivery that is made with this EIP
abbrev pub fault_cause : Regs → Fault → Cause
fault_cause r fault = record { vector = fault.vector; code = if has_code fault.vector then Some fault.code else None; soft = false; fault = true; ext = true; back = r.eip }

-- a debug trap, an NMI or an interrupt between two instructions
abbrev pub event_cause : Regs → ℕ → Cause
event_cause r vector = record { vector = vector; code = None; soft = false; fault = false; ext = true; back = r.eip }

-- a software interrupt, by the EIP behind it
abbrev pub soft_cause : ℕ → ℕ → Cause
soft_cause vector back = record { vector = vector; code = None; soft = true; fault = false; ext = false; back = back }

-- the address of a page fault in CR2, as it is delivered
abbrev pub with_address : Regs → Fault → Regs
with_address r fault = if fault.vector == 14 then record r { cr2 = fault.addr } else r

-- the EIP that is saved: a fault's is that of the instruction itself
abbrev pub saved_eip : Regs → Cause → ℕ
saved_eip r cause = if cause.fault then r.eip else cause.back
