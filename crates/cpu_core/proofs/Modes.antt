-- The kept status flags are not of the mode.
use Rattle.std.proofs.Common.{◌≡◌, ℕ, Bool, refl, arith}
use Rattle.std.specs.Int.{bit_at}
use Rattle.mdl_state.specs.declared.Regs.{Regs}
use Rattle.mdl_state.specs.declared.Latches.{Latches}
use Rattle.mdl_state.specs.Bytes.{bit}
use Rattle.mdl_cpu.specs.SystemFlags.{TF, IF, RF}
use Rattle.mdl_step.specs.Boundary.{takes_line, takes_break}
use Rattle.lazy_flags.specs.Keeper.{with_status}
use Rattle.operands.specs.Whole.{whole}
use Rattle.operands.proofs.Statuses.{other_bit}

pub trap_bit : (e f : ℕ) → bit_at (with_status e f) TF ≡ bit_at e TF
trap_bit e f = other_bit e f TF (omega arith) (omega arith) (omega arith) (omega arith) (omega arith) (omega arith)

pub interrupt_bit : (e f : ℕ) → bit_at (with_status e f) IF ≡ bit_at e IF
interrupt_bit e f = other_bit e f IF (omega arith) (omega arith) (omega arith) (omega arith) (omega arith) (omega arith)

pub whole_interrupts : (r : Regs) (f : ℕ) → bit (with_status r.eflags f) IF ≡ bit r.eflags IF
whole_interrupts r f = rw (interrupt_bit r.eflags f) refl

pub whole_traced : (r : Regs) (f : ℕ) → bit (with_status r.eflags f) TF ≡ bit r.eflags TF
whole_traced r f = rw (trap_bit r.eflags f) refl

pub whole_line : (wants : Bool) (r : Regs) (f : ℕ) (latches : Latches) → takes_line wants (whole r f) latches ≡ takes_line wants r latches
whole_line wants r f latches = rw (interrupt_bit r.eflags f) refl

pub resume_bit : (e f : ℕ) → bit_at (with_status e f) RF ≡ bit_at e RF
resume_bit e f = other_bit e f RF (omega arith) (omega arith) (omega arith) (omega arith) (omega arith) (omega arith)

pub whole_break : (r : Regs) (f : ℕ) (latches : Latches) (hits : ℕ) → takes_break (whole r f) latches hits ≡ takes_break r latches hits
whole_break r f latches hits = rw (resume_bit r.eflags f) refl

pub ruleset modes = (whole_traced, whole_line, whole_break)
