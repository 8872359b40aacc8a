-- The kept flags are not of the mode.
use Rattle.std.proofs.Common.{◌≡◌, ℕ, refl, arith}
use Rattle.std.specs.Int.{bit_at}
use Rattle.mdl_state.specs.declared.Regs.{Regs}
use Rattle.std.specs.Prelude.{Bool}
use Rattle.mdl_state.specs.declared.Seg.{Seg}
use Rattle.mdl_state.specs.declared.Size.{Size}
use Rattle.mdl_state.specs.Registers.{seg_of}
use Rattle.mdl_cpu.specs.Access.{legal}
use Rattle.mdl_cpu.specs.Stack.{stack_size}
use Rattle.mdl_cpu.specs.SystemFlags.{VM}
use Rattle.lazy_flags.specs.Keeper.{with_status}
use Rattle.operands.specs.Whole.{whole}
use Rattle.operands.proofs.Statuses.{kept_bit, own_flags}

virtual_bit : (e F : ℕ) → bit_at (with_status e F) VM ≡ bit_at e VM
virtual_bit e F = kept_bit e F VM (omega arith) (omega arith)

-- the kept flags count in no check of an access
pub legal_kept : (r : Regs) (F : ℕ) (seg : Seg) (offset : ℕ) (size : Size) (write : Bool) → legal (whole r F) seg offset size write ≡ legal r seg offset size write
unfolding legal seg_of
legal_kept r F seg offset size write = rw (virtual_bit r.eflags F) refl

-- nor in the size of the stack pointer
pub stack_size_kept : (r : Regs) (F : ℕ) → stack_size (whole r F) ≡ stack_size r
unfolding seg_of
stack_size_kept r F = rw (virtual_bit r.eflags F) refl

pub ruleset modes = (legal_kept, stack_size_kept)

-- registers whose flags are whole
pub whole_own : (r : Regs) → whole r r.eflags ≡ r
whole_own r = rw (own_flags r.eflags) refl
