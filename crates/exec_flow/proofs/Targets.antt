-- Where branches lead, and what moving a register leaves.
use Rattle.std.proofs.Common.{◌≡◌, ℕ, ◌+◌, ◌-◌, ◌%◌, Bool, true, false, cond, List, refl, ap}
use Rattle.std.specs.Prelude.{nat_lt, slice_index, slice_set}
use Rattle.mdl_state.specs.declared.Size.{Size}
use Rattle.mdl_state.specs.declared.Size.TheVariants.{B1, B2, B4}
use Rattle.mdl_state.specs.declared.Seg.{Seg}
use Rattle.mdl_state.specs.declared.Hidden.{Hidden}
use Rattle.mdl_state.specs.declared.Regs.{Regs}
use Rattle.mdl_state.specs.Bytes.{bound_of}
use Rattle.mdl_state.specs.Registers.{with_reg, seg_of, seg_number, hidden_at, with_low, with_high}
use Rattle.mdl_state.specs.Attempt.{Plan}
use Rattle.mdl_state.specs.AttemptLaws.{tried-then_plan}
use Rattle.mdl_insn.specs.declared.instruction.Operand.{Operand}
use Rattle.mdl_insn.specs.declared.instruction.Operand.TheVariants.{Rel}
use Rattle.mdl_effect.specs.Operands.{After, reading}
use Rattle.mdl_effect.specs.Jumps.{target_by}
use Rattle.mdl_effect.specs.Kinds.{is_relative}
use Rattle.exec_flow.specs.Near.{displacement_of}

-- a branch with a displacement
pub near_target : (a : Operand) (size : Size) (r : Regs) (back : ℕ) (k : ℕ → Plan After) → is_relative a ≡ true
    → target_by a size r back k ≡ k ((back + displacement_of a) % bound_of size)
near_target (Rel displacement) size r back k e = refl
near_target _ size r back k e = absurd cc

-- and what is no displacement
pub far_target : (a : Operand) (size : Size) (r : Regs) (back : ℕ) (k : ℕ → Plan After) → is_relative a ≡ false → target_by a size r back k ≡ reading r a k
far_target (Rel displacement) size r back k e = absurd cc
far_target _ size r back k e = refl

pub ruleset targets = (near_target, far_target)

either_seg : (v : Bool) (p q : Regs) (segs : List Hidden) → p.seg ≡ segs → q.seg ≡ segs → (cond v p q).seg ≡ segs
either_seg true p q segs e f = e
either_seg false p q segs e f = f

-- a general register that is set leaves the segment registers
pub code_kept : (r : Regs) (n : ℕ) (size : Size) (value : ℕ) (seg : Seg) → seg_of (with_reg r n size value) seg ≡ seg_of r seg
unfolding seg_of with_reg
code_kept r n B1 value seg = ap (λ s. hidden_at s (seg_number seg)) (either_seg (nat_lt n 4)
    (record r { gpr = slice_set r.gpr n (with_low (slice_index r.gpr n) value) })
    (record r { gpr = slice_set r.gpr (n - 4) (with_high (slice_index r.gpr (n - 4)) value) }) r.seg refl refl)
code_kept r n B2 value seg = refl
code_kept r n B4 value seg = refl

pub ruleset calls = (tried-then_plan, code_kept)

pub ruleset loops = (near_target, code_kept)
