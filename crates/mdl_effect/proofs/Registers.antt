-- What leaves the mode: general registers, segment registers, EIP, and flags that are no part of it.
use Rattle.std.proofs.Common.{◌≡◌, ◌≢◌, ◌<◌, ℕ, ◌==◌, Bool, true, false, List, refl, ap, ◌∙◌, arith}
use Rattle.std.specs.Prelude.{nat_lt, if◌then◌else◌}
use Rattle.std.specs.Int.{bit_at, from_bool}
use Rattle.std.proofs.lemmas.Nat.Bits.{bit_at-lt}
use Rattle.mdl_state.specs.declared.Size.{Size}
use Rattle.mdl_state.specs.declared.Size.TheVariants.{B1, B2, B4}
use Rattle.mdl_state.specs.declared.Seg.{Seg}
use Rattle.mdl_state.specs.declared.Regs.{Regs}
use Rattle.mdl_state.specs.declared.Hidden.{Hidden}
use Rattle.mdl_state.specs.Bytes.{bit}
use Rattle.mdl_state.specs.Registers.{with_reg, with_seg}
use Rattle.mdl_num.specs.Flags.{with_bit, put, flags_after}
use Rattle.mdl_num.specs.declared.status.Flag.{Flag}
use Rattle.mdl_num.specs.declared.status.Flag.TheVariants.{Tells, Undefined, Stays}
use Rattle.mdl_num.specs.declared.status.Status.{Status}
use Rattle.mdl_num.specs.declared.status.TheConstants.{CF, PF, AF, ZF, SF, OF}
use Rattle.mdl_num.proofs.Places.{bit_at-with_bit_other, with_bit-lt, from_bool-lt}
use Rattle.mdl_insn.specs.declared.instruction.Operand.{Operand}
use Rattle.mdl_insn.specs.declared.instruction.Operand.TheVariants.{Gpr}
use Rattle.mdl_cpu.specs.SystemFlags.{AreFlags}
use Rattle.mdl_cpu.specs.Steady.{Steady}
use Rattle.mdl_effect.specs.Operands.{with_value, with_flags}
use Rattle.mdl_effect.specs.Moves.{with_sized}

pub stays : (r : Regs) → Steady r r
stays r = record { cr0 = refl; cr3 = refl; cpl = refl; virtual = refl; flags = λ h. h }

-- one change after another
pub then_stays : {o m n : Regs} → Steady o m → Steady m n → Steady o n
then_stays {o} {m} {n} first second = record {
  cr0 = second.cr0 ∙ first.cr0;
  cr3 = second.cr3 ∙ first.cr3;
  cpl = second.cpl ∙ first.cpl;
  virtual = second.virtual ∙ first.virtual;
  flags = λ h. second.flags (first.flags h);
}

gpr_stays : (r : Regs) (g : List ℕ) → Steady r (record r { gpr = g })
gpr_stays r g = record { cr0 = refl; cr3 = refl; cpl = refl; virtual = refl; flags = λ h. h }

either_stays : (c : Bool) (r p q : Regs) → Steady r p → Steady r q → Steady r (if c then p else q)
either_stays true r p q h k = h
either_stays false r p q h k = k

pub reg_stays : (r : Regs) (n : ℕ) (size : Size) (value : ℕ) → Steady r (with_reg r n size value)
unfolding with_reg
reg_stays r n B1 value = either_stays (nat_lt n 4) r _ _ (gpr_stays r _) (gpr_stays r _)
reg_stays r n B2 value = gpr_stays r _
reg_stays r n B4 value = gpr_stays r _

pub seg_stays : (r : Regs) (seg : Seg) (hidden : Hidden) → Steady r (with_seg r seg hidden)
unfolding with_seg
seg_stays r seg hidden = record { cr0 = refl; cr3 = refl; cpl = refl; virtual = refl; flags = λ h. h }

pub ldtr_stays : (r : Regs) (hidden : Hidden) → Steady r (record r { ldtr = hidden })
ldtr_stays r hidden = record { cr0 = refl; cr3 = refl; cpl = refl; virtual = refl; flags = λ h. h }

pub tr_stays : (r : Regs) (hidden : Hidden) → Steady r (record r { tr = hidden })
tr_stays r hidden = record { cr0 = refl; cr3 = refl; cpl = refl; virtual = refl; flags = λ h. h }

pub eip_stays : (r : Regs) (eip : ℕ) → Steady r (record r { eip = eip })
eip_stays r eip = record { cr0 = refl; cr3 = refl; cpl = refl; virtual = refl; flags = λ h. h }

pub value_stays : (r : Regs) (a : Operand) (value : ℕ) → Steady r (with_value r a value)
value_stays r (Gpr n size) value = reg_stays r n size value
value_stays r _ value = stays r

pub sized_stays : (r : Regs) (a : Operand) (size : Size) (value : ℕ) → Steady r (with_sized r a size value)
sized_stays r (Gpr n own) size value = reg_stays r n size value
sized_stays r _ size value = stays r

-- ---- flags

-- EFLAGS with one of these bits changed
record KeepsFlags (old new : ℕ) : Type 0 where
  pub virtual : bit new 17 ≡ bit old 17
  pub flags : AreFlags old → AreFlags new

flags_keep : (e : ℕ) → KeepsFlags e e
flags_keep e = record { virtual = refl; flags = λ h. h }

then_keep : {o m n : ℕ} → KeepsFlags o m → KeepsFlags m n → KeepsFlags o n
then_keep {o} {m} {n} first second = record { virtual = second.virtual ∙ first.virtual; flags = λ h. second.flags (first.flags h) }

pub same_bit : (n k b j : ℕ) → b < 2 → j ≢ k → bit (with_bit n k b) j ≡ bit n j
same_bit n k b j two other = ap (λ v. v == 1) (bit_at-with_bit_other n k b j two other)

-- a flag's place that is neither VM's nor that of no flag
record IsFlag (k : ℕ) : Type 0 where
  pub one : 1 ≢ k
  pub three : 3 ≢ k
  pub five : 5 ≢ k
  pub fifteen : 15 ≢ k
  pub virtual : 17 ≢ k
  pub below : k < 18

bit_keeps : (n k b : ℕ) → b < 2 → IsFlag k → KeepsFlags n (with_bit n k b)
bit_keeps n k b two is = record {
  virtual = same_bit n k b 17 two is.virtual;
  flags = λ h. record {
    one = same_bit n k b 1 two is.one ∙ h.one;
    three = same_bit n k b 3 two is.three ∙ h.three;
    five = same_bit n k b 5 two is.five ∙ h.five;
    fifteen = same_bit n k b 15 two is.fifteen ∙ h.fifteen;
    above = with_bit-lt n k b 18 h.above is.below two;
  };
}

put_keeps : (k : ℕ) (f : Flag) (free n : ℕ) → IsFlag k → KeepsFlags n (put k f free n)
put_keeps k (Tells b) free n is = bit_keeps n k (from_bool b) (from_bool-lt b) is
put_keeps k Undefined free n is = bit_keeps n k (bit_at free k) (bit_at-lt free k) is
put_keeps k Stays free n is = flags_keep n

is_cf : IsFlag CF
is_cf = record { one = omega arith; three = omega arith; five = omega arith; fifteen = omega arith; virtual = omega arith; below = omega arith }

is_pf : IsFlag PF
is_pf = record { one = omega arith; three = omega arith; five = omega arith; fifteen = omega arith; virtual = omega arith; below = omega arith }

is_af : IsFlag AF
is_af = record { one = omega arith; three = omega arith; five = omega arith; fifteen = omega arith; virtual = omega arith; below = omega arith }

is_zf : IsFlag ZF
is_zf = record { one = omega arith; three = omega arith; five = omega arith; fifteen = omega arith; virtual = omega arith; below = omega arith }

is_sf : IsFlag SF
is_sf = record { one = omega arith; three = omega arith; five = omega arith; fifteen = omega arith; virtual = omega arith; below = omega arith }

is_of : IsFlag OF
is_of = record { one = omega arith; three = omega arith; five = omega arith; fifteen = omega arith; virtual = omega arith; below = omega arith }

is_df : IsFlag 10
is_df = record { one = omega arith; three = omega arith; five = omega arith; fifteen = omega arith; virtual = omega arith; below = omega arith }

eflags_stay : (r : Regs) (e : ℕ) → KeepsFlags r.eflags e → Steady r (record r { eflags = e })
eflags_stay r e keep = record { cr0 = refl; cr3 = refl; cpl = refl; virtual = keep.virtual; flags = keep.flags }

pub flags_stay : (r : Regs) (status : Status) (free : ℕ) → Steady r (with_flags r status free)
unfolding flags_after
flags_stay r status free = eflags_stay r _
    (then_keep (then_keep (then_keep (then_keep (then_keep
    (put_keeps CF status.carry free _ is_cf) (put_keeps PF status.parity free _ is_pf)) (put_keeps AF status.adjust free _ is_af))
    (put_keeps ZF status.zero free _ is_zf)) (put_keeps SF status.sign free _ is_sf)) (put_keeps OF status.overflow free _ is_of))

bit_stays : (r : Regs) (k b : ℕ) → b < 2 → IsFlag k → Steady r (record r { eflags = with_bit r.eflags k b })
bit_stays r k b two is = eflags_stay r _ (bit_keeps r.eflags k b two is)

-- CF, ZF and DF by themselves
pub carry_stays : (r : Regs) (on : Bool) → Steady r (record r { eflags = with_bit r.eflags CF (from_bool on) })
carry_stays r on = bit_stays r CF (from_bool on) (from_bool-lt on) is_cf

pub zero_stays : (r : Regs) (on : Bool) → Steady r (record r { eflags = with_bit r.eflags ZF (from_bool on) })
zero_stays r on = bit_stays r ZF (from_bool on) (from_bool-lt on) is_zf

pub direction_stays : (r : Regs) (on : Bool) → Steady r (record r { eflags = with_bit r.eflags 10 (from_bool on) })
direction_stays r on = bit_stays r 10 (from_bool on) (from_bool-lt on) is_df

-- the flags that SAHF sets
pub ah_stays : (r : Regs) (ah : ℕ) → Steady r (record r { eflags = with_bit (with_bit (with_bit (with_bit (with_bit r.eflags CF (bit_at ah CF)) PF (bit_at ah PF)) AF (bit_at ah AF)) ZF (bit_at ah ZF)) SF (bit_at ah SF) })
ah_stays r ah = eflags_stay r _
    (then_keep (then_keep (then_keep (then_keep
    (bit_keeps _ CF (bit_at ah CF) (bit_at-lt ah CF) is_cf) (bit_keeps _ PF (bit_at ah PF) (bit_at-lt ah PF) is_pf)) (bit_keeps _ AF (bit_at ah AF) (bit_at-lt ah AF) is_af))
    (bit_keeps _ ZF (bit_at ah ZF) (bit_at-lt ah ZF) is_zf)) (bit_keeps _ SF (bit_at ah SF) (bit_at-lt ah SF) is_sf))

-- IF by itself
is_if : IsFlag 9
is_if = record { one = omega arith; three = omega arith; five = omega arith; fifteen = omega arith; virtual = omega arith; below = omega arith }

pub interrupts_stay : (r : Regs) (on : Bool) → Steady r (record r { eflags = with_bit r.eflags 9 (from_bool on) })
interrupts_stay r on = bit_stays r 9 (from_bool on) (from_bool-lt on) is_if
