-- EFLAGS from an image that comes off the stack.
use Rattle.std.proofs.Common.{◌≡◌, ◌<◌, ℕ, ◌+◌, ◌-◌, ◌*◌, ◌^◌, ◌==◌, Bool, true, false, cond, refl, ap, ◌∙◌, arith, max, min, bit_and}
use Rattle.std.specs.Prelude.{nat_le}
use Rattle.std.specs.Int.{bit_at, bit_not, w32}
use Rattle.std.specs.Int.Bits.{and_le_l, and_le_r}
use Rattle.std.proofs.lemmas.Nat.{or_lt}
use Rattle.std.proofs.lemmas.Nat.Bits.{bit_at-lt, bit_at_or, bit_at_and, bit_at_not}
use Rattle.mdl_state.specs.declared.Size.{Size}
use Rattle.mdl_state.specs.declared.Size.TheVariants.{B1, B2, B4}
use Rattle.mdl_state.specs.declared.Regs.{Regs}
use Rattle.mdl_state.specs.Bytes.{bit}
use Rattle.mdl_cpu.specs.Steady.{Steady}
use Rattle.mdl_cpu.specs.SystemFlags.{IF, IOPL, RF, AreFlags, io_level, common_flags, with_flags_from}
use Rattle.mdl_cpu.specs.Returns.{returned_flags}

least : (a b : ℕ) → b ≡ 0 → min a b ≡ 0
least a b e = omega (arith, e)

kept_there : (a b : ℕ) → a < 2 → b ≡ 0 → min a (1 - b) ≡ a
kept_there a b h e = omega (arith, h, e)

higher : (a b c d : ℕ) → a ≡ 0 → b ≡ c → max a b ≡ c
higher a b c d e f = omega (arith, e, f)

-- a bit that is not among those that are taken
other_stays : (image flags e j : ℕ) → flags < 2 ^ 32 → j < 32 → bit_at flags j ≡ 0 → bit_at (with_flags_from image flags e) j ≡ bit_at e j
other_stays image flags e j small below clear =
    bit_at_or (bit_and image flags) (bit_and e (bit_not w32 flags)) j
    ∙ higher _ _ _ 0 (bit_at_and image flags j ∙ least _ _ clear)
    (bit_at_and e (bit_not w32 flags) j ∙ ap (λ v. min (bit_at e j) v) (bit_at_not w32 flags j small below) ∙ kept_there _ _ (bit_at-lt e j) clear)

within : (image flags : ℕ) → flags < 2 ^ 17 → bit_and image flags < 2 ^ 18
within image flags h = omega (arith, and_le_r image flags, h)

and_below : (e other : ℕ) → e < 2 ^ 18 → bit_and e other < 2 ^ 18
and_below e other h = omega (arith, and_le_l e other, h)

-- bits that are flags, and not VM
record AreTaken (flags : ℕ) : Type 0 where
  pub one : bit_at flags 1 ≡ 0
  pub three : bit_at flags 3 ≡ 0
  pub five : bit_at flags 5 ≡ 0
  pub fifteen : bit_at flags 15 ≡ 0
  pub virtual : bit_at flags 17 ≡ 0
  pub below : flags < 2 ^ 17

sum_taken : (level guarded : Bool) → AreTaken (common_flags + cond level (3 * 2 ^ IOPL) 0 + cond guarded (2 ^ IF) 0)
sum_taken true true = record { one = refl; three = refl; five = refl; fifteen = refl; virtual = refl; below = omega arith }
sum_taken true false = record { one = refl; three = refl; five = refl; fifteen = refl; virtual = refl; below = omega arith }
sum_taken false true = record { one = refl; three = refl; five = refl; fifteen = refl; virtual = refl; below = omega arith }
sum_taken false false = record { one = refl; three = refl; five = refl; fifteen = refl; virtual = refl; below = omega arith }

sum_with_resume : (level guarded : Bool) → AreTaken (common_flags + cond level (3 * 2 ^ IOPL) 0 + cond guarded (2 ^ IF) 0 + 2 ^ RF)
sum_with_resume true true = record { one = refl; three = refl; five = refl; fifteen = refl; virtual = refl; below = omega arith }
sum_with_resume true false = record { one = refl; three = refl; five = refl; fifteen = refl; virtual = refl; below = omega arith }
sum_with_resume false true = record { one = refl; three = refl; five = refl; fifteen = refl; virtual = refl; below = omega arith }
sum_with_resume false false = record { one = refl; three = refl; five = refl; fifteen = refl; virtual = refl; below = omega arith }

returned_taken : (r : Regs) (size : Size) → AreTaken (returned_flags r size)
returned_taken r B4 = sum_with_resume (r.cpl == 0) (nat_le r.cpl (io_level r))
returned_taken r B1 = sum_taken (r.cpl == 0) (nat_le r.cpl (io_level r))
returned_taken r B2 = sum_taken (r.cpl == 0) (nat_le r.cpl (io_level r))

same_bit : (image flags e j : ℕ) → flags < 2 ^ 17 → j < 32 → bit_at flags j ≡ 0 → bit (with_flags_from image flags e) j ≡ bit e j
same_bit image flags e j small below clear = ap (λ v. v == 1) (other_stays image flags e j (omega (arith, small)) below clear)

image_flags : (image flags e : ℕ) → AreTaken flags → AreFlags e → AreFlags (with_flags_from image flags e)
image_flags image flags e t h = record {
  one = same_bit image flags e 1 t.below (omega arith) t.one ∙ h.one;
  three = same_bit image flags e 3 t.below (omega arith) t.three ∙ h.three;
  five = same_bit image flags e 5 t.below (omega arith) t.five ∙ h.five;
  fifteen = same_bit image flags e 15 t.below (omega arith) t.fifteen ∙ h.fifteen;
  above = or_lt 18 (bit_and image flags) (bit_and e (bit_not w32 flags)) (within image flags t.below) (and_below e (bit_not w32 flags) h.above);
}

-- EFLAGS from an image leaves the mode
pub image_stays : (o q : Regs) (image : ℕ) (size : Size) → Steady o q → Steady o (record q { eflags = with_flags_from image (returned_flags o size) o.eflags })
image_stays o q image size h = record {
  cr0 = h.cr0;
  cr3 = h.cr3;
  cpl = h.cpl;
  virtual = same_bit image (returned_flags o size) o.eflags 17 (returned_taken o size).below (omega arith) (returned_taken o size).virtual;
  flags = image_flags image (returned_flags o size) o.eflags (returned_taken o size);
}
