-- Signed quotients and remainders of a size.
use Rattle.std.proofs.Common.{◌≡◌, ℕ, ◌<◌, arith, ℤ, pos, negsuc, FitsSigned, w64, of_z, Bool, true, false, inl, inr, refl}
use Rattle.std.specs.Prelude.{unsigned_abs, int_div, int_rem, ◌==◌, not, ◌||◌}
use Rattle.std.specs.Int.{CanDivide}
use Rattle.std.proofs.lemmas.Int.{rem_below}
use Rattle.std.proofs.lemmas.Bool.{cases_Bool}
use Rattle.std.proofs.lemmas.Bool.Decides.{nat_tests}
use Rattle.mdl_state.specs.declared.Size.{Size}
use Rattle.mdl_state.specs.declared.Size.TheVariants.{B1, B2, B4}
use Rattle.mdl_state.specs.Bytes.{bound_of}
use Rattle.mdl_num.specs.Sizes.{half_of, signed_of, fits_signed}
use Rattle.alu_ops.proofs.SignedWords.{signed_of-abs}

-- only 0 stands for 0
nonzero : (size : Size) (by : ℕ) → by < bound_of size → (by == 0) ≡ false → 0 < of_z w64 (signed_of size by)
unfolding signed_of
nonzero B1 by h e = grind (arith, nat_tests)
nonzero B2 by h e = grind (arith, nat_tests)
nonzero B4 by h e = grind (arith, nat_tests)

zero_only : (size : Size) (by : ℕ) → (by == 0) ≡ true → of_z w64 (signed_of size by) ≡ 0
unfolding signed_of
zero_only B1 by e = grind (arith, nat_tests)
zero_only B2 by e = grind (arith, nat_tests)
zero_only B4 by e = grind (arith, nat_tests)

-- a number of a size fits a word of 64 bits
pub fits_in_word : (size : Size) (z : ℤ) → fits_signed size z ≡ true → FitsSigned w64 z
unfolding fits_signed
fits_in_word B1 (pos n) h = record { sfits = grind (arith, nat_tests) }
fits_in_word B1 (negsuc n) h = record { sfits = grind (arith, nat_tests) }
fits_in_word B2 (pos n) h = record { sfits = grind (arith, nat_tests) }
fits_in_word B2 (negsuc n) h = record { sfits = grind (arith, nat_tests) }
fits_in_word B4 (pos n) h = record { sfits = grind (arith, nat_tests) }
fits_in_word B4 (negsuc n) h = record { sfits = grind (arith, nat_tests) }

small_fits : (size : Size) (z : ℤ) → unsigned_abs z < half_of size → fits_signed size z ≡ true
unfolding fits_signed
small_fits B1 (pos n) h = grind (arith, nat_tests)
small_fits B1 (negsuc n) h = grind (arith, nat_tests)
small_fits B2 (pos n) h = grind (arith, nat_tests)
small_fits B2 (negsuc n) h = grind (arith, nat_tests)
small_fits B4 (pos n) h = grind (arith, nat_tests)
small_fits B4 (negsuc n) h = grind (arith, nat_tests)

abs_pos : (z : ℤ) → 0 < of_z w64 z → 0 < unsigned_abs z
abs_pos (pos n) h = h
abs_pos (negsuc n) h = omega arith

-- a remainder is nearer to 0 than its divisor
pub remainder_fits : (size : Size) (x : ℤ) (by : ℕ) → by < bound_of size → 0 < of_z w64 (signed_of size by)
    → fits_signed size (int_rem x (signed_of size by)) ≡ true
remainder_fits size x by h p =
    small_fits size (int_rem x (signed_of size by))
    (omega (arith, rem_below x (signed_of size by) (abs_pos (signed_of size by) p), signed_of-abs size by h))

-- what can't be divided in the word is refused
pub refused : (size : Size) (x : ℤ) (by : ℕ) → by < bound_of size
    → (CanDivide w64 x (signed_of size by) → ⊥)
    → ((by == 0) || not (fits_signed size (int_div x (signed_of size by)))) ≡ true
refused size x by h cannot = elim (cases_Bool (by == 0)) [
  | inl isZero ↦ rw isZero refl
  | inr other ↦ elim (cases_Bool (fits_signed size (int_div x (signed_of size by)))) [
    | inl fit ↦ absurd (cannot (nonzero size by h other, fits_in_word size (int_div x (signed_of size by)) fit))
    | inr unfit ↦ rw (other, unfit) refl
  ]
]

pub unfit_refused : (b f : Bool) → f ≡ false → (b || not f) ≡ true
unfit_refused true f e = refl
unfit_refused false f e = rw e refl

-- what can be, and fits, is not
pub taken : (size : Size) (by : ℕ) (f : Bool) → 0 < of_z w64 (signed_of size by) → f ≡ true → ((by == 0) || not f) ≡ false
taken size by f p e = elim (cases_Bool (by == 0)) [
  | inl isZero ↦ absurd (omega (arith, zero_only size by isZero))
  | inr other ↦ rw (other, e) refl
]
