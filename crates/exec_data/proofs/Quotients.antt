-- Quotients and remainders that are answered fit the operand's size, and leave the flags.
use Rattle.std.proofs.Common.{◌≡◌, ℕ, ◌<◌, ◌/◌, ◌%◌, arith, refl, Bool, true, false, ℤ, pos, negsuc, of_z, w64}
use Rattle.std.specs.Prelude.{Result, ◌==◌, ◌||◌, nat_le, IfOk}
use Rattle.std.proofs.lemmas.Bool.{or_parts, not-false}
use Rattle.std.proofs.lemmas.Bool.Decides.{nat_tests}
use Rattle.mdl_state.specs.declared.Size.{Size}
use Rattle.mdl_state.specs.declared.Size.TheVariants.{B1, B2, B4}
use Rattle.mdl_state.specs.Bytes.{bound_of}
use Rattle.mdl_num.specs.Sizes.{signed_of, fits_signed, complement_in}
use Rattle.mdl_num.specs.Products.{div_result, idiv_result, joined, divided}
use Rattle.mdl_num.specs.declared.results.DivideError.{DivideError}
use Rattle.mdl_num.proofs.FlagLemmas.{flags_after-division}
use Rattle.alu_ops.proofs.Divisions.{remainder_fits}

pub ruleset quotients = (flags_after-division)

abbrev BothFit : Size → Result (ℕ × ℕ) DivideError → Type 0
BothFit size divided = IfOk divided (λ d. (d.0 < bound_of size) × (d.1 < bound_of size))

divided_fits : (size : Size) (refused : Bool) (q r : ℕ) → (refused ≡ false → q < bound_of size) → (refused ≡ false → r < bound_of size)
    → BothFit size (divided refused (q, r))
divided_fits size true q r h k = tt
divided_fits size false q r h k = (h refl, k refl)

low_quotient : (size : Size) (n by : ℕ) → ((by == 0) || nat_le (bound_of size) (n / by)) ≡ false → n / by < bound_of size
low_quotient size n by e = let h : nat_le (bound_of size) (n / by) ≡ false = (or_parts (by == 0) (nat_le (bound_of size) (n / by)) e).1 in grind (arith, nat_tests)

low_remainder : (size : Size) (n by : ℕ) → by < bound_of size → ((by == 0) || nat_le (bound_of size) (n / by)) ≡ false → n % by < bound_of size
low_remainder size n by h e = let z : (by == 0) ≡ false = (or_parts (by == 0) (nat_le (bound_of size) (n / by)) e).0 in grind (arith, nat_tests)

pub div_fits : (size : Size) (high low by : ℕ) → by < bound_of size → BothFit size (div_result size high low by)
unfolding div_result
div_fits size high low by h = divided_fits size _ _ _ (low_quotient size (joined size high low) by) (low_remainder size (joined size high low) by h)

complement_fits : (size : Size) (z : ℤ) → fits_signed size z ≡ true → complement_in (bound_of size) z < bound_of size
unfolding fits_signed complement_in
complement_fits B1 (pos n) h = grind (arith, nat_tests)
complement_fits B1 (negsuc n) h = grind (arith, nat_tests)
complement_fits B2 (pos n) h = grind (arith, nat_tests)
complement_fits B2 (negsuc n) h = grind (arith, nat_tests)
complement_fits B4 (pos n) h = grind (arith, nat_tests)
complement_fits B4 (negsuc n) h = grind (arith, nat_tests)

nonzero : (size : Size) (by : ℕ) → by < bound_of size → (by == 0) ≡ false → 0 < of_z w64 (signed_of size by)
unfolding signed_of
nonzero B1 by h e = grind (arith, nat_tests)
nonzero B2 by h e = grind (arith, nat_tests)
nonzero B4 by h e = grind (arith, nat_tests)

pub idiv_fits : (size : Size) (high low by : ℕ) → by < bound_of size → BothFit size (idiv_result size high low by)
unfolding idiv_result
idiv_fits size high low by h = divided_fits size _ _ _
    (λ e. complement_fits size _ (not-false _ (or_parts _ _ e).1))
    (λ e. complement_fits size _ (remainder_fits size _ by h (nonzero size by h (or_parts _ _ e).0)))
