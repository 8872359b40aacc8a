-- Strings of a size moved up and down.
use Rattle.std.proofs.Common.{◌≡◌, ℕ, ◌+◌, ◌-◌, ◌*◌, ◌/◌, ◌%◌, ◌^◌, ◌<◌, arith, ℤ, pos, negsuc, FitsSigned, w64, ◌∙◌, ap, sym, true}
use Rattle.std.specs.Int.{int_shr}
use Rattle.std.proofs.lemmas.Nat.{pow_pos, shr_le, shr-shr, pow-add, shr_high}
use Rattle.std.proofs.Math.Nat.{mul-add-div_right, mul-add-mod_self_right, mul_assoc, mul_comm}
use Rattle.std.specs.Int.Signed.{mag_shr}
use Rattle.std.proofs.lemmas.Bool.Decides.{nat_tests}
use Rattle.mdl_state.specs.declared.Size.{Size}
use Rattle.mdl_state.specs.declared.Size.TheVariants.{B1, B2, B4}
use Rattle.mdl_state.specs.Bytes.{bound_of}
use Rattle.mdl_num.specs.Sizes.{signed_of, fits_signed}

signed_fits : (size : Size) (a : ℕ) → a < bound_of size → fits_signed size (signed_of size a) ≡ true
unfolding signed_of fits_signed
signed_fits B1 a h = grind (arith, nat_tests)
signed_fits B2 a h = grind (arith, nat_tests)
signed_fits B4 a h = grind (arith, nat_tests)

shr_keeps : (size : Size) (z : ℤ) (k : ℕ) → fits_signed size z ≡ true → fits_signed size (int_shr z k) ≡ true
unfolding fits_signed
shr_keeps B1 (pos n) k h = grind (arith, nat_tests, shr_le n k)
shr_keeps B1 (negsuc n) k h = grind (arith, nat_tests, shr_le n k)
shr_keeps B2 (pos n) k h = grind (arith, nat_tests, shr_le n k)
shr_keeps B2 (negsuc n) k h = grind (arith, nat_tests, shr_le n k)
shr_keeps B4 (pos n) k h = grind (arith, nat_tests, shr_le n k)
shr_keeps B4 (negsuc n) k h = grind (arith, nat_tests, shr_le n k)

-- a signed number moved down still fits
pub shr_fits : (size : Size) (a k : ℕ) → a < bound_of size → fits_signed size (int_shr (signed_of size a) k) ≡ true
shr_fits size a k h = shr_keeps size (signed_of size a) k (signed_fits size a h)

pub shr_in_word : (z : ℤ) (k : ℕ) → FitsSigned w64 z → FitsSigned w64 (int_shr z k)
shr_in_word z k h = record { sfits = omega (arith, mag_shr z (2 ^ k), h.sfits) }

-- a double shift of four bytes to the left reaches no further than the source
pub double_left : (d s n : ℕ) → n < 32 → d < 2 ^ 32 → ((d * 2 ^ 32 + s) * 2 ^ 32 + d) / 2 ^ (64 - n) ≡ (d * 2 ^ 32 + s) / 2 ^ (32 - n)
double_left d s n p q =
    let up : 64 - n ≡ 32 + (32 - n) = omega arith in
    let front : ((d * 2 ^ 32 + s) * 2 ^ 32 + d) / 2 ^ 32 ≡ d * 2 ^ 32 + s = shr_high (d * 2 ^ 32 + s) 32 d q in
    rw up (sym (shr-shr ((d * 2 ^ 32 + s) * 2 ^ 32 + d) 32 (32 - n)) ∙ ap (λ m. m / 2 ^ (32 - n)) front)

apart : (d s p q : ℕ) → p * q ≡ 2 ^ 32 → (d * 2 ^ 32 + s) * 2 ^ 32 + d ≡ (d * p * 2 ^ 32) * q + (s * 2 ^ 32 + d)
apart d s p q e =
    let turned : d * p * 2 ^ 32 * q ≡ d * 2 ^ 32 * 2 ^ 32 =
    mul_assoc (d * p) (2 ^ 32) q ∙ ap (λ m. d * p * m) (mul_comm (2 ^ 32) q) ∙ sym (mul_assoc (d * p) q (2 ^ 32))
    ∙ ap (λ m. m * 2 ^ 32) (mul_assoc d p q ∙ ap (λ m. d * m) e) in
    rw turned (omega arith)

-- and none to the right
split_end : (d s n : ℕ) → n < 32 → ((d * 2 ^ 32 + s) * 2 ^ 32 + d) ≡ (d * 2 ^ (32 - n) * 2 ^ 32) * 2 ^ n + (s * 2 ^ 32 + d)
split_end d s n p =
    let whole : 32 - n + n ≡ 32 = omega arith in
    apart d s (2 ^ (32 - n)) (2 ^ n) (sym (pow-add 2 (32 - n) n) ∙ ap (λ m. 2 ^ m) whole)

pub double_right : (d s n : ℕ) → n < 32 → ((d * 2 ^ 32 + s) * 2 ^ 32 + d) / 2 ^ n % 2 ^ 32 ≡ (s * 2 ^ 32 + d) / 2 ^ n % 2 ^ 32
double_right d s n p =
    rw (split_end d s n p)
    (ap (λ m. m % 2 ^ 32) (mul-add-div_right (pow_pos n) (d * 2 ^ (32 - n) * 2 ^ 32) (s * 2 ^ 32 + d))
    ∙ mul-add-mod_self_right (d * 2 ^ (32 - n)) (2 ^ 32) ((s * 2 ^ 32 + d) / 2 ^ n))
