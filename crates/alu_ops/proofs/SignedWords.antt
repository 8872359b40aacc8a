-- Signed numbers of at most 32 bits in words of 64.
use Rattle.std.proofs.Common.{◌≡◌, ℕ, ◌-◌, ◌*◌, ◌^◌, ◌<◌, ◌≤◌, arith, ℤ, pos, negsuc, ◌-ℤ◌, ◌*ℤ◌, ◌≤ℤ◌, ◌<ℤ◌, FitsSigned, w64, to_z, of_z, rules}
use Rattle.std.specs.Prelude.{unsigned_abs}
use Rattle.std.proofs.lemmas.Int.{to_z-of_z, ints, fits_signed_mul, unsigned_abs-mul}
use Rattle.std.proofs.lemmas.Nat.{mul-le}
use Rattle.std.proofs.lemmas.Bool.Decides.{nat_tests}
use Rattle.mdl_state.specs.declared.Size.{Size}
use Rattle.mdl_state.specs.declared.Size.TheVariants.{B1, B2, B4}
use Rattle.mdl_state.specs.Bytes.{bound_of}
use Rattle.mdl_num.specs.Sizes.{half_of, signed_of}

pub difference_in_word : (x y : ℤ) (n : ℕ) → negsuc (2 ^ 31 - 1) ≤ℤ x → x <ℤ pos (2 ^ 31) → negsuc (2 ^ 31 - 1) ≤ℤ y → y <ℤ pos (2 ^ 31) → n < 2
    → to_z w64 (of_z w64 (to_z w64 (of_z w64 (to_z w64 (of_z w64 x) -ℤ to_z w64 (of_z w64 y))) -ℤ to_z w64 n)) ≡ x -ℤ y -ℤ pos n
difference_in_word x y n p q r s t = omega (arith, ints)

abs_below : (x : ℤ) → negsuc (2 ^ 31 - 1) ≤ℤ x → x <ℤ pos (2 ^ 31) → unsigned_abs x ≤ 2 ^ 31
abs_below (pos n) p q = omega (arith, ints)
abs_below (negsuc n) p q = omega (arith, ints)

pub product_in_word : (x y : ℤ) → negsuc (2 ^ 31 - 1) ≤ℤ x → x <ℤ pos (2 ^ 31) → negsuc (2 ^ 31 - 1) ≤ℤ y → y <ℤ pos (2 ^ 31)
    → to_z w64 (of_z w64 (to_z w64 (of_z w64 x) *ℤ to_z w64 (of_z w64 y))) ≡ x *ℤ y
product_in_word x y p q r s =
    let whole : FitsSigned w64 (x *ℤ y) = fits_signed_mul w64 x y (2 ^ 31) (2 ^ 31) (abs_below x p q) (abs_below y r s) (omega arith) in
    let left : FitsSigned w64 x = search (rules, ints) in
    let right : FitsSigned w64 y = search (rules, ints) in
    simp to_z-of_z

-- the absolute value of a signed number is at most that of the least
pub signed_of-abs : (size : Size) (a : ℕ) → a < bound_of size → unsigned_abs (signed_of size a) ≤ half_of size
unfolding signed_of
signed_of-abs B1 a h = grind (arith, nat_tests)
signed_of-abs B2 a h = grind (arith, nat_tests)
signed_of-abs B4 a h = grind (arith, nat_tests)

pub product-abs : (size : Size) (a b : ℕ) → a < bound_of size → b < bound_of size
    → unsigned_abs (signed_of size a *ℤ signed_of size b) ≤ half_of size * half_of size
product-abs size a b p q =
    rw (unsigned_abs-mul (signed_of size a) (signed_of size b))
    (mul-le (unsigned_abs (signed_of size a)) (unsigned_abs (signed_of size b)) (half_of size) (half_of size) (signed_of-abs size a p) (signed_of-abs size b q))
