-- A chip from its bytes.
use Rattle.std.proofs.Common.{◌≡◌, ℕ, zero, suc, ◌+◌, ◌*◌, ◌%◌, ◌<◌, ◌≤◌, ◌==◌, ◌&&◌, ◌∙◌, refl, ap, Bool, true, false, List, [], ◌∷◌, length, drop, take, nat_lt, slice_index, IsTrue, arith}
use Rattle.std.specs.Int.{from_bool}
use Rattle.std.proofs.Math.Seq.{drop-cons}
use Rattle.std.proofs.lemmas.List.{drop_all, take_all, length-drop}
use Rattle.std.proofs.lemmas.Bool.{and_parts}
use Rattle.std.proofs.lemmas.Bool.Decides.{nat_tests}
use Rattle.mdl_dev.specs.Pic.{has}
use Rattle.mdl_dev.specs.declared.pic.Stage.{Stage}
use Rattle.mdl_dev.specs.declared.pic.Stage.TheVariants.{Before, Icw2, Icw3, Icw4, Ready}
use Rattle.mdl_dev.specs.declared.pic.Shown.{Shown}
use Rattle.mdl_dev.specs.declared.pic.Shown.TheVariants.{Irr, Isr}
use Rattle.mdl_dev.specs.declared.pic.Controller.{Controller}
use Rattle.mdl_dev.specs.PicImage.{stage_number, shown_number, chip_image, are_flags, is_chip_image, IsController}

-- so many elements from a place on
abbrev pub elements : ℕ → ℕ → List ℕ → List ℕ
elements zero i xs = []
elements (suc n) i xs = slice_index xs i ∷ elements n (suc i) xs

pub spelled : (n i : ℕ) (xs : List ℕ) → length xs ≡ i + n → drop i xs ≡ elements n i xs
spelled zero i xs h = drop_all i xs (omega arith)
spelled (suc n) i xs h =
    let inside : i < length xs = omega arith in
    drop-cons xs i 0 inside ∙ ap (λ ys. slice_index xs i ∷ ys) (spelled n (suc i) xs (omega arith))

-- bits 1 and 0 of ICW1
pub icw1_again : (n : ℕ) → n < 4 → from_bool (has n 1) * 2 + from_bool (has n 0) ≡ n
icw1_again zero h = refl
icw1_again (suc zero) h = refl
icw1_again (suc (suc zero)) h = refl
icw1_again (suc (suc (suc zero))) h = refl
icw1_again (suc (suc (suc (suc n)))) h = absurd (omega arith)

-- the bytes that have a range
pub record InRange (xs : List ℕ) : Type 0 where
  pub base : slice_index xs 3 % 8 ≡ 0
  pub lowest : slice_index xs 4 < 8
  pub stage : slice_index xs 5 < 5
  pub icw1 : slice_index xs 6 < 4
  pub seventh : slice_index xs 7 < 2
  pub eighth : slice_index xs 8 < 2
  pub ninth : slice_index xs 9 < 2
  pub tenth : slice_index xs 10 < 2
  pub eleventh : slice_index xs 11 < 2
  pub twelfth : slice_index xs 12 < 2

six_flags : (xs : List ℕ) → length xs ≡ 13 → are_flags (drop 7 xs) ≡ true → are_flags (elements 6 7 xs) ≡ true
six_flags xs h all = rw (spelled 6 7 xs h) at all

and_first : (p q : Bool) → (p && q) ≡ true → p ≡ true
and_first p q h = (and_parts p q h).0

and_rest : (p q : Bool) → (p && q) ≡ true → q ≡ true
and_rest p q h = (and_parts p q h).1

-- the flags are all that is left
pub rest : (xs : List ℕ) → length xs ≡ 13 → take 6 (drop 7 xs) ≡ drop 7 xs
rest xs h = let short : length (drop 7 xs) ≤ 6 = omega (arith, length-drop 7 xs) in take_all 6 (drop 7 xs) short

pub in_range : (xs : List ℕ) → length xs ≡ 13 → IsTrue (is_chip_image xs) → InRange xs
unfolding is_chip_image are_flags
in_range xs h image =
    let a = and_first (slice_index xs 3 % 8 == 0 && nat_lt (slice_index xs 4) 8 && nat_lt (slice_index xs 5) 5 && nat_lt (slice_index xs 6) 4) (are_flags (drop 7 xs)) image in
    let six = six_flags xs h (and_rest (slice_index xs 3 % 8 == 0 && nat_lt (slice_index xs 4) 8 && nat_lt (slice_index xs 5) 5 && nat_lt (slice_index xs 6) 4) (are_flags (drop 7 xs)) image) in
    record {
      base = grind (arith, nat_tests, a);
      lowest = grind (arith, nat_tests, a);
      stage = grind (arith, nat_tests, a);
      icw1 = grind (arith, nat_tests, a);
      seventh = grind (arith, nat_tests, six);
      eighth = grind (arith, nat_tests, six);
      ninth = grind (arith, nat_tests, six);
      tenth = grind (arith, nat_tests, six);
      eleventh = grind (arith, nat_tests, six);
      twelfth = grind (arith, nat_tests, six);
    }

flag_small : (b : Bool) → nat_lt (from_bool b) 2 ≡ true
flag_small true = refl
flag_small false = refl

shown_small : (shown : Shown) → nat_lt (shown_number shown) 2 ≡ true
shown_small Irr = refl
shown_small Isr = refl

stage_small : (stage : Stage) → nat_lt (stage_number stage) 5 ≡ true
stage_small Before = refl
stage_small Icw2 = refl
stage_small Icw3 = refl
stage_small Icw4 = refl
stage_small Ready = refl

icw1_small : (single icw4 : Bool) → nat_lt (from_bool single * 2 + from_bool icw4) 4 ≡ true
icw1_small true true = refl
icw1_small true false = refl
icw1_small false true = refl
icw1_small false false = refl

-- the bytes of a chip are in range
pub chip_fits : (c : Controller) → IsController c → is_chip_image (chip_image c) ≡ true
unfolding is_chip_image are_flags
chip_fits c sound =
    let lowest : nat_lt c.lowest 8 ≡ true = grind (arith, nat_tests, sound.lowest) in
    rw (sound.base, lowest, stage_small c.stage, icw1_small c.single c.needs_icw4, flag_small c.automatic_eoi, flag_small c.rotates, flag_small c.special_mask, flag_small c.special_nested, shown_small c.shown, flag_small c.polled) refl
