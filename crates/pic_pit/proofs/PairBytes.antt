-- The pair from its bytes.
use Rattle.std.proofs.Common.{◌≡◌, ℕ, ◌+◌, ◌*◌, ◌≤◌, ◌==◌, ◌&&◌, ◌++◌, if◌then◌else◌, ◌∙◌, not, refl, sym, ap, Bool, true, false, List, length, drop, slice_index, arith}
use Rattle.std.specs.Int.{from_bool}
use Rattle.std.proofs.lemmas.Bool.{and_parts, not-true}
use Rattle.std.proofs.lemmas.List.{take_all, length-drop, take-append-drop}
use Rattle.mdl_dev.specs.declared.pic.TheConstants.{CASCADE}
use Rattle.mdl_dev.specs.declared.pic.Controller.{Controller}
use Rattle.mdl_dev.specs.Pic.{has}
use Rattle.mdl_dev.specs.PicPair.{PicPair}
use Rattle.mdl_dev.specs.declared.pic.Stage.{Stage}
use Rattle.mdl_dev.specs.declared.pic.Stage.TheVariants.{Before, Icw2, Icw3, Icw4, Ready}
use Rattle.mdl_dev.specs.declared.pic.Shown.{Shown}
use Rattle.mdl_dev.specs.declared.pic.Shown.TheVariants.{Irr, Isr}
use Rattle.mdl_dev.specs.PicImage.{stage_number, shown_number, chip_image, image, chip_bytes, is_chip_image, is_image, IsController, IsPair}
use Rattle.pic_pit.proofs.ChipBytes.{chip_fits}

-- the bytes of a pair are in range
pub pair_fits : (pair : PicPair) → IsPair pair → is_image (image pair) ≡ true
unfolding is_image
pair_fits pair sound = rw (chip_fits pair.first sound.first, chip_fits pair.second sound.second, sound.cascade) refl

-- two chips' bytes make the image
two_chips : (bytes : List ℕ) → length bytes ≡ 26 → chip_bytes bytes 0 ++ chip_bytes bytes 13 ≡ bytes
two_chips bytes h =
    let short : length (drop 13 bytes) ≤ 13 = omega (arith, length-drop 13 bytes) in
    rw (take_all 13 (drop 13 bytes) short) (take-append-drop 13 bytes)

-- a chip and a pair as their bytes tell them
abbrev stage_at : ℕ → Stage
stage_at n = if n == 0 then Before else if n == 1 then Icw2 else if n == 2 then Icw3 else if n == 3 then Icw4 else Ready

abbrev chip_at : List ℕ → ℕ → Controller
chip_at bytes at = record {
  irr = slice_index bytes (at + 0);
  isr = slice_index bytes (at + 1);
  imr = slice_index bytes (at + 2);
  base = slice_index bytes (at + 3);
  lowest = slice_index bytes (at + 4);
  stage = stage_at (slice_index bytes (at + 5));
  single = has (slice_index bytes (at + 6)) 1;
  needs_icw4 = has (slice_index bytes (at + 6)) 0;
  automatic_eoi = slice_index bytes (at + 7) == 1;
  rotates = slice_index bytes (at + 8) == 1;
  special_mask = slice_index bytes (at + 9) == 1;
  special_nested = slice_index bytes (at + 10) == 1;
  shown = if slice_index bytes (at + 11) == 1 then Isr else Irr;
  polled = slice_index bytes (at + 12) == 1;
}

abbrev pair_at : List ℕ → PicPair
pair_at bytes = record { first = chip_at bytes 0; second = chip_at bytes 13 }

stage_back : (stage : Stage) → stage_at (stage_number stage) ≡ stage
stage_back Before = refl
stage_back Icw2 = refl
stage_back Icw3 = refl
stage_back Icw4 = refl
stage_back Ready = refl

shown_back : (shown : Shown) → (if shown_number shown == 1 then Isr else Irr) ≡ shown
shown_back Irr = refl
shown_back Isr = refl

flag_back : (flag : Bool) → (from_bool flag == 1) ≡ flag
flag_back true = refl
flag_back false = refl

single_back : (single icw4 : Bool) → has (from_bool single * 2 + from_bool icw4) 1 ≡ single
single_back true true = refl
single_back true false = refl
single_back false true = refl
single_back false false = refl

icw4_back : (single icw4 : Bool) → has (from_bool single * 2 + from_bool icw4) 0 ≡ icw4
icw4_back true true = refl
icw4_back true false = refl
icw4_back false true = refl
icw4_back false false = refl

first_back : (c d : Controller) → chip_at (chip_image c ++ chip_image d) 0 ≡ c
first_back c d =
    rw (stage_back c.stage, single_back c.single c.needs_icw4, icw4_back c.single c.needs_icw4, flag_back c.automatic_eoi, flag_back c.rotates, flag_back c.special_mask, flag_back c.special_nested, shown_back c.shown, flag_back c.polled) refl

second_back : (c d : Controller) → chip_at (chip_image c ++ chip_image d) 13 ≡ d
second_back c d =
    rw (stage_back d.stage, single_back d.single d.needs_icw4, icw4_back d.single d.needs_icw4, flag_back d.automatic_eoi, flag_back d.rotates, flag_back d.special_mask, flag_back d.special_nested, shown_back d.shown, flag_back d.polled) refl

pair_back : (pair : PicPair) → pair_at (image pair) ≡ pair
pair_back pair =
    ap (λ c. record { first = c; second = chip_at (image pair) 13 }) (first_back pair.first pair.second)
    ∙ ap (λ c. record { first = pair.first; second = c }) (second_back pair.first pair.second)

-- a pair has its image alone
pub same_pair : (a b : PicPair) → image a ≡ image b → a ≡ b
same_pair a b same = sym (pair_back a) ∙ ap pair_at same ∙ pair_back b

-- what the ranges of an image say
pub record AreFit (bytes : List ℕ) : Type 0 where
  pub first : is_chip_image (chip_bytes bytes 0) ≡ true
  pub second : is_chip_image (chip_bytes bytes 13) ≡ true
  pub cascade : has (slice_index bytes 0) CASCADE ≡ false

pub are_fit : (bytes : List ℕ) → is_image bytes ≡ true → AreFit bytes
unfolding is_image
are_fit bytes h =
    let both = and_parts (is_chip_image (chip_bytes bytes 0) && is_chip_image (chip_bytes bytes 13)) (not (has (slice_index bytes 0) CASCADE)) h in
    let chips = and_parts (is_chip_image (chip_bytes bytes 0)) (is_chip_image (chip_bytes bytes 13)) both.0 in
    record { first = chips.0; second = chips.1; cascade = not-true (has (slice_index bytes 0) CASCADE) both.1 }

-- the chips that were made of an image have it
pub made : (a b : Controller) (bytes : List ℕ) → length bytes ≡ 26 → chip_image a ≡ chip_bytes bytes 0 → chip_image b ≡ chip_bytes bytes 13 → image (record { first = a; second = b }) ≡ bytes
made a b bytes h first second =
    ap (λ xs. xs ++ chip_image b) first ∙ ap (λ xs. chip_bytes bytes 0 ++ xs) second ∙ two_chips bytes h

-- and are a pair
pub made_sound : (a b : Controller) (bytes : List ℕ) → image (record { first = a; second = b }) ≡ bytes → AreFit bytes → IsController a → IsController b → IsPair (record { first = a; second = b })
made_sound a b bytes same fit first second =
    let irr : a.irr ≡ slice_index bytes 0 = ap (λ xs. slice_index xs 0) same in
    record { first = first; second = second; cascade = rw irr fit.cascade }
