-- The state of the interrupt controllers as 26 bytes, 13 for each chip. Own: The image of the interrupt controllers.
use Rattle.std.specs.Prelude.{ℕ, ◌+◌, ◌*◌, ◌%◌, ◌<◌, ◌≡◌, ◌==◌, ◌&&◌, not, nat_lt, Bool, false, List, [], ◌∷◌, ◌++◌, take, drop, slice_index}
use Rattle.std.specs.List.{list_all}
use Rattle.std.specs.Int.{from_bool}
use Rattle.mdl_dev.specs.declared.pic.TheConstants.{CASCADE}
use Rattle.mdl_dev.specs.declared.pic.Stage.{Stage}
use Rattle.mdl_dev.specs.declared.pic.Stage.TheVariants.{Before, Icw2, Icw3, Icw4, Ready}
use Rattle.mdl_dev.specs.declared.pic.Shown.{Shown}
use Rattle.mdl_dev.specs.declared.pic.Shown.TheVariants.{Irr, Isr}
use Rattle.mdl_dev.specs.declared.pic.Controller.{Controller}
use Rattle.mdl_dev.specs.Pic.{has}
use Rattle.mdl_dev.specs.PicPair.{PicPair}

-- what always holds of a chip
pub record IsController (c : Controller) : Type 0 where
  pub base : c.base % 8 ≡ 0
  pub lowest : c.lowest < 8

-- what always holds of the pair
pub record IsPair (pair : PicPair) : Type 0 where
  pub first : IsController pair.first
  pub second : IsController pair.second
  pub cascade : has pair.first.irr CASCADE ≡ false

-- how far the initialization is, as a number
abbrev pub stage_number : Stage → ℕ
stage_number Before = 0
stage_number Icw2 = 1
stage_number Icw3 = 2
stage_number Icw4 = 3
stage_number Ready = 4

-- the register that is read, as a number
abbrev pub shown_number : Shown → ℕ
shown_number Irr = 0
shown_number Isr = 1

-- bits 1 and 0 of ICW1
abbrev pub icw1_number : Controller → ℕ
icw1_number c = from_bool c.single * 2 + from_bool c.needs_icw4

-- the bytes of a chip
abbrev pub chip_image : Controller → List ℕ
chip_image c =
    c.irr ∷ c.isr ∷ c.imr ∷ c.base ∷ c.lowest ∷ stage_number c.stage
    ∷ icw1_number c ∷ from_bool c.automatic_eoi ∷ from_bool c.rotates ∷ from_bool c.special_mask ∷ from_bool c.special_nested
    ∷ shown_number c.shown ∷ from_bool c.polled ∷ []

-- the bytes of the pair
abbrev pub image : PicPair → List ℕ
image pair = chip_image pair.first ++ chip_image pair.second

-- bytes that are truth values
unfoldable pub are_flags : List ℕ → Bool
are_flags bytes = list_all (λ flag. nat_lt flag 2) bytes

-- bytes that are some chip's: base, lowest line, stage, bits of ICW1, and truth values
unfoldable pub is_chip_image : List ℕ → Bool
is_chip_image bytes =
    slice_index bytes 3 % 8 == 0
    && nat_lt (slice_index bytes 4) 8
    && nat_lt (slice_index bytes 5) 5
    && nat_lt (slice_index bytes 6) 4
    && are_flags (drop 7 bytes)

-- the bytes of one chip, from a place on
abbrev pub chip_bytes : List ℕ → ℕ → List ℕ
chip_bytes bytes at = take 13 (drop at bytes)

-- bytes that are some pair's: in the first IRR the line of the second chip is left out
unfoldable pub is_image : List ℕ → Bool
is_image bytes =
    is_chip_image (chip_bytes bytes 0) && is_chip_image (chip_bytes bytes 13)
    && not (has (slice_index bytes 0) CASCADE)
