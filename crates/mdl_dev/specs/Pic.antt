-- One interrupt controller: its registers, its lines in order, and what it requests. 8259A data sheet. Own: A controller requests nothing before it is ready. Own: The interrupt controllers at boot.
use Rattle.std.specs.Prelude.{ℕ, ◌+◌, ◌%◌, ◌^◌, ◌==◌, ◌&&◌, not, Bool, true, false, if◌then◌else◌, Option, Some, None, List, [], ◌∷◌, map, find, bit_and, bit_or}
use Rattle.std.specs.Int.{bit_at, bit_not, w8}
use Rattle.mdl_dev.specs.declared.pic.TheConstants.{CASCADE}
use Rattle.mdl_dev.specs.declared.pic.Chip.{Chip}
use Rattle.mdl_dev.specs.declared.pic.Chip.TheVariants.{First, Second}
use Rattle.mdl_dev.specs.declared.pic.Stage.{Stage}
use Rattle.mdl_dev.specs.declared.pic.Stage.TheVariants.{Before, Icw2, Icw3, Icw4, Ready}
use Rattle.mdl_dev.specs.declared.pic.Shown.TheVariants.{Irr}
use Rattle.mdl_dev.specs.declared.pic.Controller.{Controller}

-- a bit of a register or of a word is 1
abbrev pub has : ℕ → ℕ → Bool
has register bit = bit_at register bit == 1

-- a register with a line's bit
abbrev pub with_line : ℕ → ℕ → ℕ
with_line register line = bit_or register (2 ^ line)

-- a register without a line's bit
abbrev pub without_line : ℕ → ℕ → ℕ
without_line register line = bit_and register (bit_not w8 (2 ^ line))

-- a controller at boot
abbrev pub boot_controller : Controller
boot_controller = record {
  irr = 0;
  isr = 0;
  imr = 0;
  base = 0;
  lowest = 7;
  stage = Before;
  single = false;
  needs_icw4 = false;
  automatic_eoi = false;
  rotates = false;
  special_mask = false;
  special_nested = false;
  shown = Irr;
  polled = false;
}

-- the lines from the highest priority to the lowest, which is given
unfoldable pub order_of : ℕ → List ℕ
order_of lowest = map (λ n. (lowest + n) % 8) (1 ∷ 2 ∷ 3 ∷ 4 ∷ 5 ∷ 6 ∷ 7 ∷ 8 ∷ [])

-- a line asks: it has a request and is not masked
abbrev pub asks : Controller → ℕ → Bool
asks c line = has c.irr line && not (has c.imr line)

-- a line in service blocks the lines below it and itself, but not where it is masked in special mask mode
abbrev pub blocks : Controller → ℕ → Bool
blocks c line = has c.isr line && not (c.special_mask && has c.imr line)

-- the line of the second chip does not block itself in special fully nested mode
abbrev pub passes : Chip → Controller → ℕ → Bool
passes First c line = c.special_nested && line == CASCADE
passes Second c line = false

-- a line holds itself back
abbrev pub is_held : Chip → Controller → ℕ → Bool
is_held chip c line = blocks c line && not (passes chip c line)

-- the first of these lines that asks, above every one that blocks
abbrev pub first_asking : Chip → Controller → List ℕ → Option ℕ
first_asking chip c [] = None
first_asking chip c (line ∷ lines) =
    if asks c line && not (is_held chip c line) then Some line
    else if blocks c line then None
    else first_asking chip c lines

-- the initialization is complete
abbrev pub is_ready : Stage → Bool
is_ready Ready = true
is_ready Before = false
is_ready Icw2 = false
is_ready Icw3 = false
is_ready Icw4 = false

-- what a chip requests: nothing before it is ready
unfoldable pub request : Chip → Controller → Option ℕ
request chip c = if is_ready c.stage then first_asking chip c (order_of c.lowest) else None

-- the line that a plain end of interrupt ends: the first in service that blocks
unfoldable pub in_service : Controller → Option ℕ
in_service c = find (blocks c) (order_of c.lowest)

-- a line gets the lowest priority
abbrev pub rotated : Controller → Option ℕ → Controller
rotated c None = c
rotated c (Some line) = record c { lowest = line }

-- a request is acknowledged: its line goes from IRR to ISR, or with automatic end of interrupt is done at once and may get the lowest priority
abbrev pub acknowledged : Controller → Option ℕ → Controller
acknowledged c None = c
acknowledged c (Some line) =
    if c.automatic_eoi
    then record c { irr = without_line c.irr line; lowest = if c.rotates then line else c.lowest }
    else record c { irr = without_line c.irr line; isr = with_line c.isr line }

-- the vector of a request; where none is left, that of line 7
abbrev pub vector : Controller → Option ℕ → ℕ
vector c None = c.base + 7
vector c (Some line) = c.base + line
