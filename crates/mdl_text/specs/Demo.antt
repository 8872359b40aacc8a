-- The demo guest: a ROM of instructions that are drawn from a number. Own: The demo guest
use Rattle.std.specs.Prelude.{ℕ, zero, suc, ◌+◌, ◌-◌, ◌*◌, ◌/◌, ◌%◌, ◌^◌, ◌==◌, if◌then◌else◌, List, [], ◌∷◌, ◌++◌, length, replicate}
use Rattle.mdl_state.specs.Bytes.{little_bytes}

-- ---- draws

-- the number that a draw leaves; the draw itself gives its upper 16 bits
abbrev pub after_draw : ℕ → ℕ
after_draw x = (x * 1664525 + 1013904223) % 2 ^ 32

-- an item takes three draws
pub record Draws : Type 0 where
  pub first : ℕ
  pub second : ℕ
  pub third : ℕ

abbrev pub after_three : ℕ → ℕ
after_three x = after_draw (after_draw (after_draw x))

abbrev pub three_draws : ℕ → Draws
three_draws x = record { first = after_draw x / 65536; second = after_draw (after_draw x) / 65536; third = after_three x / 65536 }

-- ---- items

-- a register by its number, where that of the stack pointer stands for the first one
abbrev pub register : ℕ → ℕ
register n = if n % 8 == 4 then 0 else n % 8

-- what the second draw chooses: an operation, and two registers
abbrev pub operation : ℕ → ℕ
operation second = second / 64 % 8

abbrev pub low_register : ℕ → ℕ
low_register second = register second

abbrev pub high_register : ℕ → ℕ
high_register second = register (second / 8)

-- the bytes of an item of each kind
abbrev pub item_of_kind : ℕ → ℕ → ℕ → List ℕ
item_of_kind kind second third =
    if kind == 0 then 0x81 ∷ (0xC0 + 8 * operation second + low_register second) ∷ third % 256 ∷ third / 256 ∷ []
    else if kind == 1 then (0x01 + 8 * operation second) ∷ (0xC0 + 8 * high_register second + low_register second) ∷ []
    else if kind == 2 then 0xA3 ∷ third % 256 ∷ (0x10 + third / 256 % 16) ∷ []
    else if kind == 3 then 0xA1 ∷ third % 256 ∷ (0x10 + third / 256 % 16) ∷ []
    else if kind == 4 then (0x50 + low_register second) ∷ (0x58 + high_register second) ∷ []
    else if kind == 5 then 0xD1 ∷ (0xC0 + 8 * (operation second % 4) + low_register second) ∷ []
    else if kind == 6 then 0xB9 ∷ third % 64 ∷ 0x00 ∷ 0xF3 ∷ 0xA4 ∷ []
    else 0x26 ∷ 0xC6 ∷ 0x06 ∷ third % 256 ∷ third / 256 % 16 ∷ (0x20 + second % 95) ∷ []

-- the item that the next three draws make
unfoldable pub item : ℕ → List ℕ
item x = item_of_kind ((three_draws x).first % 8) (three_draws x).second (three_draws x).third

-- so many items, one behind the other
unfoldable pub items : ℕ → ℕ → List ℕ
items zero x = []
items (suc count) x = item x ++ items count (after_three x)

-- ---- the ROM

-- AX, DS and SS are 0, SP is 7000h, and ES is the segment of the screen memory
abbrev pub set_up : List ℕ
set_up = 0x31 ∷ 0xC0 ∷ 0x8E ∷ 0xD8 ∷ 0x8E ∷ 0xD0 ∷ 0xBC ∷ 0x00 ∷ 0x70 ∷ 0xB8 ∷ 0x00 ∷ 0xB8 ∷ 0x8E ∷ 0xC0 ∷ []

-- a jump back over so many bytes, and over itself
abbrev pub jump_back : ℕ → List ℕ
jump_back bytes = 0xE9 ∷ little_bytes 2 (65536 - (bytes + 3))

-- the jump to the ROM's first byte, where the processor begins
abbrev pub first_jump : List ℕ
first_jump = 0xEA ∷ 0x00 ∷ 0x00 ∷ 0x00 ∷ 0xF0 ∷ []

-- the code, from the ROM's first byte on
abbrev pub code_of : List ℕ → List ℕ
code_of items = set_up ++ items ++ jump_back (length items)

-- 65,536 bytes: the code, HLT up to the place where the processor begins, the jump, and HLT up to the end
abbrev pub rom_of : List ℕ → List ℕ
rom_of code = code ++ replicate (0xFFF0 - length code) 0xF4 ++ first_jump ++ replicate 11 0xF4

-- the ROM of a number
unfoldable pub Demo : ℕ → List ℕ
Demo number = rom_of (code_of (items 8192 number))
