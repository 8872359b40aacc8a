-- The memory map: which byte stands at a physical address. Own: The memory map.
use Rattle.std.specs.Prelude.{ℕ, ◌-◌, ◌*◌, ◌/◌, ◌%◌, ◌^◌, ◌&&◌, ◌||◌, nat_lt, nat_le, Bool, true, false, if◌then◌else◌, List, length, min, slice_index, slice_set, ◌≤◌, ◌≡◌}
use Rattle.mdl_state.specs.State.{Physical}

-- the address that leaves the processor: bit 20 is 0 where the line A20 is off
abbrev pub gated : Bool → ℕ → ℕ
gated true at = at
gated false at = at - 2 ^ 20 * (at / 2 ^ 20 % 2)

-- where the screen memory lies
abbrev pub screen_base : ℕ
screen_base = 0xB8000

-- in RAM of this size: conventional memory, the screen memory, and what lies above the first megabyte
abbrev pub is_ram : ℕ → ℕ → Bool
is_ram size at = nat_lt at 0xA0000 || nat_le screen_base at && nat_lt at 0xC0000 || nat_le 0x100000 at && nat_lt at size

-- the last 128 KiB of the ROM, or all of it where it is shorter, end where the first megabyte does
abbrev pub is_low_rom : List ℕ → ℕ → Bool
is_low_rom rom at = nat_le (0x100000 - min (length rom) 0x20000) at && nat_lt at 0x100000

-- the whole ROM ends where the address space does
abbrev pub is_high_rom : List ℕ → ℕ → Bool
is_high_rom rom at = nat_le (2 ^ 32 - length rom) at && nat_lt at (2 ^ 32)

-- the byte that stands so many bytes before the end
abbrev pub from_end : List ℕ → ℕ → ℕ
from_end bytes back = slice_index bytes (length bytes - back)

-- what stands at an address that leaves the processor: RAM, ROM, or nothing, which reads all ones
abbrev pub mapped_byte : List ℕ → List ℕ → ℕ → ℕ
mapped_byte ram rom at =
    if is_ram (length ram) at then slice_index ram at
    else if is_low_rom rom at then from_end rom (0x100000 - at)
    else if is_high_rom rom at then from_end rom (2 ^ 32 - at)
    else 0xFF

-- the byte at a physical address
unfoldable pub byte_at : Physical → ℕ → ℕ
byte_at physical at = mapped_byte physical.ram physical.rom (gated physical.a20 at)

-- a byte put at a physical address; it is lost where no RAM is
unfoldable pub placed : Physical → ℕ → ℕ → Physical
placed physical at byte =
    let out = gated physical.a20 at in
    if is_ram (length physical.ram) out then record physical { ram = slice_set physical.ram out byte } else physical

-- the RAM has from 1 to 64 mebibytes
pub record IsRamLength (bytes : ℕ) : Type 0 where
  pub least : 0x100000 ≤ bytes
  pub most : bytes ≤ 0x4000000
  pub whole : bytes % 0x100000 ≡ 0

-- the ROM has from 4 to 256 kibibytes, in whole pages
pub record IsRomLength (bytes : ℕ) : Type 0 where
  pub least : 0x1000 ≤ bytes
  pub most : bytes ≤ 0x40000
  pub whole : bytes % 0x1000 ≡ 0
