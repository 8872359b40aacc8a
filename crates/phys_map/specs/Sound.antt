-- What always holds of a memory map. Own: The memory map.
use Rattle.std.specs.Prelude.{ℕ, ◌≡◌, ◌&&◌, not, nat_lt, nat_le, Bool, true, List, length, slice_index}
use Rattle.mdl_state.specs.State.{Physical}
use Rattle.mdl_state.specs.Memory.{screen_base, IsRamLength, IsRomLength}

-- from the end of conventional memory to that of the first megabyte, the screen memory left out
abbrev pub is_covered : ℕ → Bool
is_covered at = nat_le 0xA0000 at && nat_lt at 0x100000 && not (nat_le screen_base at && nat_lt at 0xC0000)

-- the bytes of RAM that no address reaches are 0
abbrev pub IsBlank : List ℕ → Type 0
IsBlank ram = (at : ℕ) → is_covered at ≡ true → slice_index ram at ≡ 0

-- RAM and ROM have lengths that there are, and what no address reaches is 0
pub record IsSound (physical : Physical) : Type 0 where
  pub ram : IsRamLength (length physical.ram)
  pub rom : IsRomLength (length physical.rom)
  pub blank : IsBlank physical.ram
