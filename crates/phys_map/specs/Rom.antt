-- Where in the ROM an address is. Own: The memory map.
use Rattle.std.specs.Prelude.{ℕ, ◌-◌, ◌^◌, if◌then◌else◌, List, Option, Some, None}
use Rattle.mdl_state.specs.Memory.{is_low_rom, is_high_rom}

-- how many bytes before the end of the ROM an address stands that leaves the processor, where the ROM is there
abbrev pub rom_back : List ℕ → ℕ → Option ℕ
rom_back rom at =
    if is_low_rom rom at then Some (0x100000 - at)
    else if is_high_rom rom at then Some (2 ^ 32 - at)
    else None
