-- Numbers in physical memory, the lowest byte at the lowest address. Manual, chapter 2.
use Rattle.std.specs.Prelude.{ℕ, ◌+◌, ◌*◌, ◌/◌, ◌%◌, ◌≤◌}
use Rattle.mdl_state.specs.declared.Size.{Size}
use Rattle.mdl_state.specs.declared.Size.TheVariants.{B1, B2, B4}
use Rattle.mdl_state.specs.State.{Physical}
use Rattle.mdl_state.specs.Bytes.{bytes_of}
use Rattle.mdl_state.specs.Memory.{byte_at, placed}

-- the number of a size at a physical address
unfoldable pub loaded : Physical → ℕ → Size → ℕ
loaded physical at B1 = byte_at physical at
loaded physical at B2 = byte_at physical at + 0x100 * byte_at physical (at + 1)
loaded physical at B4 = byte_at physical at + 0x100 * byte_at physical (at + 1)
    + 0x10000 * byte_at physical (at + 2) + 0x1000000 * byte_at physical (at + 3)

-- a number placed at a physical address, byte by byte, the lowest first
unfoldable pub stored : Physical → ℕ → Size → ℕ → Physical
stored physical at B1 value = placed physical at (value % 0x100)
stored physical at B2 value = placed (placed physical at (value % 0x100)) (at + 1) (value / 0x100 % 0x100)
stored physical at B4 value =
    placed (placed (placed (placed physical at (value % 0x100))
    (at + 1) (value / 0x100 % 0x100))
    (at + 2) (value / 0x10000 % 0x100))
    (at + 3) (value / 0x1000000 % 0x100)

-- an access that lies in one page
abbrev pub InPage : ℕ → Size → Type 0
InPage at size = at % 0x1000 + bytes_of size ≤ 0x1000
