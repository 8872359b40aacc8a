-- Bytes of physical memory, sixteen to a line. Own: The answers of the monitor
use Rattle.std.specs.Prelude.{ℕ, ◌+◌, ◌-◌, ◌*◌, ◌/◌, ◌%◌, ◌^◌, min, List, ◌++◌, codes}
use Rattle.std.specs.List.{flat_map, range_with_len}
use Rattle.mdl_insn.specs.Text.{hex}
use Rattle.mdl_state.specs.Memory.{byte_at}
use Rattle.mdl_state.specs.State.{Physical}

-- a space, and the byte at a physical address in two digits; behind the last address comes 0
abbrev pub byte_word : Physical → ℕ → ℕ → List ℕ
byte_word physical at i = codes " " ++ hex 2 (byte_at physical ((at + i) % 2 ^ 32))

-- the address of the first of so many bytes, and these
unfoldable pub bytes_line : Physical → ℕ → ℕ → List ℕ
bytes_line physical at n = hex 8 at ++ flat_map (byte_word physical at) (range_with_len 0 n) ++ codes "\n"

-- the line of a number, of so many bytes in all
abbrev pub line_of : Physical → ℕ → ℕ → ℕ → List ℕ
line_of physical at n line = bytes_line physical ((at + 16 * line) % 2 ^ 32) (min 16 (n - 16 * line))

-- the lines of so many bytes; the last may be shorter
unfoldable pub bytes_lines : Physical → ℕ → ℕ → List ℕ
bytes_lines physical at n = flat_map (line_of physical at n) (range_with_len 0 ((n + 15) / 16))
