-- The identify block: 256 words, each with its low byte first. After the ATA standard.
-- Own: The identify block.
use Rattle.std.specs.Prelude.{ℕ, zero, suc, ◌+◌, ◌-◌, ◌*◌, ◌/◌, ◌%◌, ◌^◌, ◌==◌, ◌&&◌, ◌||◌, nat_le, min, if◌then◌else◌, List, [], ◌++◌, length, slice_index_or, codes}
use Rattle.mdl_state.specs.Bytes.{little_bytes}
use Rattle.mdl_dev.specs.declared.disk.Geometry.{Geometry}
use Rattle.mdl_dev.specs.Disk.{DiskState}

-- cylinders of 16 heads and 63 sectors, as many as the word may tell
abbrev pub cylinders : ℕ → ℕ
cylinders total = min (total / 1008) 16383

-- a character of the model's name, which ends in spaces
abbrev pub model_character : ℕ → ℕ
model_character k = slice_index_or (codes "M386 DISK") k 32

-- two characters of the name, the first in the high byte
abbrev pub model_word : ℕ → ℕ
model_word n = 2 ^ 8 * model_character (2 * n) + model_character (2 * n + 1)

-- a word of the block, of a disk of so many sectors
unfoldable pub identify_word : Geometry → ℕ → ℕ → ℕ
identify_word g total n =
    if n == 0 then 0x40
    else if n == 1 || n == 54 then cylinders total
    else if n == 3 || n == 55 then g.heads
    else if n == 6 || n == 56 then g.sectors
    else if nat_le 27 n && nat_le n 46 then model_word (n - 27)
    else if n == 49 then 0x200
    else if n == 53 then 1
    else if n == 57 || n == 60 then total % 2 ^ 16
    else if n == 58 || n == 61 then total / 2 ^ 16
    else 0

-- so many words from one on
abbrev pub identify_from : Geometry → ℕ → ℕ → ℕ → List ℕ
identify_from g total n zero = []
identify_from g total n (suc count) =
    little_bytes 2 (identify_word g total n) ++ identify_from g total (n + 1) count

-- the block
unfoldable pub identify_block : Geometry → ℕ → List ℕ
identify_block g total = identify_from g total 0 256

-- the block, for a disk
abbrev pub identity : DiskState → List ℕ
identity d = identify_block d.geometry (length d.sectors)
