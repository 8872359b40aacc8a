-- Numbers as bits, and as bytes, the lowest byte at the lowest address. Manual, chapter 2.
use Rattle.std.specs.Prelude.{ℕ, zero, suc, ◌+◌, ◌*◌, ◌/◌, ◌%◌, ◌^◌, ◌==◌, Bool, List, [], ◌∷◌, slice_index, slice_set}
use Rattle.mdl_state.specs.declared.Size.{Size}
use Rattle.mdl_state.specs.declared.Size.TheVariants.{B1, B2, B4}

-- a bit of a number
abbrev pub bit : ℕ → ℕ → Bool
bit n k = n / 2 ^ k % 2 == 1

-- the number of bytes of a size
abbrev pub bytes_of : Size → ℕ
bytes_of B1 = 1
bytes_of B2 = 2
bytes_of B4 = 4

-- the number of bits of a size
abbrev pub bits_of : Size → ℕ
bits_of B1 = 8
bits_of B2 = 16
bits_of B4 = 32

-- the least number that does not fit a size
abbrev pub bound_of : Size → ℕ
bound_of size = 2 ^ bits_of size

-- the number of some bytes
abbrev pub little : List ℕ → ℕ
little [] = 0
little (byte ∷ bytes) = byte + 256 * little bytes

-- so many bytes of a number
abbrev pub little_bytes : ℕ → ℕ → List ℕ
little_bytes zero n = []
little_bytes (suc count) n = n % 256 ∷ little_bytes count (n / 256)

-- so many bytes of a list, from a place on
abbrev pub bytes_at : List ℕ → ℕ → ℕ → List ℕ
bytes_at list at zero = []
bytes_at list at (suc count) = slice_index list at ∷ bytes_at list (at + 1) count

-- the number of a size at a place of a list
abbrev pub number_at : List ℕ → ℕ → Size → ℕ
number_at list at size = little (bytes_at list at (bytes_of size))

-- a list with these bytes from a place on
abbrev pub with_bytes : List ℕ → ℕ → List ℕ → List ℕ
with_bytes list at [] = list
with_bytes list at (byte ∷ bytes) = with_bytes (slice_set list at byte) (at + 1) bytes
