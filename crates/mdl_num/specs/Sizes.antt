-- Signed numbers of a size. Manual, chapter 2.
use Rattle.std.specs.Prelude.{ℕ, suc, ◌^◌, ◌-◌, nat_lt, Bool, ◌&&◌, ℤ, pos, negsuc, ◌-ℤ◌, int_lt, int_le, if◌then◌else◌}
use Rattle.mdl_state.specs.declared.Size.{Size}
use Rattle.mdl_state.specs.Bytes.{bits_of, bound_of}

-- what the highest bit counts
abbrev pub half_of : Size → ℕ
half_of size = 2 ^ (bits_of size - 1)

-- the number that bits stand for in two's complement
unfoldable pub signed_of : Size → ℕ → ℤ
signed_of size a = if nat_lt a (half_of size) then pos a else (pos a -ℤ pos (bound_of size))

-- a signed number is in the range of its size
unfoldable pub fits_signed : Size → ℤ → Bool
fits_signed size z = int_le (negsuc (half_of size - 1)) z && int_lt z (pos (half_of size))

-- a signed number in two's complement, among so many numbers
unfoldable pub complement_in : ℕ → ℤ → ℕ
complement_in bound (pos n) = n
complement_in bound (negsuc n) = bound - suc n
