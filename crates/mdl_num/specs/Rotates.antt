-- Rotates of bit strings. Manual, chapters 3 and 17.
use Rattle.std.specs.Prelude.{ℕ, ◌+◌, ◌-◌, ◌*◌, ◌/◌, ◌%◌, ◌^◌, ◌==◌, Bool, not, if◌then◌else◌}
use Rattle.std.specs.Int.{bit_at, from_bool}
use Rattle.mdl_state.specs.declared.Size.{Size}
use Rattle.mdl_state.specs.Bytes.{bits_of, bound_of}
use Rattle.mdl_num.specs.Flags.{is_set, untouched_status}
use Rattle.mdl_num.specs.Shifts.{masked}
use Rattle.mdl_num.specs.declared.results.RotateOp.{RotateOp}
use Rattle.mdl_num.specs.declared.results.RotateOp.TheVariants.{Rol, Ror, Rcl, Rcr}
use Rattle.mdl_num.specs.declared.status.Flag.TheVariants.{Tells, Undefined}
use Rattle.mdl_num.specs.declared.status.Status.{Status}
use Rattle.mdl_num.specs.declared.status.TheConstants.{CF}

-- the highest k bits of a string go to its low end
unfoldable pub turned : ℕ → ℕ → ℕ → ℕ
turned width k string = string % 2 ^ (width - k) * 2 ^ k + string / 2 ^ (width - k)

-- RCL and RCR rotate the operand with CF in front
abbrev pub with_carry : Size → ℕ → ℕ → ℕ
with_carry size a flags = bit_at flags CF * bound_of size + a

-- the string after the rotate; to the right by k is to the left by what is left of the width
unfoldable pub rotated : RotateOp → Size → ℕ → ℕ → ℕ → ℕ
rotated Rol size a flags n = turned (bits_of size) (n % bits_of size) a
rotated Ror size a flags n = turned (bits_of size) (bits_of size - n % bits_of size) a
rotated Rcl size a flags n = turned (bits_of size + 1) (n % (bits_of size + 1)) (with_carry size a flags)
rotated Rcr size a flags n = turned (bits_of size + 1) (bits_of size + 1 - n % (bits_of size + 1)) (with_carry size a flags)

-- the operand's part of the string
unfoldable pub rotate_value : RotateOp → Size → ℕ → ℕ → ℕ → ℕ
rotate_value op size a flags count = rotated op size a flags (masked count) % bound_of size

-- CF: the low bit after ROL, the high bit after ROR, and else the bit in front
unfoldable pub rotates_out : RotateOp → Size → ℕ → Bool
rotates_out Rol size string = is_set string 0
rotates_out Ror size string = is_set string (bits_of size - 1)
rotates_out Rcl size string = is_set string (bits_of size)
rotates_out Rcr size string = is_set string (bits_of size)

-- OF of a rotate by 1. To the left, the high bit differs from CF; to the right, the two high bits differ.
unfoldable pub rotate_overflows : RotateOp → Size → ℕ → Bool → Bool
rotate_overflows Rol size value carry = not (bit_at value (bits_of size - 1) == from_bool carry)
rotate_overflows Rcl size value carry = not (bit_at value (bits_of size - 1) == from_bool carry)
rotate_overflows Ror size value carry = not (bit_at value (bits_of size - 1) == bit_at value (bits_of size - 2))
rotate_overflows Rcr size value carry = not (bit_at value (bits_of size - 1) == bit_at value (bits_of size - 2))

-- Own: Undefined flags. OF of a count above 1. PF, AF, ZF and SF stay.
unfoldable pub rotate_status : RotateOp → Size → ℕ → ℕ → ℕ → Status
rotate_status op size a flags count =
    let string = rotated op size a flags (masked count) in
    if masked count == 0 then untouched_status
    else record untouched_status {
      carry = Tells (rotates_out op size string);
      overflow = if masked count == 1 then Tells (rotate_overflows op size (rotate_value op size a flags count) (rotates_out op size string)) else Undefined;
    }
