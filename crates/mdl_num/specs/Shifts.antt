-- Shifts of bit strings. Manual, chapters 3 and 17.
use Rattle.std.specs.Prelude.{ℕ, ◌+◌, ◌-◌, ◌*◌, ◌/◌, ◌%◌, ◌^◌, ◌==◌, nat_le, Bool, not, if◌then◌else◌}
use Rattle.std.specs.Int.{bit_at, int_shr}
use Rattle.mdl_state.specs.declared.Size.{Size}
use Rattle.mdl_state.specs.Bytes.{bits_of, bound_of}
use Rattle.mdl_num.specs.Sizes.{signed_of, complement_in}
use Rattle.mdl_num.specs.Flags.{is_set, status_of_result, untouched_status}
use Rattle.mdl_num.specs.declared.results.ShiftOp.{ShiftOp}
use Rattle.mdl_num.specs.declared.results.ShiftOp.TheVariants.{Shl, Shr, Sar}
use Rattle.mdl_num.specs.declared.status.Flag.TheVariants.{Tells, Undefined}
use Rattle.mdl_num.specs.declared.status.Status.{Status}

-- counts are taken modulo 32
abbrev pub masked : ℕ → ℕ
masked count = count % 32

-- the string moves up, or down behind zeros or behind copies of its sign
unfoldable pub shifted : ShiftOp → Size → ℕ → ℕ → ℕ
shifted Shl size a n = a * 2 ^ n % bound_of size
shifted Shr size a n = a / 2 ^ n
shifted Sar size a n = complement_in (bound_of size) (int_shr (signed_of size a) n)

abbrev pub shift_value : ShiftOp → Size → ℕ → ℕ → ℕ
shift_value op size a count = shifted op size a (masked count)

-- the bit that left the string last is 1
unfoldable pub shifts_out : ShiftOp → Size → ℕ → ℕ → Bool
shifts_out Shl size a n = is_set (a * 2 ^ n) (bits_of size)
shifts_out Shr size a n = is_set a (n - 1)
shifts_out Sar size a n = is_set a (n - 1)

-- the highest bits of two numbers differ
unfoldable pub sign_differs : Size → ℕ → ℕ → Bool
sign_differs size a b = not (bit_at a (bits_of size - 1) == bit_at b (bits_of size - 1))

-- Own: Undefined flags. AF, OF unless the count is 1, and CF of a count above the operand's bits.
unfoldable pub shift_status : Size → ℕ → ℕ → Bool → ℕ → Status
shift_status size before value out n =
    if n == 0 then untouched_status
    else status_of_result size value
    (if nat_le n (bits_of size) then Tells out else Undefined)
    Undefined
    (if n == 1 then Tells (sign_differs size before value) else Undefined)

-- SHL, SHR and SAR
unfoldable pub shift_flags : ShiftOp → Size → ℕ → ℕ → Status
shift_flags op size a count = shift_status size a (shift_value op size a count) (shifts_out op size a (masked count)) (masked count)

-- Own: The string of a double shift. Destination, source and destination, one behind the other.
abbrev pub double_string : Size → ℕ → ℕ → ℕ
double_string size dest source = (dest * bound_of size + source) * bound_of size + dest

-- SHLD: the operand that stands n bits below the string's head; SHRD: the one n bits above its end
unfoldable pub double_shifted : Bool → Size → ℕ → ℕ → ℕ → ℕ
double_shifted left size dest source n =
    double_string size dest source / 2 ^ (if left then 2 * bits_of size - n else n) % bound_of size

abbrev pub double_shift_value : Bool → Size → ℕ → ℕ → ℕ → ℕ
double_shift_value left size dest source count = double_shifted left size dest source (masked count)

-- SHLD and SHRD: the flags of the same shift of the destination, and of this result
unfoldable pub double_shift_flags : Bool → Size → ℕ → ℕ → ℕ → Status
double_shift_flags left size dest source count =
    shift_status size dest (double_shift_value left size dest source count)
    (shifts_out (if left then Shl else Shr) size dest (masked count)) (masked count)
