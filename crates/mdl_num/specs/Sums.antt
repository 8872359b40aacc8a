-- Sums, differences and logic. Manual, chapters 3 and 17.
use Rattle.std.specs.Prelude.{ℕ, ◌+◌, ◌-◌, ◌%◌, nat_le, nat_lt, Bool, false, not, pos, ◌+ℤ◌, ◌-ℤ◌, bit_and, bit_or, bit_xor}
use Rattle.std.specs.Int.{from_bool}
use Rattle.mdl_state.specs.declared.Size.{Size}
use Rattle.mdl_state.specs.Bytes.{bound_of}
use Rattle.mdl_num.specs.Sizes.{signed_of, fits_signed}
use Rattle.mdl_num.specs.Flags.{status_of_result}
use Rattle.mdl_num.specs.declared.results.LogicOp.{LogicOp}
use Rattle.mdl_num.specs.declared.results.LogicOp.TheVariants.{And, Or, Xor}
use Rattle.mdl_num.specs.declared.status.Flag.TheVariants.{Tells, Undefined, Stays}
use Rattle.mdl_num.specs.declared.status.Status.{Status}

-- ADD and ADC: the sum modulo the bound
unfoldable pub sum_value : Size → ℕ → ℕ → Bool → ℕ
sum_value size a b carry = (a + b + from_bool carry) % bound_of size

-- OF of a sum: the signed sum is out of range
unfoldable pub sum_overflows : Size → ℕ → ℕ → Bool → Bool
sum_overflows size a b carry =
    not (fits_signed size (signed_of size a +ℤ signed_of size b +ℤ pos (from_bool carry)))

-- CF: the sum does not fit; AF: that of the low digits does not fit a digit
unfoldable pub sum_status : Size → ℕ → ℕ → Bool → Status
sum_status size a b carry = status_of_result size (sum_value size a b carry)
    (Tells (nat_le (bound_of size) (a + b + from_bool carry)))
    (Tells (nat_le 16 (a % 16 + b % 16 + from_bool carry)))
    (Tells (sum_overflows size a b carry))

-- SUB, SBB and CMP: the difference modulo the bound
unfoldable pub difference_value : Size → ℕ → ℕ → Bool → ℕ
difference_value size a b borrow = (bound_of size + a - (b + from_bool borrow)) % bound_of size

-- OF of a difference: the signed difference is out of range
unfoldable pub difference_overflows : Size → ℕ → ℕ → Bool → Bool
difference_overflows size a b borrow =
    not (fits_signed size (signed_of size a -ℤ signed_of size b -ℤ pos (from_bool borrow)))

-- CF: what is taken away is more than what is there; AF: the same of the low digits
unfoldable pub difference_status : Size → ℕ → ℕ → Bool → Status
difference_status size a b borrow = status_of_result size (difference_value size a b borrow)
    (Tells (nat_lt a (b + from_bool borrow)))
    (Tells (nat_lt (a % 16) (b % 16 + from_bool borrow)))
    (Tells (difference_overflows size a b borrow))

-- INC and DEC: a sum and a difference with 1 that leave CF
unfoldable pub increment_status : Size → ℕ → Status
increment_status size a = record (sum_status size a 1 false) { carry = Stays }

unfoldable pub decrement_status : Size → ℕ → Status
decrement_status size a = record (difference_status size a 1 false) { carry = Stays }

-- AND, OR and XOR, bit by bit
unfoldable pub logic_value : LogicOp → ℕ → ℕ → ℕ
logic_value And a b = bit_and a b
logic_value Or a b = bit_or a b
logic_value Xor a b = bit_xor a b

-- Own: Undefined flags. They clear CF and OF, and leave AF undefined.
unfoldable pub logic_status : Size → ℕ → Status
logic_status size value = status_of_result size value (Tells false) Undefined (Tells false)
