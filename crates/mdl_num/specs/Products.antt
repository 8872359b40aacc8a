-- Products and quotients. Manual, chapters 3 and 17.
use Rattle.std.specs.Prelude.{ℕ, ◌+◌, ◌*◌, ◌/◌, ◌%◌, ◌==◌, nat_le, nat_lt, Bool, not, ◌||◌, if◌then◌else◌, ℤ, pos, ◌-ℤ◌, ◌*ℤ◌, int_div, int_rem, Result, Ok, Err}
use Rattle.mdl_state.specs.declared.Size.{Size}
use Rattle.mdl_state.specs.Bytes.{bound_of}
use Rattle.mdl_num.specs.Sizes.{signed_of, fits_signed, complement_in}
use Rattle.mdl_num.specs.declared.results.DivideError.{DivideError}
use Rattle.mdl_num.specs.declared.status.Flag.TheVariants.{Tells, Undefined}
use Rattle.mdl_num.specs.declared.status.Status.{Status}

-- Own: Undefined flags. CF and OF tell whether the high half is needed; the others are undefined.
unfoldable pub product_status : Bool → Status
product_status needed = record {
  carry = Tells needed;
  parity = Undefined;
  adjust = Undefined;
  zero = Undefined;
  sign = Undefined;
  overflow = Tells needed;
}

-- Own: Undefined flags. After DIV and IDIV all six are undefined.
unfoldable pub division_status : Status
division_status = record {
  carry = Undefined;
  parity = Undefined;
  adjust = Undefined;
  zero = Undefined;
  sign = Undefined;
  overflow = Undefined;
}

-- MUL: the product does not fit the operand's size
unfoldable pub mul_status : Size → ℕ → ℕ → Status
mul_status size a b = product_status (nat_le (bound_of size) (a * b))

-- the signed product
unfoldable pub signed_product : Size → ℕ → ℕ → ℤ
signed_product size a b = signed_of size a *ℤ signed_of size b

-- IMUL: the signed product in twice the bits
unfoldable pub imul_word : Size → ℕ → ℕ → ℕ
imul_word size a b = complement_in (bound_of size * bound_of size) (signed_product size a b)

-- IMUL: the signed product does not fit the operand's size
unfoldable pub imul_status : Size → ℕ → ℕ → Status
imul_status size a b = product_status (not (fits_signed size (signed_product size a b)))

-- two operands as one number of twice the bits
abbrev pub joined : Size → ℕ → ℕ → ℕ
joined size high low = high * bound_of size + low

-- the signed number that twice the bits stand for
unfoldable pub signed_wide : Size → ℕ → ℤ
signed_wide size n =
    if nat_lt n (bound_of size * bound_of size / 2) then pos n else (pos n -ℤ pos (bound_of size * bound_of size))

-- a quotient with its remainder, unless the divisor is 0 or the quotient does not fit
abbrev pub divided : Bool → ℕ × ℕ → Result (ℕ × ℕ) DivideError
divided refused answer = if refused then Err (record {}) else Ok answer

-- DIV
unfoldable pub div_result : Size → ℕ → ℕ → ℕ → Result (ℕ × ℕ) DivideError
div_result size high low by =
    let dividend = joined size high low in
    divided (by == 0 || nat_le (bound_of size) (dividend / by)) (dividend / by, dividend % by)

-- IDIV: rounded towards 0, and the remainder has the sign of the dividend
unfoldable pub idiv_result : Size → ℕ → ℕ → ℕ → Result (ℕ × ℕ) DivideError
idiv_result size high low by =
    let quotient = int_div (signed_wide size (joined size high low)) (signed_of size by) in
    let remainder = int_rem (signed_wide size (joined size high low)) (signed_of size by) in
    divided (by == 0 || not (fits_signed size quotient))
    (complement_in (bound_of size) quotient, complement_in (bound_of size) remainder)
