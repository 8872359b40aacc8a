-- Sums, differences, logic, products, quotients and decimal adjusts. Manual, chapters 3 and 17.
use Rattle.std.specs.Prelude.{ℕ, ◌-◌, ◌*◌, ◌/◌, ◌%◌, ◌==◌, Bool, false, if◌then◌else◌, Result, Ok, Err}
use Rattle.mdl_state.specs.declared.Size.{Size}
use Rattle.mdl_state.specs.declared.Size.TheVariants.{B1, B2}
use Rattle.mdl_state.specs.declared.Regs.{Regs}
use Rattle.mdl_state.specs.declared.Fault.{Fault}
use Rattle.mdl_state.specs.Bytes.{bound_of}
use Rattle.mdl_state.specs.Registers.{reg_of, with_reg}
use Rattle.mdl_state.specs.Attempt.{Plan, Fail}
use Rattle.mdl_num.specs.declared.results.LogicOp.{LogicOp}
use Rattle.mdl_num.specs.declared.results.LogicOp.TheVariants as logic
use Rattle.mdl_num.specs.declared.results.DivideError.{DivideError}
use Rattle.mdl_num.specs.declared.status.Status.{Status}
use Rattle.mdl_num.specs.declared.status.TheConstants.{CF}
use Rattle.mdl_num.specs.Flags.{is_set, untouched_status}
use Rattle.mdl_num.specs.Sums.{sum_value, sum_status, difference_value, difference_status, increment_status, decrement_status, logic_value, logic_status}
use Rattle.mdl_num.specs.Products.{mul_status, imul_word, imul_status, div_result, idiv_result, division_status}
use Rattle.mdl_num.specs.Decimal.{al_of, daa_value, daa_status, das_value, das_status, aaa_value, aas_value, ascii_status, aam_value, aad_value, digits_status}
use Rattle.mdl_insn.specs.declared.instruction.Insn.{Insn}
use Rattle.mdl_insn.specs.declared.mnemonics.Op.{Op}
use Rattle.mdl_insn.specs.declared.mnemonics.Op.TheVariants as ops
use Rattle.mdl_effect.specs.Operands.{After, Made, follow, is_nothing, with_flags, reading, updating}

-- a number, and what its making does with the flags
pub record Answer : Type 0 where
  pub value : ℕ
  pub status : Status

abbrev pub answer : ℕ → Status → Answer
answer value status = record { value = value; status = status }

-- an answer as what is made of the registers
abbrev pub flagged : Regs → ℕ → Answer → Made
flagged r free made = record { value = made.value; regs = with_flags r made.status free }

-- ---- sums, differences and logic

abbrev pub sum : Size → ℕ → ℕ → Bool → Answer
sum size a b carry = answer (sum_value size a b carry) (sum_status size a b carry)

abbrev pub difference : Size → ℕ → ℕ → Bool → Answer
difference size a b borrow = answer (difference_value size a b borrow) (difference_status size a b borrow)

abbrev pub by_bits : LogicOp → Size → ℕ → ℕ → Answer
by_bits op size a b = answer (logic_value op a b) (logic_status size (logic_value op a b))

-- two operands; CMP is a difference and TEST an AND
abbrev pub binary : Op → Size → ℕ → ℕ → ℕ → Answer
binary ops.Add size a b flags = sum size a b false
binary ops.Adc size a b flags = sum size a b (is_set flags CF)
binary ops.Sub size a b flags = difference size a b false
binary ops.Sbb size a b flags = difference size a b (is_set flags CF)
binary ops.Cmp size a b flags = difference size a b false
binary ops.And size a b flags = by_bits logic.And size a b
binary ops.Test size a b flags = by_bits logic.And size a b
binary ops.Or size a b flags = by_bits logic.Or size a b
binary ops.Xor size a b flags = by_bits logic.Xor size a b
binary _ size a b flags = answer a untouched_status

unfoldable pub binary_plan : Insn → Regs → ℕ → Plan After
binary_plan insn r free = reading r insn.b (λ b. updating r insn.a (λ a. flagged r free (binary insn.op insn.size a b r.eflags)))

-- CMP and TEST: the flags alone
unfoldable pub compare_plan : Insn → Regs → ℕ → Plan After
compare_plan insn r free = reading r insn.b (λ b. reading r insn.a (λ a. follow (with_flags r (binary insn.op insn.size a b r.eflags).status free)))

-- one operand; NEG is a difference from 0, and NOT leaves the flags
abbrev pub unary : Op → Size → ℕ → Answer
unary ops.Inc size a = answer (sum_value size a 1 false) (increment_status size a)
unary ops.Dec size a = answer (difference_value size a 1 false) (decrement_status size a)
unary ops.Neg size a = difference size 0 a false
unary ops.Not size a = answer (bound_of size - 1 - a) untouched_status
unary _ size a = answer a untouched_status

unfoldable pub unary_plan : Insn → Regs → ℕ → Plan After
unary_plan insn r free = updating r insn.a (λ a. flagged r free (unary insn.op insn.size a))

-- ---- products and quotients

-- the second half of a number of twice the bits: AH, DX or EDX
abbrev pub high_number : Size → ℕ
high_number B1 = 4
high_number _ = 2

-- AX, or DX and AX, or EDX and EAX
abbrev pub with_pair : Regs → Size → ℕ → ℕ → Regs
with_pair r size low high = with_reg (with_reg r 0 size low) (high_number size) size high

-- a product of twice the bits
abbrev pub with_product : Regs → Size → ℕ → Regs
with_product r size product = with_pair r size (product % bound_of size) (product / bound_of size)

unfoldable pub multiply_plan : Insn → Regs → ℕ → Plan After
multiply_plan insn r free = reading r insn.a (λ a.
    follow (with_flags (with_product r insn.size (reg_of r 0 insn.size * a)) (mul_status insn.size (reg_of r 0 insn.size) a) free))

-- the low half of a signed product
abbrev pub signed_answer : Size → ℕ → ℕ → Answer
signed_answer size a b = answer (imul_word size a b % bound_of size) (imul_status size a b)

-- IMUL with one operand, with two, the first of which is a factor, and with three
unfoldable pub signed_multiply_plan : Insn → Regs → ℕ → Plan After
signed_multiply_plan insn r free =
    if is_nothing insn.b then reading r insn.a (λ a.
    follow (with_flags (with_product r insn.size (imul_word insn.size (reg_of r 0 insn.size) a)) (imul_status insn.size (reg_of r 0 insn.size) a) free))
    else if is_nothing insn.c then reading r insn.b (λ b. updating r insn.a (λ a. flagged r free (signed_answer insn.size a b)))
    else reading r insn.b (λ b. reading r insn.c (λ c. updating r insn.a (λ _. flagged r free (signed_answer insn.size b c))))

abbrev pub divide_error : Fault
divide_error = record { vector = 0; code = 0; addr = 0 }

-- the quotient in the low half, and the remainder in the high one
abbrev pub quotient_plan : Regs → Size → ℕ → Result (ℕ × ℕ) DivideError → Plan After
quotient_plan r size free (Ok divided) = follow (with_flags (with_pair r size divided.0 divided.1) division_status free)
quotient_plan r size free (Err error) = Fail divide_error

unfoldable pub divide_plan : Insn → Regs → ℕ → Plan After
divide_plan insn r free = reading r insn.a (λ by.
    quotient_plan r insn.size free (div_result insn.size (reg_of r (high_number insn.size) insn.size) (reg_of r 0 insn.size) by))

unfoldable pub signed_divide_plan : Insn → Regs → ℕ → Plan After
signed_divide_plan insn r free = reading r insn.a (λ by.
    quotient_plan r insn.size free (idiv_result insn.size (reg_of r (high_number insn.size) insn.size) (reg_of r 0 insn.size) by))

-- ---- decimal adjusts

-- AX with an answer in it
abbrev pub adjusted : Regs → ℕ → Answer → Plan After
adjusted r free made = follow (with_flags (with_reg r 0 B2 made.value) made.status free)

abbrev pub adjust : Op → ℕ → ℕ → Answer
adjust ops.Daa ax flags = answer (daa_value ax flags) (daa_status ax flags)
adjust ops.Das ax flags = answer (das_value ax flags) (das_status ax flags)
adjust ops.Aaa ax flags = answer (aaa_value ax flags) (ascii_status ax flags)
adjust ops.Aas ax flags = answer (aas_value ax flags) (ascii_status ax flags)
adjust _ ax flags = answer ax untouched_status

unfoldable pub adjust_plan : Insn → Regs → ℕ → Plan After
adjust_plan insn r free = adjusted r free (adjust insn.op (reg_of r 0 B2) r.eflags)

-- AAM: the digits of AL to a base, which may not be 0
unfoldable pub digits_plan : Insn → Regs → ℕ → Plan After
digits_plan insn r free = reading r insn.a (λ base.
    if base == 0 then Fail divide_error
    else adjusted r free (answer (aam_value (reg_of r 0 B2) base) (digits_status (al_of (aam_value (reg_of r 0 B2) base)))))

-- AAD: the number of two digits to a base
unfoldable pub from_digits_plan : Insn → Regs → ℕ → Plan After
from_digits_plan insn r free = reading r insn.a (λ base.
    adjusted r free (answer (aad_value (reg_of r 0 B2) base) (digits_status (aad_value (reg_of r 0 B2) base))))
