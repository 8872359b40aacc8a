-- The status flags apart from EFLAGS. Manual, chapter 2.
use Rattle.std.specs.Prelude.{ℕ, ◌+◌, ◌*◌, ◌^◌, ◌<◌, ◌==◌, Bool, ◌||◌, false, true, ⊤}
use Rattle.std.specs.Int.{from_bool}
use Rattle.mdl_state.specs.declared.Size.{Size}
use Rattle.mdl_state.specs.declared.Size.TheVariants.{B1, B2, B4}
use Rattle.mdl_state.specs.Bytes.{bound_of}
use Rattle.mdl_num.specs.Flags.{is_set, with_bit, flags_after}
use Rattle.mdl_num.specs.Sums.{sum_status, difference_status, logic_status}
use Rattle.mdl_num.specs.declared.status.Flag.TheVariants.{Tells}
use Rattle.mdl_num.specs.declared.status.Status.{Status}
use Rattle.mdl_num.specs.declared.status.TheConstants.{CF, PF, AF, ZF, SF, OF}
use Rattle.lazy_flags.specs.declared.operation.FlagOp.{FlagOp}
use Rattle.lazy_flags.specs.declared.operation.FlagOp.TheVariants.{Add, AddCarry, Sub, SubBorrow, Logic, Inc, Dec, Plain}

-- a flag of one number in the place of another's
abbrev pub copied : ℕ → ℕ → ℕ → ℕ
copied k from eflags = with_bit eflags k (from_bool (is_set from k))

-- EFLAGS with the status flags of another number
unfoldable pub with_status : ℕ → ℕ → ℕ
with_status eflags from =
    copied OF from (copied SF from (copied ZF from (copied AF from (copied PF from (copied CF from eflags)))))

-- the bit is a status flag's
abbrev pub is_status_bit : ℕ → Bool
is_status_bit k = (k == CF) || (k == PF) || (k == AF) || (k == ZF) || (k == SF) || (k == OF)

-- the flags of a number itself
abbrev pub plain_status : ℕ → Status
plain_status n = record {
  carry = Tells (is_set n CF);
  parity = Tells (is_set n PF);
  adjust = Tells (is_set n AF);
  zero = Tells (is_set n ZF);
  sign = Tells (is_set n SF);
  overflow = Tells (is_set n OF);
}

-- what the last operation did with the flags; INC and DEC kept the carry
unfoldable pub operation_status : FlagOp → Size → ℕ → ℕ → Status
operation_status Add size a b = sum_status size a b false
operation_status (AddCarry carry) size a b = sum_status size a b carry
operation_status Sub size a b = difference_status size a b false
operation_status (SubBorrow borrow) size a b = difference_status size a b borrow
operation_status Logic size a b = logic_status size a
operation_status (Inc kept) size a b = record (sum_status size a 1 false) { carry = Tells kept }
operation_status (Dec kept) size a b = record (difference_status size a 1 false) { carry = Tells kept }
operation_status Plain size a b = plain_status a

-- the numbers are of the size; the packed flags have none
abbrev pub FitsOperation : FlagOp → Size → ℕ → ℕ → Type 0
FitsOperation Plain size a b = ⊤
FitsOperation op size a b = (a < bound_of size) × (b < bound_of size)

-- the status flags that an operation leaves, at their places; an undefined one is 0
unfoldable pub left : FlagOp → ℕ → ℕ → Size → ℕ
left op a b size = flags_after (operation_status op size a b) 0 0

abbrev pub operation_number : FlagOp → ℕ
operation_number Add = 0
operation_number (AddCarry false) = 1
operation_number (AddCarry true) = 2
operation_number Sub = 3
operation_number (SubBorrow false) = 4
operation_number (SubBorrow true) = 5
operation_number Logic = 6
operation_number (Inc false) = 7
operation_number (Inc true) = 8
operation_number (Dec false) = 9
operation_number (Dec true) = 10
operation_number Plain = 11

abbrev pub size_number : Size → ℕ
size_number B1 = 0
size_number B2 = 1
size_number B4 = 2

-- what the keeper is seen as: the status flags that the last operation left, at their places, and
-- above them the operation, the size and its numbers
unfoldable pub kept : FlagOp → ℕ → ℕ → Size → ℕ
kept op a b size = (operation_number op + 16 * (size_number size + 4 * (a + 2 ^ 32 * b))) * 2 ^ 12 + left op a b size
