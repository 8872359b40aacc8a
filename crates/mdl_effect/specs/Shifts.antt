-- Shifts, rotates, bit tests and bit scans. Manual, chapters 3 and 17.
use Rattle.std.specs.Prelude.{ℕ, ◌+◌, ◌-◌, ◌*◌, ◌/◌, ◌%◌, ◌^◌, nat_le, Bool, if◌then◌else◌}
use Rattle.mdl_state.specs.declared.Size.{Size}
use Rattle.mdl_state.specs.declared.Regs.{Regs}
use Rattle.mdl_state.specs.Bytes.{bytes_of, bits_of, bound_of}
use Rattle.mdl_state.specs.Attempt.{Plan, then_plan}
use Rattle.mdl_num.specs.declared.results.ShiftOp.{ShiftOp}
use Rattle.mdl_num.specs.declared.results.ShiftOp.TheVariants as shift
use Rattle.mdl_num.specs.declared.results.RotateOp.{RotateOp}
use Rattle.mdl_num.specs.declared.results.RotateOp.TheVariants as rotate
use Rattle.mdl_num.specs.declared.results.BitOp.{BitOp}
use Rattle.mdl_num.specs.Sizes.{half_of}
use Rattle.mdl_num.specs.Flags.{untouched_status}
use Rattle.mdl_num.specs.Shifts.{shift_value, shift_flags, double_shift_value, double_shift_flags}
use Rattle.mdl_num.specs.Rotates.{rotate_value, rotate_status}
use Rattle.mdl_num.specs.Bits.{bit_test_value, bit_test_status, scan_value, scan_status}
use Rattle.mdl_insn.specs.declared.instruction.Insn.{Insn}
use Rattle.mdl_insn.specs.declared.instruction.Mem.{Mem}
use Rattle.mdl_insn.specs.declared.instruction.Operand.{Operand}
use Rattle.mdl_insn.specs.declared.instruction.Operand.TheVariants.{Gpr, At}
use Rattle.mdl_cpu.specs.Addresses.{offset_bound, offset_of}
use Rattle.mdl_insn.specs.declared.mnemonics.Op.{Op}
use Rattle.mdl_insn.specs.declared.mnemonics.Op.TheVariants as ops
use Rattle.mdl_effect.specs.Operands.{After, Made, follow, no_such, change_in, is_plain, value_of, with_flags, reading, updating}
use Rattle.mdl_cpu.specs.Access.{load_from}
use Rattle.mdl_effect.specs.Arithmetic.{Answer, answer, flagged}

abbrev pub shifting : ShiftOp → Size → ℕ → ℕ → Answer
shifting op size a count = answer (shift_value op size a count) (shift_flags op size a count)

abbrev pub rotating : RotateOp → Size → ℕ → ℕ → ℕ → Answer
rotating op size a count flags = answer (rotate_value op size a flags count) (rotate_status op size a flags count)

abbrev pub shifted : Op → Size → ℕ → ℕ → ℕ → Answer
shifted ops.Rol size a count flags = rotating rotate.Rol size a count flags
shifted ops.Ror size a count flags = rotating rotate.Ror size a count flags
shifted ops.Rcl size a count flags = rotating rotate.Rcl size a count flags
shifted ops.Rcr size a count flags = rotating rotate.Rcr size a count flags
shifted ops.Shl size a count flags = shifting shift.Shl size a count
shifted ops.Shr size a count flags = shifting shift.Shr size a count
shifted ops.Sar size a count flags = shifting shift.Sar size a count
shifted _ size a count flags = answer a untouched_status

unfoldable pub shift_plan : Insn → Regs → ℕ → Plan After
shift_plan insn r free = reading r insn.b (λ count. updating r insn.a (λ a. flagged r free (shifted insn.op insn.size a count r.eflags)))

-- SHLD, to the left, and SHRD
unfoldable pub double_shift_plan : Bool → Insn → Regs → ℕ → Plan After
double_shift_plan left insn r free = reading r insn.c (λ count. reading r insn.b (λ source. updating r insn.a (λ a.
    flagged r free (answer (double_shift_value left insn.size a source count) (double_shift_flags left insn.size a source count)))))

-- the place of a bit; an index is taken modulo the operand's bits
abbrev pub bit_place : Size → ℕ → ℕ
bit_place size index = index % bits_of size

-- how far a signed index moves the address of a memory operand, modulo the address size
abbrev pub bit_distance : Size → ℕ → ℕ
bit_distance size index = bytes_of size * (index / bits_of size) + (if nat_le (half_of size) index then 2 ^ 32 - bound_of size / 8 else 0)

-- the offset of the word or doubleword that an index in a register names; an immediate moves nothing
abbrev pub bit_offset : Regs → Mem → Operand → Size → ℕ → ℕ
bit_offset r mem (Gpr n own) size index = (offset_of r mem + bit_distance size index) % offset_bound mem.wide
bit_offset r mem _ size index = offset_of r mem

abbrev pub bit_read : Regs → Operand → Insn → ℕ → Plan ℕ
bit_read r (At mem size) insn index = load_from r mem.seg (bit_offset r mem insn.b insn.size index) size
bit_read r _ insn index = no_such

abbrev pub bit_change : Regs → Operand → Insn → ℕ → (ℕ → Made) → Plan After
bit_change r (At mem size) insn index make = change_in r mem.seg (bit_offset r mem insn.b insn.size index) size make
bit_change r _ insn index make = no_such

-- BT: the flags alone
unfoldable pub bit_test_plan : Insn → Regs → ℕ → Plan After
bit_test_plan insn r free = reading r insn.b (λ index.
    if is_plain insn.a then follow (with_flags r (bit_test_status (value_of r insn.a) (bit_place insn.size index)) free)
    else then_plan (bit_read r insn.a insn index) (λ a. follow (with_flags r (bit_test_status a (bit_place insn.size index)) free)))

-- what BTS, BTR and BTC make
abbrev pub bit_made : BitOp → Size → ℕ → Regs → ℕ → ℕ → Made
bit_made op size index r free a = flagged r free (answer (bit_test_value op a (bit_place size index)) (bit_test_status a (bit_place size index)))

unfoldable pub bit_change_plan : BitOp → Insn → Regs → ℕ → Plan After
bit_change_plan op insn r free = reading r insn.b (λ index.
    if is_plain insn.a then updating r insn.a (bit_made op insn.size index r free)
    else bit_change r insn.a insn index (bit_made op insn.size index r free))

-- BSF, upwards, and BSR
unfoldable pub scan_plan : Bool → Insn → Regs → ℕ → Plan After
scan_plan up insn r free = reading r insn.b (λ source. updating r insn.a (λ dest. flagged r free (answer (scan_value up source dest) (scan_status source))))
