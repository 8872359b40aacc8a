-- Conditions by number, and SETcc. Manual, chapter 17, under Jcc and SETcc.
use Rattle.std.specs.Prelude.{ℕ, ◌/◌, ◌%◌, ◌==◌, ◌||◌, not, Bool, if◌then◌else◌}
use Rattle.std.specs.Int.{bit_at, from_bool}
use Rattle.mdl_state.specs.declared.Regs.{Regs}
use Rattle.mdl_state.specs.Attempt.{Plan}
use Rattle.mdl_num.specs.declared.status.TheConstants.{CF, PF, ZF, SF, OF}
use Rattle.mdl_num.specs.Flags.{is_set}
use Rattle.mdl_insn.specs.declared.instruction.Insn.{Insn}
use Rattle.mdl_effect.specs.Operands.{After, writing}

-- a signed comparison came out less: SF is not OF
abbrev pub is_less : ℕ → Bool
is_less flags = not (bit_at flags SF == bit_at flags OF)

-- the conditions with even numbers, by half their number: O, B, Z, BE, S, P, L, LE
abbrev pub holds : ℕ → ℕ → Bool
holds half flags =
    if half == 0 then is_set flags OF
    else if half == 1 then is_set flags CF
    else if half == 2 then is_set flags ZF
    else if half == 3 then is_set flags CF || is_set flags ZF
    else if half == 4 then is_set flags SF
    else if half == 5 then is_set flags PF
    else if half == 6 then is_less flags
    else is_set flags ZF || is_less flags

-- and those with odd numbers are their opposites
unfoldable pub condition : ℕ → ℕ → Bool
condition number flags = if number % 2 == 0 then holds (number / 2) flags else not (holds (number / 2) flags)

unfoldable pub set_plan : ℕ → Insn → Regs → Plan After
set_plan number insn r = writing r insn.a (from_bool (condition number r.eflags))
