-- What the instructions of the flags do. Manual, chapters 3 and 17.
use Rattle.std.specs.Prelude.{ℕ, ◌%◌, ◌^◌, Bool}
use Rattle.std.specs.Int.{bit_at, from_bool}
use Rattle.mdl_state.specs.declared.Size.TheVariants.{B1}
use Rattle.mdl_state.specs.declared.Regs.{Regs}
use Rattle.mdl_state.specs.Registers.{reg_of, with_reg}
use Rattle.mdl_state.specs.Attempt.{Plan}
use Rattle.mdl_num.specs.declared.status.TheConstants.{CF, PF, AF, ZF, SF}
use Rattle.mdl_num.specs.Flags.{with_bit}
use Rattle.mdl_effect.specs.Operands.{After, follow}

abbrev pub with_flag : Regs → ℕ → Bool → Regs
with_flag r place on = record r { eflags = with_bit r.eflags place (from_bool on) }

-- CLC, STC, CMC, CLD and STD
unfoldable pub flag_plan : ℕ → Bool → Regs → Plan After
flag_plan place on r = follow (with_flag r place on)

-- LAHF: the low byte of EFLAGS in AH
unfoldable pub flags_to_ah_plan : Regs → Plan After
flags_to_ah_plan r = follow (with_reg r 4 B1 (r.eflags % 2 ^ 8))

-- SAHF: CF, PF, AF, ZF and SF from their places in AH
abbrev pub with_flag_of : ℕ → Regs → ℕ → Regs
with_flag_of from r place = record r { eflags = with_bit r.eflags place (bit_at from place) }

unfoldable pub ah_to_flags_plan : Regs → Plan After
ah_to_flags_plan r = let ah = reg_of r 4 B1 in
    follow (with_flag_of ah (with_flag_of ah (with_flag_of ah (with_flag_of ah (with_flag_of ah r CF) PF) AF) ZF) SF)
