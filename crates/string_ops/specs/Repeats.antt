-- Indexes behind an iteration, and how many more follow, by what an instruction says of them. Manual,
-- chapter 17, under MOVS and REP.
use Rattle.std.specs.Prelude.{◌==◌, ◌&&◌, ◌||◌, not, Bool, if◌then◌else◌}
use Rattle.mdl_state.specs.declared.Size.{Size}
use Rattle.mdl_state.specs.declared.Regs.{Regs}
use Rattle.mdl_state.specs.declared.Next.TheVariants.{Follow, Again}
use Rattle.mdl_state.specs.Registers.{with_reg}
use Rattle.mdl_num.specs.declared.status.TheConstants.{ZF}
use Rattle.mdl_num.specs.Flags.{is_set}
use Rattle.mdl_insn.specs.declared.instruction.Rep.{Rep}
use Rattle.mdl_effect.specs.Operands.{After, address_size, count_of, counted_down}
use Rattle.mdl_effect.specs.StringEffects.{source_index, destination_index, stepped, is_wanted}

-- SI past a number of this size
abbrev pub source_passed : Regs → Bool → Size → Regs
source_passed r wide size = with_reg r 6 (address_size wide) (stepped r wide size (source_index r wide))

-- DI past a number of this size
abbrev pub destination_passed : Regs → Bool → Size → Regs
destination_passed r wide size = with_reg r 7 (address_size wide) (stepped r wide size (destination_index r wide))

-- more iterations follow one that left these registers
abbrev pub goes_on : Rep → Bool → Bool → Regs → Bool
goes_on rep compares wide r = not (count_of r wide == 0) && (not compares || is_wanted rep (is_set r.eflags ZF))

-- an iteration is counted, and EIP stays at the instruction while it goes on
abbrev pub counted : Rep → Bool → Bool → After → After
counted rep compares wide after = record after {
  regs = counted_down after.regs wide;
  next = if goes_on rep compares wide (counted_down after.regs wide) then Again else Follow;
}
