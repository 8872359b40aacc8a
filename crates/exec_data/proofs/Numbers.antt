-- An instruction reads the number of its source, and goes on with it.
use Rattle.std.proofs.Common.{◌≡◌, ℕ, Bool, true, false, refl}
use Rattle.mdl_state.specs.declared.Regs.{Regs}
use Rattle.mdl_state.specs.Attempt.{Plan, Done, then_plan}
use Rattle.std.specs.Prelude.{if◌then◌else◌}
use Rattle.mdl_insn.specs.declared.instruction.Insn.{Insn}
use Rattle.mdl_insn.specs.declared.instruction.Operand.{Operand}
use Rattle.mdl_effect.specs.Operands.{After, is_plain, value_of, memory_read, reading}
use Rattle.mdl_effect.specs.Moves.{move_plan}
use Rattle.mdl_effect.specs.Arithmetic.{binary_plan, compare_plan}
use Rattle.exec_data.specs.Reads.{number_plan, moving, combining, comparing, compared}

either : (plain : Bool) (value : ℕ) (read : Plan ℕ) (k : ℕ → Plan After)
    → (if plain then k value else then_plan read k) ≡ then_plan (if plain then Done value else read) k
unfolding then_plan
either true value read k = refl
either false value read k = refl

read_number : (r : Regs) (operand : Operand) (k : ℕ → Plan After) → reading r operand k ≡ then_plan (number_plan r operand) k
unfolding number_plan
read_number r operand k = either (is_plain operand) (value_of r operand) (memory_read r operand) k

pub moved : (insn : Insn) (r : Regs) → move_plan insn r ≡ then_plan (number_plan r insn.b) (moving insn r)
unfolding move_plan moving
moved insn r = read_number r insn.b (moving insn r)

pub combined : (insn : Insn) (r : Regs) (free : ℕ) → binary_plan insn r free ≡ then_plan (number_plan r insn.b) (combining insn r free)
unfolding binary_plan combining
combined insn r free = read_number r insn.b (combining insn r free)

pub compared_first : (insn : Insn) (r : Regs) (free b : ℕ) → comparing insn r free b ≡ then_plan (number_plan r insn.a) (compared insn r free b)
unfolding comparing compared
compared_first insn r free b = read_number r insn.a (compared insn r free b)

pub compared_second : (insn : Insn) (r : Regs) (free : ℕ) → compare_plan insn r free ≡ then_plan (number_plan r insn.b) (comparing insn r free)
unfolding compare_plan comparing
compared_second insn r free = read_number r insn.b (comparing insn r free)

pub ruleset numbers = (moved, combined, compared_first, compared_second)
