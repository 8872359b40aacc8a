-- Which operands are memory, by what a mnemonic takes.
use Rattle.std.proofs.Common.{◌≡◌, true, false, refl}
use Rattle.mdl_insn.specs.declared.instruction.Operand.{Operand}
use Rattle.mdl_insn.specs.declared.instruction.Operand.TheVariants.{Gpr, Sreg, Imm, At, Rel}
use Rattle.mdl_effect.specs.Operands.{is_plain, is_segment}
use Rattle.mdl_effect.specs.Kinds.{is_memory, is_place, is_value, is_relative, is_target, is_pushed, is_popped}

-- a place is a register or memory
pub place_memory : (a : Operand) → is_place a ≡ true → is_plain a ≡ false → is_memory a ≡ true
place_memory (At mem size) e f = refl
place_memory (Gpr n size) e f = absurd cc
place_memory _ e f = absurd cc

-- a value is a register, a number or memory
pub value_memory : (a : Operand) → is_value a ≡ true → is_plain a ≡ false → is_memory a ≡ true
value_memory (At mem size) e f = refl
value_memory (Gpr n size) e f = absurd cc
value_memory (Imm value size) e f = absurd cc
value_memory _ e f = absurd cc

pub place_value : (a : Operand) → is_place a ≡ true → is_value a ≡ true
place_value (At mem size) e = refl
place_value (Gpr n size) e = refl
place_value _ e = absurd cc

-- a target is a displacement or a place
pub target_value : (a : Operand) → is_target a ≡ true → is_relative a ≡ false → is_value a ≡ true
target_value (At mem size) e f = refl
target_value (Gpr n size) e f = refl
target_value (Rel displacement) e f = absurd cc
target_value _ e f = absurd cc

-- what is pushed is a segment register or a value, and what is popped one or a place
pub pushed_value : (a : Operand) → is_pushed a ≡ true → is_segment a ≡ false → is_value a ≡ true
pushed_value (At mem size) e f = refl
pushed_value (Gpr n size) e f = refl
pushed_value (Imm value size) e f = refl
pushed_value (Sreg seg) e f = absurd cc
pushed_value _ e f = absurd cc

pub popped_place : (a : Operand) → is_popped a ≡ true → is_segment a ≡ false → is_place a ≡ true
popped_place (At mem size) e f = refl
popped_place (Gpr n size) e f = refl
popped_place (Sreg seg) e f = absurd cc
popped_place _ e f = absurd cc

pub ruleset kinds = (place_memory, value_memory, place_value, target_value, pushed_value, popped_place)
