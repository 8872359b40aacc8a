-- Which operands of a data instruction are memory, by what its mnemonic takes.
use Rattle.std.proofs.Common.{◌≡◌, true, false, refl}
use Rattle.std.specs.Prelude.{◌||◌}
use Rattle.mdl_insn.specs.declared.instruction.Insn.{Insn}
use Rattle.mdl_insn.specs.declared.instruction.Operand.{Operand}
use Rattle.mdl_insn.specs.declared.instruction.Operand.TheVariants.{Nothing, Gpr, Imm, At, Sreg}
use Rattle.mdl_insn.specs.declared.mnemonics.Op.{Op}
use Rattle.mdl_insn.specs.declared.mnemonics.Op.TheVariants as ops
use Rattle.mdl_effect.specs.Operands.{is_plain, is_nothing, is_segment}
use Rattle.mdl_effect.specs.Kinds.{is_gpr, is_number, is_memory, is_place, is_value}
use Rattle.mdl_effect.specs.DataEffects.{is_data, is_segment_pop}
use Rattle.mdl_effect.specs.Forms.{IsFormed, IsFormedAs}
use Rattle.operands.proofs.OperandKinds.{place_memory, value_memory}
use Rattle.exec_data.specs.Reads.{is_move, reads_second}

-- a register, a number and nothing are plain
no_gpr : (a : Operand) → is_gpr a ≡ true → is_plain a ≡ false → ⊥
no_gpr (Gpr n size) e f = absurd cc
no_gpr _ e f = absurd cc

no_number : (a : Operand) → is_number a ≡ true → is_plain a ≡ false → ⊥
no_number (Imm value size) e f = absurd cc
no_number _ e f = absurd cc

no_nothing : (a : Operand) → is_nothing a ≡ true → is_plain a ≡ false → ⊥
no_nothing Nothing e f = absurd cc
no_nothing _ e f = absurd cc

some_place : (a : Operand) → (is_place a || is_nothing a) ≡ true → is_plain a ≡ false → is_memory a ≡ true
some_place (At mem size) e f = refl
some_place (Gpr n size) e f = absurd cc
some_place Nothing e f = absurd cc
some_place _ e f = absurd cc

some_value : (a : Operand) → (is_value a || is_nothing a) ≡ true → is_plain a ≡ false → is_memory a ≡ true
some_value (At mem size) e f = refl
some_value (Gpr n size) e f = absurd cc
some_value (Imm value size) e f = absurd cc
some_value Nothing e f = absurd cc
some_value _ e f = absurd cc

first_of : (op : Op) (insn : Insn) → is_data op ≡ true → is_move op ≡ false → IsFormedAs op insn → is_plain insn.a ≡ false → is_memory insn.a ≡ true
first_of ops.Movzx insn d o f e = absurd (no_gpr insn.a f.1.0.0 e)
first_of ops.Movsx insn d o f e = absurd (no_gpr insn.a f.1.0.0 e)
first_of ops.Bsf insn d o f e = absurd (no_gpr insn.a f.1.0.0 e)
first_of ops.Bsr insn d o f e = absurd (no_gpr insn.a f.1.0.0 e)
first_of ops.Xchg insn d o f e = some_place insn.a f.0.0 e
first_of ops.Cbw insn d o f e = absurd (no_nothing insn.a f.1.0 e)
first_of ops.Cwd insn d o f e = absurd (no_nothing insn.a f.1.0 e)
first_of ops.Daa insn d o f e = absurd (no_nothing insn.a f.0 e)
first_of ops.Das insn d o f e = absurd (no_nothing insn.a f.0 e)
first_of ops.Aaa insn d o f e = absurd (no_nothing insn.a f.0 e)
first_of ops.Aas insn d o f e = absurd (no_nothing insn.a f.0 e)
first_of ops.Aam insn d o f e = absurd (no_number insn.a f.0.0 e)
first_of ops.Aad insn d o f e = absurd (no_number insn.a f.0.0 e)
first_of ops.Inc insn d o f e = place_memory insn.a f.0.0 e
first_of ops.Dec insn d o f e = place_memory insn.a f.0.0 e
first_of ops.Neg insn d o f e = place_memory insn.a f.0.0 e
first_of ops.Not insn d o f e = place_memory insn.a f.0.0 e
first_of ops.Rol insn d o f e = place_memory insn.a f.0.0 e
first_of ops.Ror insn d o f e = place_memory insn.a f.0.0 e
first_of ops.Rcl insn d o f e = place_memory insn.a f.0.0 e
first_of ops.Rcr insn d o f e = place_memory insn.a f.0.0 e
first_of ops.Shl insn d o f e = place_memory insn.a f.0.0 e
first_of ops.Shr insn d o f e = place_memory insn.a f.0.0 e
first_of ops.Sar insn d o f e = place_memory insn.a f.0.0 e
first_of ops.Add insn d o f e = place_memory insn.a f.1.0.0 e
first_of ops.Or insn d o f e = place_memory insn.a f.1.0.0 e
first_of ops.Adc insn d o f e = place_memory insn.a f.1.0.0 e
first_of ops.Sbb insn d o f e = place_memory insn.a f.1.0.0 e
first_of ops.And insn d o f e = place_memory insn.a f.1.0.0 e
first_of ops.Sub insn d o f e = place_memory insn.a f.1.0.0 e
first_of ops.Xor insn d o f e = place_memory insn.a f.1.0.0 e
first_of ops.Shld insn d o f e = place_memory insn.a f.1.0.0 e
first_of ops.Shrd insn d o f e = place_memory insn.a f.1.0.0 e
first_of ops.Bt insn d o f e = place_memory insn.a f.1.0.0 e
first_of ops.Bts insn d o f e = place_memory insn.a f.1.0.0 e
first_of ops.Btr insn d o f e = place_memory insn.a f.1.0.0 e
first_of ops.Btc insn d o f e = place_memory insn.a f.1.0.0 e
first_of ops.Mul insn d o f e = value_memory insn.a f.0.0 e
first_of ops.Div insn d o f e = value_memory insn.a f.0.0 e
first_of ops.Idiv insn d o f e = value_memory insn.a f.0.0 e
first_of ops.Cmp insn d o f e = value_memory insn.a f.1.0.0 e
first_of ops.Test insn d o f e = value_memory insn.a f.1.0.0 e
first_of ops.Imul insn d o f e = value_memory insn.a f.1.0.0 e
first_of (ops.Setcc number) insn d o f e = place_memory insn.a f.1.0.0 e
first_of _ insn d o f e = absurd cc

pub first_is_memory : (insn : Insn) → is_data insn.op ≡ true → is_move insn.op ≡ false → IsFormed insn → is_plain insn.a ≡ false → is_memory insn.a ≡ true
first_is_memory insn d o f e = first_of insn.op insn d o f e

second_of : (op : Op) (insn : Insn) → reads_second op ≡ true → IsFormedAs op insn → is_plain insn.b ≡ false → is_memory insn.b ≡ true
second_of ops.Movzx insn o f e = value_memory insn.b f.1.1.0 e
second_of ops.Movsx insn o f e = value_memory insn.b f.1.1.0 e
second_of ops.Bsf insn o f e = value_memory insn.b f.1.1.0 e
second_of ops.Bsr insn o f e = value_memory insn.b f.1.1.0 e
second_of ops.Add insn o f e = value_memory insn.b f.1.1.0 e
second_of ops.Or insn o f e = value_memory insn.b f.1.1.0 e
second_of ops.Adc insn o f e = value_memory insn.b f.1.1.0 e
second_of ops.Sbb insn o f e = value_memory insn.b f.1.1.0 e
second_of ops.And insn o f e = value_memory insn.b f.1.1.0 e
second_of ops.Sub insn o f e = value_memory insn.b f.1.1.0 e
second_of ops.Xor insn o f e = value_memory insn.b f.1.1.0 e
second_of ops.Cmp insn o f e = value_memory insn.b f.1.1.0 e
second_of ops.Test insn o f e = value_memory insn.b f.1.1.0 e
second_of ops.Imul insn o f e = some_value insn.b f.1.1.0 e
second_of _ insn o f e = absurd cc

pub second_is_memory : (insn : Insn) → reads_second insn.op ≡ true → IsFormed insn → is_plain insn.b ≡ false → is_memory insn.b ≡ true
second_is_memory insn o f e = second_of insn.op insn o f e

pub segment_popped : (op : Op) (a : Operand) → is_segment_pop op a ≡ true → is_segment a ≡ true
segment_popped ops.Pop (Sreg seg) e = refl
segment_popped _ _ e = absurd cc

pub ruleset memories = (first_is_memory, second_is_memory)
