-- Which operands of a data instruction are never memory. Manual, chapter 17.
use Rattle.std.specs.Prelude.{◌&&◌, ◌||◌, Bool, true}
use Rattle.mdl_insn.specs.declared.instruction.Insn.{Insn}
use Rattle.mdl_insn.specs.declared.mnemonics.Op.{Op}
use Rattle.mdl_insn.specs.declared.mnemonics.Op.TheVariants as ops
use Rattle.mdl_effect.specs.Operands.{is_plain, is_nothing}

-- of a mnemonic whose first operand is plain or not, its second is, and its second is nothing or not
abbrev pub placed : Op → Bool → Bool → Bool → Bool
placed ops.Mov a b none = true
placed ops.Movzx a b none = a
placed ops.Movsx a b none = a
placed ops.Bsf a b none = a
placed ops.Bsr a b none = a
placed ops.Imul a b none = a || none
placed ops.Add a b none = a || b
placed ops.Or a b none = a || b
placed ops.Adc a b none = a || b
placed ops.Sbb a b none = a || b
placed ops.And a b none = a || b
placed ops.Sub a b none = a || b
placed ops.Xor a b none = a || b
placed ops.Cmp a b none = a || b
placed ops.Test a b none = a || b
placed ops.Cbw a b none = a && b
placed ops.Cwd a b none = a && b
placed ops.Daa a b none = a && b
placed ops.Das a b none = a && b
placed ops.Aaa a b none = a && b
placed ops.Aas a b none = a && b
placed ops.Aam a b none = a && b
placed ops.Aad a b none = a && b
placed _ a b none = b

-- the operands of an instruction are registers, numbers or nothing where its mnemonic asks for it
abbrev pub is_placed : Insn → Bool
is_placed insn = is_plain insn.c && placed insn.op (is_plain insn.a) (is_plain insn.b) (is_nothing insn.b)
