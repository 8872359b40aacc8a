-- Branches with a displacement. Manual, chapter 17.
use Rattle.std.specs.Prelude.{ℕ, Bool, true, false}
use Rattle.mdl_insn.specs.declared.instruction.Operand.{Operand}
use Rattle.mdl_insn.specs.declared.instruction.Operand.TheVariants.{Rel}
use Rattle.mdl_insn.specs.declared.mnemonics.Op.{Op}
use Rattle.mdl_insn.specs.declared.mnemonics.Op.TheVariants as ops

-- how far a displacement is, and 0 of what is none
abbrev pub displacement_of : Operand → ℕ
displacement_of (Rel displacement) = displacement
displacement_of _ = 0

-- the mnemonics that branch where a condition holds
abbrev pub is_branch : Op → Bool
is_branch (ops.Jcc number) = true
is_branch ops.Loop = true
is_branch ops.Loope = true
is_branch ops.Loopne = true
is_branch ops.Jcxz = true
is_branch _ = false

-- kinds of mnemonics
abbrev pub is_jump : Op → Bool
is_jump ops.Jmp = true
is_jump _ = false

abbrev pub is_call : Op → Bool
is_call ops.Call = true
is_call _ = false

abbrev pub is_return : Op → Bool
is_return ops.Ret = true
is_return _ = false

abbrev pub is_condition : Op → Bool
is_condition (ops.Jcc number) = true
is_condition _ = false
