-- Which data instructions may fault without memory. Manual, chapter 17.
use Rattle.std.specs.Prelude.{Bool, true, false}
use Rattle.mdl_insn.specs.declared.mnemonics.Op.{Op}
use Rattle.mdl_insn.specs.declared.mnemonics.Op.TheVariants as ops

-- the mnemonics that may end in a divide error
abbrev pub can_fail : Op → Bool
can_fail ops.Div = true
can_fail ops.Idiv = true
can_fail ops.Aam = true
can_fail _ = false
