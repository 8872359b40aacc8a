-- Strings that come from a port or go to one. Manual, chapter 8.
use Rattle.std.specs.Prelude.{Bool, true, false}
use Rattle.mdl_insn.specs.declared.mnemonics.Op.{Op}
use Rattle.mdl_insn.specs.declared.mnemonics.Op.TheVariants as ops

-- INS and OUTS
abbrev pub uses_port : Op → Bool
uses_port ops.Ins = true
uses_port ops.Outs = true
uses_port _ = false
