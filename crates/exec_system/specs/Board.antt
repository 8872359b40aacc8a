-- What an instruction does with the board. Manual, chapter 8.
use Rattle.std.specs.Prelude.{Bool, true, false}
use Rattle.mdl_insn.specs.declared.mnemonics.Op.{Op}
use Rattle.mdl_insn.specs.declared.mnemonics.Op.TheVariants as ops

-- the mnemonics that use a port
abbrev pub uses_port : Op → Bool
uses_port ops.InPort = true
uses_port ops.OutPort = true
uses_port _ = false

-- the one that writes it
abbrev pub writes_port : Op → Bool
writes_port ops.OutPort = true
writes_port _ = false
