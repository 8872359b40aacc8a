-- Mnemonics that are iterated alike. Manual, chapter 17.
use Rattle.std.specs.Prelude.{Bool, true, false}
use Rattle.mdl_insn.specs.declared.mnemonics.Op.{Op}
use Rattle.mdl_insn.specs.declared.mnemonics.Op.TheVariants as ops

abbrev pub is_move : Op → Bool
is_move ops.Movs = true
is_move _ = false

abbrev pub is_store : Op → Bool
is_store ops.Stos = true
is_store _ = false

abbrev pub is_load : Op → Bool
is_load ops.Lods = true
is_load _ = false
