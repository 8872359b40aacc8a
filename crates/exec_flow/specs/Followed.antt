-- The instructions of the flags, which have no fault. Manual, chapter 17.
use Rattle.std.specs.Prelude.{Bool, true, false}
use Rattle.mdl_state.specs.declared.Regs.{Regs}
use Rattle.mdl_state.specs.declared.Next.TheVariants.{Follow}
use Rattle.mdl_state.specs.Serving.{Outcome, Passed}
use Rattle.mdl_insn.specs.declared.mnemonics.Op.{Op}
use Rattle.mdl_insn.specs.declared.mnemonics.Op.TheVariants as ops
use Rattle.mdl_effect.specs.Operands.{After, NoPort}

-- the mnemonics that change flags, or AH by them
abbrev pub is_flag : Op → Bool
is_flag ops.Clc = true
is_flag ops.Stc = true
is_flag ops.Cmc = true
is_flag ops.Cld = true
is_flag ops.Std = true
is_flag ops.Lahf = true
is_flag ops.Sahf = true
is_flag _ = false

-- the instruction goes on behind itself with these registers
abbrev pub followed : Regs → Outcome After
followed r = Passed (record { regs = r; next = Follow; access = NoPort })
