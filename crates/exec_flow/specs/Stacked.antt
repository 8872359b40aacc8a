-- What PUSH and PUSHA push. Manual, chapter 17.
use Rattle.std.specs.Prelude.{ℕ, List, [], ◌∷◌}
use Rattle.mdl_state.specs.declared.Size.{Size}
use Rattle.mdl_state.specs.declared.Regs.{Regs}
use Rattle.mdl_state.specs.Registers.{reg_of, seg_of}
use Rattle.mdl_insn.specs.declared.instruction.Operand.{Operand}
use Rattle.mdl_insn.specs.declared.instruction.Operand.TheVariants.{Sreg}

-- the selector of a segment register, and 0 of what is none
abbrev pub selector_of : Regs → Operand → ℕ
selector_of r (Sreg seg) = (seg_of r seg).sel
selector_of r _ = 0

-- the numbers of some general registers
abbrev pub numbers_of : Regs → Size → List ℕ → List ℕ
numbers_of r size [] = []
numbers_of r size (n ∷ ns) = reg_of r n size ∷ numbers_of r size ns
