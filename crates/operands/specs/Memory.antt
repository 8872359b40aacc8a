-- Operands that are memory, and their places. Manual, chapter 17.
use Rattle.std.specs.Prelude.{◌≡◌, ℕ, true, false}
use Rattle.mdl_state.specs.declared.Size.{Size}
use Rattle.mdl_state.specs.declared.Place.{Place}
use Rattle.mdl_state.specs.declared.Next.TheVariants.{Follow}
use Rattle.mdl_state.specs.State.{Mem}
use Rattle.mdl_state.specs.Serving.{Outcome, Passed}
use Rattle.mdl_state.specs.Accesses.{got, held_at}
use Rattle.mdl_insn.specs.declared.instruction.Operand.{Operand}
use Rattle.mdl_cpu.specs.Addresses.{HasAddress}
use Rattle.mdl_effect.specs.Operands.{After, NoPort, Made, is_plain}
use Rattle.mdl_effect.specs.Kinds.{is_memory}
use Rattle.mdl_effect.specs.Forms.{IsOf}

-- memory of this size, and so no register and no number
abbrev pub IsMemoryOf : Size → Operand → Type 0
IsMemoryOf size operand = (is_memory operand ≡ true) × (is_plain operand ≡ false) × IsOf size operand × HasAddress operand

-- what an operation makes of the number at a place, held there
abbrev pub changed : Mem → Place → Size → (ℕ → Made) → Outcome After × Mem
changed m place size make = (Passed (record { regs = (make (got m place size)).regs; next = Follow; access = NoPort }), held_at m place size (make (got m place size)).value)
