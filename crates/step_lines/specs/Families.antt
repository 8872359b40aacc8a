-- Which crate runs an instruction.
use Rattle.std.specs.Prelude.{IsTrue, Bool, true, false}
use Rattle.mdl_insn.specs.declared.instruction.Insn.{Insn}
use Rattle.mdl_effect.specs.DataEffects.{runs_data}
use Rattle.mdl_effect.specs.FlowEffects.{runs_flow}
use Rattle.mdl_effect.specs.StringEffects.{runs_string}
use Rattle.mdl_effect.specs.SystemEffects.{runs_system}
use Rattle.step_lines.specs.declared.steps.Family.{Family}
use Rattle.step_lines.specs.declared.steps.Family.TheVariants.{Data, Flow, Strings, System}

-- a crate runs an instruction
abbrev pub Belongs : Family → Insn → Type 0
Belongs Data insn = IsTrue (runs_data insn)
Belongs Flow insn = IsTrue (runs_flow insn)
Belongs Strings insn = IsTrue (runs_string insn.op)
Belongs System insn = IsTrue (runs_system insn)

-- the crate runs its instructions in real mode alone
abbrev pub is_of_real_mode : Family → Bool
is_of_real_mode Data = true
is_of_real_mode _ = false
