-- What an instruction does, by the family of its mnemonic.
use Rattle.std.specs.Prelude.{ℕ, if◌then◌else◌}
use Rattle.mdl_state.specs.declared.Regs.{Regs}
use Rattle.mdl_state.specs.State.{Mem}
use Rattle.mdl_state.specs.Serving.{Serve, Outcome}
use Rattle.mdl_state.specs.Attempt.{Plan, attempt}
use Rattle.mdl_insn.specs.declared.instruction.Insn.{Insn}
use Rattle.mdl_cpu.specs.Switch.{Left, left}
use Rattle.mdl_effect.specs.Operands.{After, no_such}
use Rattle.mdl_effect.specs.DataEffects.{runs_data, data_effect}
use Rattle.mdl_effect.specs.FlowEffects.{runs_flow, flow_effect}
use Rattle.mdl_effect.specs.StringEffects.{runs_string, string_plan}
use Rattle.mdl_effect.specs.FarEffects.{runs_far, far_run}
use Rattle.mdl_effect.specs.SystemEffects.{runs_system, system_effect}

-- What an instruction does that stays in its task; `back` is the EIP behind it. A flag that it leaves undefined is its
-- bit of the number `free`.
unfoldable pub effect : Insn → Regs → ℕ → ℕ → Plan After
effect insn r back free =
    if runs_data insn then data_effect insn r free
    else if runs_flow insn then flow_effect insn r back
    else if runs_string insn.op then string_plan insn r free
    else if runs_system insn then system_effect insn r back
    else no_such

-- what an attempt comes to that stays in its task; a fault leaves the registers
abbrev pub in_own_task : Regs → Outcome After × Mem → Left After × Mem
in_own_task r w = left w.0 r w.1

-- An instruction whole, all of it placed or dropped, and by a fault the registers of the task in which it is raised.
-- `given` is what the port that it reads answers.
abbrev pub run_whole : Serve → Insn → Regs → ℕ → ℕ → ℕ → Mem → Left After × Mem
run_whole serve insn r back given free m =
    if runs_far insn then far_run serve insn r back m
    else in_own_task r (attempt serve given (effect insn r back free) m)
