-- What running an instruction comes to, over a memory with a rule that serves its pages.
use Rattle.std.specs.Prelude.{◌≡◌, ℕ}
use Rattle.mdl_state.specs.declared.Regs.{Regs}
use Rattle.mdl_state.specs.declared.Fault.{Fault}
use Rattle.mdl_state.specs.declared.Next.{Next}
use Rattle.mdl_state.specs.State.{Mem}
use Rattle.mdl_state.specs.Machine.{Rules}
use Rattle.mdl_state.specs.Serving.{Pick, Passed, Failed, by_pick}
use Rattle.mdl_cpu.specs.Switch.{left}
use Rattle.mdl_insn.specs.declared.instruction.Insn.{Insn}
use Rattle.mdl_effect.specs.Operands.{PortUse}
use Rattle.mdl_effect.specs.Ports.{Accesses}
use Rattle.mdl_step.specs.Effects.{run_whole}
use Rattle.mdl_step.specs.Step.{remapped}

-- The instruction passes, with the answer of the port that it uses, and memory is then remapped.
pub record Passes {B : Type 0} (rules : Rules B) (pick : Pick) (insn : Insn) (old : Regs) (back : ℕ) (m : Mem) (before : B) (new : Regs) (next : Next) (n : Mem) (after : B) : Type 0 where
  pub given : ℕ
  pub access : PortUse
  pub rest : Regs
  pub placed : Mem
  pub passed : run_whole (by_pick pick) insn old back given new.eflags m ≡ left (Passed (record { regs = new; next = next; access = access })) rest placed
  pub moves : Accesses rules access given before after
  pub mapped : n ≡ remapped insn.op insn.a new placed

-- It faults, in the task that has these registers.
pub record Faults (pick : Pick) (insn : Insn) (old : Regs) (back : ℕ) (m : Mem) (fault : Fault) (new : Regs) (n : Mem) : Type 0 where
  pub given : ℕ
  pub free : ℕ
  pub failed : run_whole (by_pick pick) insn old back given free m ≡ left (Failed fault) new n
