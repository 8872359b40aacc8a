-- What an instruction comes to, before what it holds is placed or dropped.
use Rattle.std.specs.Prelude.{◌≡◌, ℕ, Bool, Result, Ok, Err, IfOk, OnErr}
use Rattle.std.specs.Bool.{OnTrue}
use Rattle.mdl_state.specs.declared.Regs.{Regs}
use Rattle.mdl_state.specs.declared.Fault.{Fault}
use Rattle.mdl_state.specs.declared.Next.{Next}
use Rattle.mdl_state.specs.State.{Mem}
use Rattle.mdl_state.specs.Machine.{Rules}
use Rattle.mdl_state.specs.Accesses.{KeepsPhysical, committed, discarded}
use Rattle.mdl_state.specs.Serving.{Pick, Outcome, Passed, Failed, by_pick}
use Rattle.mdl_cpu.specs.Steady.{Agree, IsSound}
use Rattle.mdl_cpu.specs.Switch.{left}
use Rattle.mdl_insn.specs.declared.instruction.Insn.{Insn}
use Rattle.mdl_effect.specs.Operands.{After, PortUse}
use Rattle.mdl_effect.specs.Ports.{Accesses}
use Rattle.mdl_step.specs.Effects.{run_whole}
use Rattle.mdl_step.specs.Step.{remapped}
use Rattle.cpu_core.specs.declared.dispatch.Ran.{Ran}

-- what an exec crate answers, with a mark on what passed
abbrev pub marked : Result Next Fault → Bool → Result Ran Fault
marked (Ok next) alone = Ok (record { next = next; alone = alone })
marked (Err fault) alone = Err fault

-- as what comes of a plan
abbrev pub outcome_of : Result Ran Fault → PortUse → Regs → Outcome After
outcome_of (Ok ran) access r = Passed (record { regs = r; next = ran.next; access = access })
outcome_of (Err fault) access r = Failed fault

-- what is held is placed, or dropped by a fault
abbrev pub ended : Result Ran Fault → Mem → Mem
ended (Ok ran) m = committed m
ended (Err fault) m = discarded m

-- and what a control register says that was loaded is in place
abbrev pub settled : Result Ran Fault → Insn → Regs → Mem → Mem
settled (Ok ran) insn r m = remapped insn.op insn.a r (committed m)
settled (Err fault) insn r m = discarded m

-- the board is as it was, and memory stays mapped
pub record IsAlone {B : Type 0} (insn : Insn) (before after : B) : Type 0 where
  pub board : after ≡ before
  pub unmapped : (r : Regs) (m : Mem) → remapped insn.op insn.a r m ≡ m

-- It is run whole, with the answer of the port that it uses; a fault leaves the registers of the task in which it is raised.
pub record Runs {B : Type 0} (rules : Rules B) (pick : Pick) (insn : Insn) (old : Regs) (back : ℕ) (m : Mem) (before : B) (result : Result Ran Fault) (new : Regs) (n : Mem) (after : B) : Type 0 where
  pub given : ℕ
  pub access : PortUse
  pub rest : Regs
  pub moves : Accesses rules access given before after
  pub ran : run_whole (by_pick pick) insn old back given new.eflags m ≡ left (outcome_of result access new) rest (ended result n)
  pub task : OnErr result ((rest ≡ new) × (after ≡ before))
  pub sound : IsSound new
  pub tables : Agree new (settled result insn new n)
  pub alone : IfOk result (λ (ran : Ran). OnTrue ran.alone (IsAlone insn before after))
  pub keeps : KeepsPhysical m.physical n.physical
