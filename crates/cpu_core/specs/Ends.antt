-- How an instruction of a calm processor ends.
use Rattle.std.specs.Prelude.{◌≡◌, ℕ, Bool, true, false, if◌then◌else◌, Result, Ok, Err}
use Rattle.std.specs.Bool.{OnTrue}
use Rattle.mdl_state.specs.declared.Regs.{Regs}
use Rattle.mdl_state.specs.declared.Fault.{Fault}
use Rattle.mdl_state.specs.declared.Next.{Next}
use Rattle.mdl_state.specs.declared.Next.TheVariants as next
use Rattle.mdl_state.specs.State.{Mem}
use Rattle.mdl_state.specs.Machine.{Rules}
use Rattle.mdl_state.specs.Serving.{Pick}
use Rattle.mdl_insn.specs.declared.instruction.Insn.{Insn}
use Rattle.mdl_insn.specs.declared.mnemonics.Op.{Op}
use Rattle.mdl_step.specs.Step.{landed, resumed}
use Rattle.cpu_core.specs.Executing.{Passes, Faults}
use Rattle.cpu_core.specs.Plain.{IsSettled}
use Rattle.cpu_core.specs.declared.dispatch.Ran.{Ran}
use Rattle.cpu_core.specs.declared.usual.Ended.{Ended}

-- EIP goes on or was set, or the instruction goes on
abbrev pub is_usual : Next → Bool
is_usual next.Follow = true
is_usual next.Landed = true
is_usual next.Again = true
is_usual _ = false

-- an instruction that stands alone, by its answer
abbrev pub ended_by : Result Next Fault → Ended
ended_by (Ok next) = record { usual = is_usual next; rest = Ok (record { next = next; alone = true }) }
ended_by (Err fault) = record { usual = false; rest = Err fault }

-- the registers then: behind the instruction, if it was usual
abbrev pub left_behind : Op → Result Next Fault → ℕ → Regs → Regs
left_behind op (Ok next) back r = if is_usual next then resumed op next (landed next r back) else r
left_behind op (Err fault) back r = r

-- it passed, used no port, and left the registers as they are behind it
pub record Lands {B : Type 0} (rules : Rules B) (pick : Pick) (insn : Insn) (old : Regs) (back : ℕ) (m : Mem) (before : B) (next : Next) (new : Regs) (n : Mem) (after : B) : Type 0 where
  pub usual : is_usual next ≡ true
  pub mid : Regs
  pub passes : Passes rules pick insn old back m before mid next n after
  pub left : new ≡ resumed insn.op next (landed next mid back)
  pub board : after ≡ before

-- by whether it was usual
abbrev pub Came : {B : Type 0} → Bool → Result Ran Fault → Rules B → Pick → Insn → Regs → ℕ → Mem → B → Regs → Mem → B → Type 0
Came true (Ok ran) rules pick insn old back m before new n after = Lands rules pick insn old back m before ran.next new n after
Came true (Err fault) rules pick insn old back m before new n after = ⊥
Came false (Ok ran) rules pick insn old back m before new n after = Passes rules pick insn old back m before new ran.next n after × OnTrue ran.alone (after ≡ before)
Came false (Err fault) rules pick insn old back m before new n after = Faults pick insn old back m fault new n × (after ≡ before)

-- an instruction ended, and nothing is held
pub record Ends {B : Type 0} (rules : Rules B) (pick : Pick) (insn : Insn) (old : Regs) (back : ℕ) (m : Mem) (before : B) (ended : Ended) (new : Regs) (n : Mem) (after : B) : Type 0 where
  pub came : Came ended.usual ended.rest rules pick insn old back m before new n after
  pub ready : IsSettled new n
