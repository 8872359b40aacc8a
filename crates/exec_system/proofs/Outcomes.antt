-- What an instruction comes to, with the port that it uses.
use Rattle.std.proofs.Common.{◌≡◌, ℕ, refl, sym, ap, ◌∙◌}
use Rattle.std.specs.Prelude.{Result, Ok, Err, IfOk, OnErr}
use Rattle.mdl_state.specs.declared.Regs.{Regs}
use Rattle.mdl_state.specs.declared.Fault.{Fault}
use Rattle.mdl_state.specs.declared.Next.{Next}
use Rattle.mdl_state.specs.State.{Mem}
use Rattle.mdl_state.specs.Serving.{Outcome, Serve}
use Rattle.mdl_state.specs.Attempt.{Plan, tried}
use Rattle.mdl_state.specs.Ends.{IfPassed}
use Rattle.mdl_insn.specs.declared.instruction.Insn.{Insn}
use Rattle.mdl_insn.specs.declared.mnemonics.Op.{Op}
use Rattle.mdl_insn.specs.declared.mnemonics.Op.TheVariants as ops
use Rattle.mdl_cpu.specs.Steady.{IsSound}
use Rattle.mdl_effect.specs.Operands.{After, PortUse, NoPort}
use Rattle.mdl_effect.specs.PortEffects.{in_plan, out_plan}
use Rattle.mdl_effect.specs.SystemEffects.{system_by, system_effect}
use Rattle.mdl_effect.specs.Ways.{LeavesTo, LeavesSound}
use Rattle.operands.specs.Whole.{ran, ran_at}

pub no_port : (result : Result Next Fault) (r : Regs) → ran_at result NoPort r ≡ ran result r
no_port (Ok next) r = refl
no_port (Err fault) r = refl

-- IN and OUT
pub in_effect : (insn : Insn) (r : Regs) (back : ℕ) → insn.op ≡ ops.InPort → system_effect insn r back ≡ in_plan insn r
unfolding system_effect
in_effect insn r back e = ap (λ (op : Op). system_by op insn r) e

pub out_effect : (insn : Insn) (r : Regs) (back : ℕ) → insn.op ≡ ops.OutPort → system_effect insn r back ≡ out_plan insn r
unfolding system_effect
out_effect insn r back e = ap (λ (op : Op). system_by op insn r) e

-- what an attempt at a plan comes to, an attempt at the instruction comes to that has the plan
pub by_effect : (insn : Insn) (r : Regs) (back : ℕ) (plan : Plan After) (serve : Serve) (given : ℕ) (m n : Mem) (answer : Outcome After) → system_effect insn r back ≡ plan
    → (answer, n) ≡ tried serve given plan m → (answer, n) ≡ tried serve given (system_effect insn r back) m
by_effect insn r back plan serve given m n answer is ran = ran ∙ ap (λ (p : Plan After). tried serve given p m) (sym is)

-- registers that are sound where an attempt passes, and unchanged where it does not
pub sound_ran : (result : Result Next Fault) (access : PortUse) (old new : Regs) → IfPassed (LeavesSound old) (ran_at result access new) → OnErr result (new ≡ old) → IsSound old → IsSound new
sound_ran (Ok next) access old new passed same sound = passed.0 sound
sound_ran (Err fault) access old new passed same sound = rw same sound

-- what follows where an attempt passes
pub follows_ran : (result : Result Next Fault) (access : PortUse) (old new : Regs) → IfPassed (LeavesSound old) (ran_at result access new) → IfOk result (λ next. LeavesTo next old new)
follows_ran (Ok next) access old new passed = passed.1
follows_ran (Err fault) access old new passed = tt

-- the registers alone
pub regs_kept : (result : Result Next Fault) (A B : Type 0) → OnErr result (A × B) → OnErr result A
regs_kept (Ok next) A B h = tt
regs_kept (Err fault) A B h = h.0
