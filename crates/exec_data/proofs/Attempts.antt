-- A data instruction in an attempt, from what it is as a plan.
use Rattle.std.proofs.Common.{◌≡◌, ℕ, refl, sym, ◌∙◌, ap}
use Rattle.std.specs.Prelude.{Result, Ok, Err}
use Rattle.mdl_state.specs.declared.Regs.{Regs}
use Rattle.mdl_state.specs.declared.Fault.{Fault}
use Rattle.mdl_state.specs.State.{Mem}
use Rattle.mdl_state.specs.Serving.{Serve}
use Rattle.mdl_state.specs.Attempt.{tried}
use Rattle.mdl_insn.specs.declared.instruction.Insn.{Insn}
use Rattle.mdl_effect.specs.DataEffects.{data_effect}
use Rattle.operands.specs.Whole.{after, done}

tried_done : (serve : Serve) (given : ℕ) (result : Result (Unit {0}) Fault) (r : Regs) (m : Mem) → tried serve given (done result r) m ≡ (after result r, m)
tried_done serve given (Ok _) r m = refl
tried_done serve given (Err fault) r m = refl

-- what an instruction leaves as a plan, it leaves in each attempt
pub attempted : (insn : Insn) (result : Result (Unit {0}) Fault) (old new : Regs) (free : ℕ)
    → done result new ≡ data_effect insn old free
    → (serve : Serve) (given : ℕ) (m : Mem) → (after result new, m) ≡ tried serve given (data_effect insn old free) m
attempted insn result old new free plan serve given m = sym (tried_done serve given result new m) ∙ ap (λ p. tried serve given p m) plan

pub ruleset attempts = (attempted)
