-- What a rule serves in an instruction whole, far ones and their task switches among them, is served by a list of items.
use Rattle.std.proofs.Common.{ℕ, Bool, true, false, if◌then◌else◌}
use Rattle.mdl_state.specs.declared.Regs.{Regs}
use Rattle.mdl_state.specs.State.{Mem}
use Rattle.mdl_state.specs.Serving.{Pick, Policy, Outcome, Passed, Failed, NoStep, by_pick, by_list}
use Rattle.mdl_state.specs.Attempt.{attempt}
use Rattle.mdl_state.specs.Choices.{Meets, Follows, page_follows, attempt_follows, stays_follow}
use Rattle.mdl_insn.specs.declared.instruction.Insn.{Insn}
use Rattle.mdl_insn.specs.declared.mnemonics.Op.{Op}
use Rattle.mdl_cpu.specs.declared.Outcome as way
use Rattle.mdl_cpu.specs.declared.Outcome.TheVariants as outcome
use Rattle.mdl_cpu.specs.declared.Switched.{Switched}
use Rattle.mdl_cpu.specs.declared.Switched.TheVariants as switched
use Rattle.mdl_cpu.specs.Switch.{left, switch}
use Rattle.mdl_effect.specs.FarEffects.{runs_far, FarTransfer, far_transfer, far_request, in_either_task, by_outcome, behind_transfer, far_run}
use Rattle.mdl_step.specs.Effects.{effect, in_own_task, run_whole}
use Rattle.mdl_step.proofs.TaskLaws.{then_follows, switch_follows}

one_follows : {R : Type 0} (old : Mem) (b : Bool) (x y : R × Mem) (f g : Mem → R × Mem) → Follows old x f → Follows old y g → Follows old (if b then x else y) (λ n. if b then f n else g n)
one_follows old true x y f g p q = p
one_follows old false x y f g p q = q

task_follows : (o : Outcome Switched) (r : Regs) (m : Mem) → Follows m (in_either_task o r m) (λ n. in_either_task o r n)
task_follows (Passed (switched.Done trap)) r m = stays_follow m _
task_follows (Passed (switched.OldFault fault)) r m = stays_follow m _
task_follows (Passed (switched.NewFault fault)) r m = stays_follow m _
task_follows (Failed fault) r m = stays_follow m _
task_follows NoStep r m = stays_follow m _

module _ (pick : Pick) (policy : Policy) (meets : Meets pick policy) where
  outcome_follows : (o : way.Outcome) (op : Op) (f : FarTransfer) (back : ℕ) (m : Mem) → Follows m (by_outcome o (by_pick pick) op f back m) (λ n. by_outcome o (by_list policy) op f back n)
  outcome_follows outcome.Done op f back m = stays_follow m _
  outcome_follows (outcome.Switch task) op f back m = then_follows m (switch (by_pick pick) f.transfer.regs (far_request op task f.direct back) m)
      (λ n. switch (by_list policy) f.transfer.regs (far_request op task f.direct back) n)
      (λ x n. in_either_task x.outcome x.regs n) (λ x n. in_either_task x.outcome x.regs n)
      (switch_follows pick policy meets f.transfer.regs (far_request op task f.direct back) m) (λ x n. task_follows x.outcome x.regs n)

  transfer_follows : (op : Op) (r : Regs) (back : ℕ) (o : Outcome FarTransfer) (n : Mem) → Follows n (behind_transfer (by_pick pick) op r back (o, n)) (λ v. behind_transfer (by_list policy) op r back (o, v))
  transfer_follows op r back (Passed f) n = outcome_follows f.transfer.outcome op f back n
  transfer_follows op r back (Failed fault) n = stays_follow n _
  transfer_follows op r back NoStep n = stays_follow n _

  far_follows : (insn : Insn) (r : Regs) (back : ℕ) (m : Mem) → Follows m (far_run (by_pick pick) insn r back m) (λ n. far_run (by_list policy) insn r back n)
  unfolding far_run
  far_follows insn r back m = then_follows m (attempt (by_pick pick) 0 (far_transfer insn r back) m) (λ n. attempt (by_list policy) 0 (far_transfer insn r back) n)
      (λ o n. behind_transfer (by_pick pick) insn.op r back (o, n)) (λ o n. behind_transfer (by_list policy) insn.op r back (o, n))
      (attempt_follows pick (by_list policy) (page_follows pick policy meets) 0 (far_transfer insn r back) m) (transfer_follows insn.op r back)

  own_follows : (insn : Insn) (r : Regs) (back given free : ℕ) (m : Mem)
      → Follows m (in_own_task r (attempt (by_pick pick) given (effect insn r back free) m)) (λ n. in_own_task r (attempt (by_list policy) given (effect insn r back free) n))
  own_follows insn r back given free m = then_follows m (attempt (by_pick pick) given (effect insn r back free) m) (λ n. attempt (by_list policy) given (effect insn r back free) n)
      (λ o n. left o r n) (λ o n. left o r n)
      (attempt_follows pick (by_list policy) (page_follows pick policy meets) given (effect insn r back free) m) (λ o n. stays_follow n _)

  pub whole_follows : (insn : Insn) (r : Regs) (back given free : ℕ) (m : Mem) → Follows m (run_whole (by_pick pick) insn r back given free m) (λ n. run_whole (by_list policy) insn r back given free n)
  whole_follows insn r back given free m = one_follows m (runs_far insn) _ _ (λ n. far_run (by_list policy) insn r back n) (λ n. in_own_task r (attempt (by_list policy) given (effect insn r back free) n))
      (far_follows insn r back m) (own_follows insn r back given free m)
