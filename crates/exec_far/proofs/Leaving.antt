-- What a far instruction leaves of registers and of memory, by what the transfer and the switch leave.
use Rattle.std.proofs.Common.{◌≡◌, ℕ, Bool, true, false, refl, ap, sym, subst, ◌∙◌}
use Rattle.mdl_state.specs.declared.Regs.{Regs}
use Rattle.mdl_state.specs.State.{Mem}
use Rattle.mdl_state.specs.Bytes.{bit}
use Rattle.mdl_state.specs.Serving.{Pick, Outcome as Attempted, Passed, Failed, NoStep, by_pick}
use Rattle.mdl_state.specs.Accesses.{Keeps, committed, discarded}
use Rattle.mdl_state.specs.Attempt.{tried, finished}
use Rattle.mdl_insn.specs.declared.instruction.Insn.{Insn}
use Rattle.mdl_insn.specs.declared.mnemonics.Op.{Op}
use Rattle.mdl_cpu.specs.declared.Outcome.{Outcome}
use Rattle.mdl_cpu.specs.declared.Outcome.TheVariants as outcome
use Rattle.mdl_cpu.specs.declared.Switched.{Switched}
use Rattle.mdl_cpu.specs.declared.Switched.TheVariants as switched
use Rattle.mdl_cpu.specs.Segments.{has_protection}
use Rattle.mdl_cpu.specs.Steady.{Agree, StaysSound}
use Rattle.mdl_cpu.specs.Deliveries.{KeepsWatch}
use Rattle.mdl_cpu.specs.Switch.{Left, switch}
use Rattle.mdl_cpu.proofs.ServingLaws.{tried_keeps, then_kept}
use Rattle.mdl_cpu.proofs.KeptLaws.{switch_keeps}
use Rattle.mdl_effect.specs.Operands.{After}
use Rattle.mdl_effect.specs.FarEffects.{FarTransfer, far_transfer, far_request, in_either_task, by_outcome, behind_transfer, far_run}

-- ---- registers and tables

-- registers with the same control registers, over memory that pages as before
pub still_agrees : (r q : Regs) (m n k : Mem) → StaysSound r q → Keeps m n → Keeps n k → Agree r m → Agree q k
still_agrees r q m n k stays first second agrees = record {
  paging = second.paging ∙ first.paging ∙ agrees.paging ∙ ap (λ (c : ℕ). bit c 31) (sym stays.cr0);
  cr3 = second.cr3 ∙ first.cr3 ∙ agrees.cr3 ∙ sym stays.cr3;
}

-- a transfer leads to a task with PE alone
protected : (r : Regs) (way : Outcome) (task : ℕ) → (has_protection r ≡ false → way ≡ outcome.Done) → way ≡ outcome.Switch task
    → (b : Bool) → has_protection r ≡ b → b ≡ true
protected r way task real to true h = refl
protected r way task real to false h = let made : way ≡ outcome.Done = real h in cc

pub task_mode : (r q : Regs) (way : Outcome) (task : ℕ) → (has_protection r ≡ false → way ≡ outcome.Done) → way ≡ outcome.Switch task → StaysSound r q → has_protection q ≡ true
task_mode r q way task real to stays = subst (λ (c : ℕ). bit c 0 ≡ true) (sym stays.cr0) (protected r way task real to (has_protection r) refl)

-- ---- what stands beside the contents of memory

kept : (m : Mem) → KeepsWatch m m
kept m = record { served = refl; watch = refl; hits = λ _. refl }

finished_keeps : {A : Type 0} (m : Mem) (w : Attempted A × Mem) → KeepsWatch m w.1 → KeepsWatch m (finished w).1
unfolding committed discarded
finished_keeps m (Passed x, n) h = record { served = h.served; watch = h.watch; hits = h.hits }
finished_keeps m (Failed fault, n) h = record { served = h.served; watch = h.watch; hits = h.hits }
finished_keeps m (NoStep, n) h = h

either_keeps : (o : Attempted Switched) (r : Regs) (m n : Mem) → KeepsWatch m n → KeepsWatch m (in_either_task o r n).1
either_keeps (Passed (switched.Done trap)) r m n h = h
either_keeps (Passed (switched.OldFault fault)) r m n h = h
either_keeps (Passed (switched.NewFault fault)) r m n h = h
either_keeps (Failed fault) r m n h = h
either_keeps NoStep r m n h = h

module _ (pick : Pick) where
  way_keeps : (o : Outcome) (op : Op) (f : FarTransfer) (back : ℕ) (m : Mem) → KeepsWatch m (by_outcome o (by_pick pick) op f back m).1
  way_keeps outcome.Done op f back m = kept m
  way_keeps (outcome.Switch task) op f back m = let w = switch (by_pick pick) f.transfer.regs (far_request op task f.direct back) m in
      either_keeps w.0.outcome w.0.regs m w.1 (switch_keeps pick f.transfer.regs (far_request op task f.direct back) m)

  behind_keeps : (m : Mem) (op : Op) (r : Regs) (back : ℕ) (w : Attempted FarTransfer × Mem) → KeepsWatch m w.1 → KeepsWatch m (behind_transfer (by_pick pick) op r back w).1
  behind_keeps m op r back (Passed f, n) h = then_kept h (way_keeps f.transfer.outcome op f back n)
  behind_keeps m op r back (Failed fault, n) h = h
  behind_keeps m op r back (NoStep, n) h = h

  -- a far instruction leaves it
  pub far_keeps : (insn : Insn) (r : Regs) (back : ℕ) (m : Mem) → KeepsWatch m (far_run (by_pick pick) insn r back m).1
  unfolding far_run
  far_keeps insn r back m =
      let w = tried (by_pick pick) 0 (far_transfer insn r back) m in
      behind_keeps m insn.op r back (finished w) (finished_keeps m w (tried_keeps pick 0 (far_transfer insn r back) m))

pub run_keeps : (pick : Pick) (insn : Insn) (r : Regs) (back : ℕ) (m : Mem) (w : Left After × Mem) → w ≡ far_run (by_pick pick) insn r back m → KeepsWatch m w.1
run_keeps pick insn r back m w e = subst (λ (v : Left After × Mem). KeepsWatch m v.1) (sym e) (far_keeps pick insn r back m)
