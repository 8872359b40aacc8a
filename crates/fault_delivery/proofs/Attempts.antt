-- What one delivery leaves of registers and of memory, by what the gate and the switch leave.
use Rattle.std.proofs.Common.{◌≡◌, ℕ, Bool, true, false, refl, ap, sym, subst, ◌∙◌}
use Rattle.mdl_state.specs.declared.Regs.{Regs}
use Rattle.mdl_state.specs.State.{Mem}
use Rattle.mdl_state.specs.Bytes.{bit}
use Rattle.mdl_state.specs.Serving.{Pick, Outcome as Attempted, Passed, by_pick}
use Rattle.mdl_state.specs.Accesses.{Keeps, KeepsPhysical}
use Rattle.mdl_state.specs.Attempt.{tried}
use Rattle.mdl_state.specs.Ends.{IfPassed}
use Rattle.mdl_cpu.specs.declared.Cause.{Cause}
use Rattle.mdl_cpu.specs.declared.Outcome.{Outcome}
use Rattle.mdl_cpu.specs.declared.Outcome.TheVariants as outcome
use Rattle.mdl_cpu.specs.Segments.{has_protection}
use Rattle.mdl_cpu.specs.Steady.{Agree, IsSound, StaysSound}
use Rattle.mdl_cpu.specs.Transfers.{Transfer}
use Rattle.mdl_cpu.specs.Gates.{gate_way_plan, with_ext}
use Rattle.mdl_cpu.proofs.ModeLaws.{real_made}
use Rattle.fault_delivery.specs.Arrivals.{CanDeliver}

-- PE is 1, or it is 0
both : (b : Bool) → b ≡ true → b ≡ false → ⊥
both true p q = cc
both false p q = cc

pub physical_keeps : (o m n : Mem) → KeepsPhysical o.physical m.physical → KeepsPhysical m.physical n.physical → KeepsPhysical o.physical n.physical
physical_keeps o m n first second = record {
  a20 = second.a20 ∙ first.a20;
  rom = second.rom ∙ first.rom;
  ram = second.ram ∙ first.ram;
}

pub task_ready : (r : Regs) (m : Mem) → IsSound r → Agree r m → CanDeliver r m
task_ready r m sound agrees = record { sound = λ _. sound; tables = λ _. agrees }

-- registers with the same control registers, over memory that pages as before
pub gate_agrees : (r q : Regs) (m n k : Mem) → StaysSound r q → Keeps m n → Keeps n k → Agree r m → Agree q k
gate_agrees r q m n k stays first second agrees = record {
  paging = second.paging ∙ first.paging ∙ agrees.paging ∙ ap (λ (c : ℕ). bit c 31) (sym stays.cr0);
  cr3 = second.cr3 ∙ first.cr3 ∙ agrees.cr3 ∙ sym stays.cr3;
}

-- in real mode nothing is asked
pub real_ready : (r : Regs) (m : Mem) → has_protection r ≡ false → CanDeliver r m
real_ready r m real = record { sound = λ h. absurd (both (has_protection r) h real); tables = λ h. absurd (both (has_protection r) h real) }

-- what a task needs to be entered
pub record CanEnter (r : Regs) (m : Mem) : Type 0 where
  pub mode : has_protection r ≡ true
  pub sound : IsSound r
  pub tables : Agree r m

-- only where gates count there is one to a task
protected : (pick : Pick) (cause : Cause) (r : Regs) (m n : Mem) (t : Transfer) (sel : ℕ) → (Passed t, n) ≡ with_ext cause.ext (tried (by_pick pick) 0 (gate_way_plan cause r) m)
    → t.outcome ≡ outcome.Switch sel → (b : Bool) → has_protection r ≡ b → b ≡ true
protected pick cause r m n t sel e to true h = refl
protected pick cause r m n t sel e to false h =
    let made : t.outcome ≡ outcome.Done = subst (λ (w : Attempted Transfer × Mem). IfPassed (λ (t : Transfer). t.outcome ≡ outcome.Done) w.0) (sym e) (real_made (by_pick pick) cause r m h) in
    cc

-- behind the gate of a task
pub enters : (pick : Pick) (cause : Cause) (r q : Regs) (m n k : Mem) (way : Outcome) (sel : ℕ)
    → (Passed (record { regs = q; outcome = way }), n) ≡ with_ext cause.ext (tried (by_pick pick) 0 (gate_way_plan cause r) m) → way ≡ outcome.Switch sel
    → StaysSound r q → Keeps m n → Keeps n k → CanDeliver r m → CanEnter q k
enters pick cause r q m n k way sel e to stays first second ready =
    let mode : has_protection r ≡ true = protected pick cause r m n (record { regs = q; outcome = way }) sel e to (has_protection r) refl in
    record {
      mode = subst (λ (c : ℕ). bit c 0 ≡ true) (sym stays.cr0) mode;
      sound = stays.sound (ready.sound mode);
      tables = gate_agrees r q m n k stays first second (ready.tables mode);
    }

-- at a handler
pub handler_ready : (r q : Regs) (m n k : Mem) → StaysSound r q → Keeps m n → Keeps n k → CanDeliver r m → CanDeliver q k
handler_ready r q m n k stays first second ready = by_mode (has_protection r) refl
  where
    by_mode : (b : Bool) → has_protection r ≡ b → CanDeliver q k
    by_mode true h = task_ready q k (stays.sound (ready.sound h)) (gate_agrees r q m n k stays first second (ready.tables h))
    by_mode false h = real_ready q k (subst (λ (c : ℕ). bit c 0 ≡ false) (sym stays.cr0) h)
