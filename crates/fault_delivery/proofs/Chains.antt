-- One delivery, and the next behind its fault.
use Rattle.std.proofs.Common.{◌≡◌, ◌<◌, ℕ, Bool, true, false, refl, ap, sym, subst, ◌∙◌}
use Rattle.std.specs.Prelude.{◌==◌, if◌then◌else◌, Option, Some, None, IfSome, Result, Ok, Err, IfErr}
use Rattle.mdl_state.specs.declared.Regs.{Regs}
use Rattle.mdl_state.specs.declared.Fault.{Fault}
use Rattle.mdl_state.specs.State.{Mem}
use Rattle.mdl_state.specs.Bytes.{bit}
use Rattle.mdl_state.specs.Serving.{Pick, Passed, Failed, outcome, by_pick}
use Rattle.mdl_cpu.specs.declared.Cause.{Cause}
use Rattle.mdl_cpu.specs.Segments.{has_protection}
use Rattle.mdl_cpu.specs.Steady.{Steady, steady_sound, steady_agrees}
use Rattle.mdl_cpu.specs.Causes.{fault_cause, with_address}
use Rattle.mdl_cpu.specs.DoubleFault.{class_of, combine}
use Rattle.mdl_cpu.specs.Switch.{Left, left}
use Rattle.mdl_cpu.specs.Delivery.{shut_down, followed_by}
use Rattle.mdl_cpu.specs.TaskDeliveries.{going_on, delivered_by_gate, behind_delivery, deliver_by_gate}
use Rattle.mdl_cpu.specs.Deliveries.{Serious, IfFailed, KeepsWatch}
use Rattle.mdl_cpu.proofs.ServingLaws.{by_pick_raises}
use Rattle.mdl_cpu.proofs.DeliveryLaws.{rank_of, combine_falls}
use Rattle.mdl_cpu.proofs.SwitchLaws.{by_gate_serious, again_by_gate}
use Rattle.mdl_cpu.proofs.KeptLaws.{by_gate_keeps}
use Rattle.mdl_cpu.proofs.ModeLaws.{real_stays}
use Rattle.fault_delivery.specs.Arrivals.{CanDeliver}

outcome_serious : (result : Result Bool Fault) → IfFailed Serious (outcome result) → IfErr result Serious
outcome_serious (Ok x) h = tt
outcome_serious (Err fault) h = h

-- what comes of one delivery
module _ (pick : Pick) (cause : Cause) (old new : Regs) (m n : Mem) where
  module _ (result : Result Bool Fault) (e : left (outcome result) new n ≡ delivered_by_gate (by_pick pick) cause old m) where
    -- its fault is no benign one
    pub once_err : IfErr result Serious
    once_err = outcome_serious result (subst (λ (w : Left Bool × Mem). IfFailed Serious w.0.outcome) (sym e) (by_gate_serious (by_pick pick) (by_pick_raises pick) cause old m))

    pub once_watch : KeepsWatch m n
    once_watch = subst (λ (w : Left Bool × Mem). KeepsWatch m w.1) (sym e) (by_gate_keeps pick cause old m)

    -- in real mode it leaves the mode
    pub once_stays : has_protection old ≡ false → Steady old new
    once_stays h = subst (λ (w : Left Bool × Mem). Steady old w.0.regs) (sym e) (real_stays (by_pick pick) cause old m h)

  -- where it passes, that is all
  pub done : (trap : Bool) → left (Passed trap) new n ≡ delivered_by_gate (by_pick pick) cause old m → (Passed (going_on trap new), n) ≡ deliver_by_gate (by_pick pick) cause old m
  done trap e = ap (λ (w : Left Bool × Mem). behind_delivery w (λ fault q k. followed_by (combine cause fault) q k (deliver_by_gate (by_pick pick)))) e
      ∙ sym (again_by_gate (by_pick pick) (by_pick_raises pick) cause old m)

  module _ (fault : Fault) (e : left (Failed fault) new n ≡ delivered_by_gate (by_pick pick) cause old m) where
    -- where it raises a fault, what follows that is all
    raised : followed_by (combine cause fault) new n (deliver_by_gate (by_pick pick)) ≡ deliver_by_gate (by_pick pick) cause old m
    raised = ap (λ (w : Left Bool × Mem). behind_delivery w (λ f q k. followed_by (combine cause f) q k (deliver_by_gate (by_pick pick)))) e
        ∙ sym (again_by_gate (by_pick pick) (by_pick_raises pick) cause old m)

    -- where nothing follows, the processor shuts down
    pub ended : None ≡ combine cause fault → (Passed (shut_down new), n) ≡ deliver_by_gate (by_pick pick) cause old m
    ended none = ap (λ o. followed_by o new n (deliver_by_gate (by_pick pick))) none ∙ raised

    -- where a fault follows, its delivery is all
    pub went_on : (next : Fault) (c : Cause) (r : Regs) → Some next ≡ combine cause fault → c ≡ fault_cause new next → r ≡ with_address new next
        → deliver_by_gate (by_pick pick) c r n ≡ deliver_by_gate (by_pick pick) cause old m
    went_on next c r some ec er = rw ec (rw er (ap (λ o. followed_by o new n (deliver_by_gate (by_pick pick))) some ∙ raised))

    -- and it has a lower rank
    pub smaller : (next : Fault) (c : Cause) → Some next ≡ combine cause fault → c ≡ fault_cause new next → rank_of (class_of c) < rank_of (class_of cause)
    smaller next c some ec = rw ec
        (subst (λ (o : Option Fault). IfSome o (λ f. rank_of (class_of (fault_cause new f)) < rank_of (class_of cause))) (sym some)
        (combine_falls cause fault (once_err (Err fault) e)))

-- ---- what is kept

-- CR2 alone changes
either_of : (P : Regs → Type 0) (b : Bool) (p q : Regs) → P p → P q → P (if b then p else q)
either_of P true p q h k = h
either_of P false p q h k = k

address_steady : (r : Regs) (fault : Fault) → Steady r (with_address r fault)
address_steady r fault = either_of (Steady r) (fault.vector == 14) _ _ (record { cr0 = refl; cr3 = refl; cpl = refl; virtual = refl; flags = λ h. h })
    (record { cr0 = refl; cr3 = refl; cpl = refl; virtual = refl; flags = λ h. h })

pub both_steady : {o m n : Regs} → Steady o m → Steady m n → Steady o n
both_steady {o} {m} {n} first second = record {
  cr0 = second.cr0 ∙ first.cr0;
  cr3 = second.cr3 ∙ first.cr3;
  cpl = second.cpl ∙ first.cpl;
  virtual = second.virtual ∙ first.virtual;
  flags = λ h. second.flags (first.flags h);
}

-- in real mode a delivery more leaves the mode
pub stays_on : (pick : Pick) (cause : Cause) (o old new : Regs) (m n : Mem) (result : Result Bool Fault) → left (outcome result) new n ≡ delivered_by_gate (by_pick pick) cause old m
    → (has_protection o ≡ false → Steady o old) → has_protection o ≡ false → Steady o new
stays_on pick cause o old new m n result e first real =
    let steady : Steady o old = first real in
    both_steady steady (once_stays pick cause old new m n result e (subst (λ (c : ℕ). bit c 0 ≡ false) (sym steady.cr0) real))

pub addressed : (r q : Regs) (fault : Fault) → q ≡ with_address r fault → Steady r q
addressed r q fault e = rw e (address_steady r fault)

pub address_ready : (r q : Regs) (m : Mem) → Steady r q → CanDeliver r m → CanDeliver q m
address_ready r q m kept ready = record {
  sound = λ h. steady_sound r q kept (ready.sound (subst (λ (c : ℕ). bit c 0 ≡ true) kept.cr0 h));
  tables = λ h. steady_agrees r q m kept (ready.tables (subst (λ (c : ℕ). bit c 0 ≡ true) kept.cr0 h));
}
