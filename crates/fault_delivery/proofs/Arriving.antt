-- A delivery comes to a handler, a task or shutdown, in every mode, where each page is served or faults.
use Rattle.std.proofs.Common.{ℕ, zero, suc, ◌<◌, ◌≤◌, Bool, [], ◌∷◌, arith}
use Rattle.std.specs.Prelude.{List, Option, Some, None, IfSome}
use Rattle.mdl_state.specs.declared.Regs.{Regs}
use Rattle.mdl_state.specs.declared.Fault.{Fault}
use Rattle.mdl_state.specs.State.{Mem}
use Rattle.mdl_state.specs.Serving.{Serve, Outcome, Passed, Failed, NoStep}
use Rattle.mdl_state.specs.Attempt.{tried, finished}
use Rattle.mdl_cpu.specs.declared.Cause.{Cause}
use Rattle.mdl_cpu.specs.declared.Class.{Class}
use Rattle.mdl_cpu.specs.declared.Class.TheVariants.{Benign, Contributory, PageFault, DoubleFault}
use Rattle.mdl_cpu.specs.declared.Outcome as way
use Rattle.mdl_cpu.specs.declared.Outcome.TheVariants as outcome
use Rattle.mdl_cpu.specs.declared.Request.{Request}
use Rattle.mdl_cpu.specs.declared.Switched.{Switched}
use Rattle.mdl_cpu.specs.declared.Switched.TheVariants as switched
use Rattle.mdl_cpu.specs.declared.Task.{Task}
use Rattle.mdl_cpu.specs.Causes.{fault_cause, with_address}
use Rattle.mdl_cpu.specs.DoubleFault.{class_of, class_of_fault, combine}
use Rattle.mdl_cpu.specs.Transfers.{Transfer}
use Rattle.mdl_cpu.specs.Gates.{gate_way_plan, with_ext}
use Rattle.mdl_cpu.specs.OldTask.{old_plan}
use Rattle.mdl_cpu.specs.NewTask.{Stage, begun, by_directory, new_stages}
use Rattle.mdl_cpu.specs.Switch.{Left, passing, staged, told, new_part, behind_old, switch}
use Rattle.mdl_cpu.specs.Delivery.{Arrival, followed_by}
use Rattle.mdl_cpu.specs.TaskDeliveries.{task_request, entered, by_way, behind_gate, delivered_by_gate, settled, deliveries_by_gate, deliver_by_gate}
use Rattle.mdl_cpu.specs.Deliveries.{Serious, IfFailed, IsStep, RaisesPageFaults, ServesAll}
use Rattle.mdl_cpu.proofs.ServingLaws.{tried_steps}
use Rattle.mdl_cpu.proofs.DeliveryLaws.{rank_of, combine_falls}
use Rattle.mdl_cpu.proofs.SwitchLaws.{by_gate_serious}

-- ---- a switch

passing_steps : (w : Outcome Regs × Mem) (r : Regs) (k : Regs → Mem → Left (Unit {0}) × Mem) → IsStep w.0
    → ((s : Regs) (n : Mem) → IsStep (k s n).0.outcome) → IsStep (passing w r k).0.outcome
passing_steps (Passed s, n) r k p h = h s n
passing_steps (Failed fault, n) r k p h = tt
passing_steps (NoStep, n) r k p h = absurd p

told_steps : (q : Request) (t : Task) (o : Outcome (Unit {0})) (r : Regs) (m : Mem) → IsStep o → IsStep (told q t o r m).0.outcome
told_steps q t (Passed _) r m h = tt
told_steps q t (Failed fault) r m h = tt
told_steps q t NoStep r m h = absurd h

old_steps : (r : Regs) (q : Request) (w : Outcome Task × Mem) (k : Task → Mem → Left Switched × Mem) → IsStep w.0
    → ((t : Task) (n : Mem) → IsStep (k t n).0.outcome) → IsStep (behind_old r q (finished w) k).0.outcome
old_steps r q (Passed t, n) k p h = h t _
old_steps r q (Failed fault, n) k p h = tt
old_steps r q (NoStep, n) k p h = absurd p

entered_steps : (o : Outcome Switched) (r : Regs) (m : Mem) → IsStep o → IsStep (entered o r m).0.outcome
entered_steps (Passed (switched.Done trap)) r m h = tt
entered_steps (Passed (switched.OldFault fault)) r m h = tt
entered_steps (Passed (switched.NewFault fault)) r m h = tt
entered_steps (Failed fault) r m h = tt
entered_steps NoStep r m h = absurd h

-- ---- what follows a fault

settled_steps : (o : Outcome Bool) (r : Regs) (m : Mem) (x : Fault → Regs → Mem → Outcome Arrival × Mem) → IsStep o → IfFailed Serious o
    → ((fault : Fault) → Serious fault → IsStep (x fault r m).0) → IsStep (settled o r m x).0
settled_steps (Passed trap) r m x p s h = tt
settled_steps (Failed fault) r m x p s h = h fault s
settled_steps NoStep r m x p s h = absurd p

followed_steps : (n a : ℕ) (o : Option Fault) (r : Regs) (m : Mem) (x : Cause → Regs → Mem → Outcome Arrival × Mem)
    → IfSome o (λ next. rank_of (class_of_fault next.vector) < a) → a ≤ n → ((c : Cause) (q : Regs) (k : Mem) → rank_of (class_of c) < n → IsStep (x c q k).0)
    → IsStep (followed_by o r m x).0
followed_steps n a None r m x h l e = tt
followed_steps n a (Some fault) r m x h l e = e (fault_cause r fault) (with_address r fault) m (omega (arith, h, l))

rank_below : (a : Class) → rank_of a < 4
rank_below Benign = omega arith
rank_below Contributory = omega arith
rank_below PageFault = omega arith
rank_below DoubleFault = omega arith

-- ---- a delivery

module _ (serve : Serve) (raises : RaisesPageFaults serve) (serves : ServesAll serve) where
  staged_steps : (stages : List Stage) (r : Regs) (m : Mem) → IsStep (staged serve stages r m).0.outcome
  staged_steps [] r m = tt
  staged_steps (stage ∷ stages) r m = passing_steps (tried serve 0 (stage r) m) r _ (tried_steps serve serves 0 (stage r) m) (λ s n. staged_steps stages s n)

  new_steps : (r : Regs) (q : Request) (t : Task) (m : Mem) → IsStep (new_part serve r q t m).0.outcome
  unfolding new_part
  new_steps r q t m = told_steps q t (staged serve (new_stages q t) (begun r q t) (by_directory (begun r q t).cr3 m)).0.outcome _ _
      (staged_steps (new_stages q t) (begun r q t) (by_directory (begun r q t).cr3 m))

  switch_steps : (r : Regs) (q : Request) (m : Mem) → IsStep (switch serve r q m).0.outcome
  unfolding switch
  switch_steps r q m = old_steps r q (tried serve 0 (old_plan r q) m) _ (tried_steps serve serves 0 (old_plan r q) m) (λ t n. new_steps r q t n)

  way_steps : (o : way.Outcome) (cause : Cause) (r : Regs) (m : Mem) → IsStep (by_way o serve cause r m).0.outcome
  way_steps outcome.Done cause r m = tt
  way_steps (outcome.Switch sel) cause r m = entered_steps (switch serve r (task_request cause r sel) m).0.outcome _ _ (switch_steps r (task_request cause r sel) m)

  gate_steps : (cause : Cause) (r : Regs) (w : Outcome Transfer × Mem) → IsStep w.0 → IsStep (behind_gate serve cause r (finished (with_ext cause.ext w))).0.outcome
  gate_steps cause r (Passed t, n) h = way_steps t.outcome cause t.regs _
  gate_steps cause r (Failed fault, n) h = tt
  gate_steps cause r (NoStep, n) h = absurd h

  once_steps : (cause : Cause) (r : Regs) (m : Mem) → IsStep (delivered_by_gate serve cause r m).0.outcome
  unfolding delivered_by_gate
  once_steps cause r m = gate_steps cause r (tried serve 0 (gate_way_plan cause r) m) (tried_steps serve serves 0 (gate_way_plan cause r) m)

  chain_steps : (n : ℕ) (cause : Cause) (r : Regs) (m : Mem) → rank_of (class_of cause) < n → IsStep (deliveries_by_gate n serve cause r m).0
  unfolding deliveries_by_gate
  chain_steps zero cause r m h = absurd (omega (arith, h))
  chain_steps (suc n) cause r m h = settled_steps (delivered_by_gate serve cause r m).0.outcome _ _ _ (once_steps cause r m) (by_gate_serious serve raises cause r m) (λ fault s.
      followed_steps n (rank_of (class_of cause)) (combine cause fault) _ _ (deliveries_by_gate n serve) (combine_falls cause fault s) (omega (arith, h)) (λ c q j l. chain_steps n c q j l))

  -- ALWAYS: a delivery arrives, or it shuts down.
  pub always_arrives : (cause : Cause) (r : Regs) (m : Mem) → IsStep (deliver_by_gate serve cause r m).0
  unfolding deliver_by_gate
  always_arrives cause r m = chain_steps 4 cause r m (rank_below (class_of cause))
