-- A task switch and a delivery by a rule leave what stands beside the contents of memory, in every mode.
use Rattle.std.proofs.Common.{ℕ, Bool, true, false, refl, [], ◌∷◌}
use Rattle.std.specs.Prelude.{◌==◌, if◌then◌else◌, List}
use Rattle.std.specs.FinMap.{empty}
use Rattle.mdl_state.specs.declared.Regs.{Regs}
use Rattle.mdl_state.specs.State.{Mem}
use Rattle.mdl_state.specs.Serving.{Pick, Outcome, Passed, Failed, NoStep, by_pick}
use Rattle.mdl_state.specs.Accesses.{committed, discarded}
use Rattle.mdl_state.specs.Attempt.{tried, finished}
use Rattle.mdl_cpu.specs.declared.Cause.{Cause}
use Rattle.mdl_cpu.specs.declared.Request.{Request}
use Rattle.mdl_cpu.specs.declared.Task.{Task}
use Rattle.mdl_cpu.specs.declared.Outcome as way
use Rattle.mdl_cpu.specs.declared.Outcome.TheVariants as outcome
use Rattle.mdl_cpu.specs.declared.Switched.{Switched}
use Rattle.mdl_cpu.specs.declared.Switched.TheVariants as switched
use Rattle.mdl_cpu.specs.Transfers.{Transfer}
use Rattle.mdl_cpu.specs.Gates.{gate_way_plan, with_ext}
use Rattle.mdl_cpu.specs.OldTask.{old_plan}
use Rattle.mdl_cpu.specs.NewTask.{Stage, begun, by_directory, new_stages}
use Rattle.mdl_cpu.specs.Switch.{Left, passing, staged, told, new_part, behind_old, switch}
use Rattle.mdl_cpu.specs.TaskDeliveries.{task_request, entered, by_way, behind_gate, delivered_by_gate}
use Rattle.mdl_cpu.specs.Deliveries.{KeepsWatch}
use Rattle.mdl_cpu.proofs.ServingLaws.{tried_keeps, then_kept}

kept : (m : Mem) → KeepsWatch m m
kept m = record { served = refl; watch = refl; hits = λ _. refl }

finished_keeps : {A : Type 0} (m : Mem) (w : Outcome A × Mem) → KeepsWatch m w.1 → KeepsWatch m (finished w).1
unfolding committed discarded
finished_keeps m (Passed x, n) h = record { served = h.served; watch = h.watch; hits = h.hits }
finished_keeps m (Failed fault, n) h = record { served = h.served; watch = h.watch; hits = h.hits }
finished_keeps m (NoStep, n) h = h

ext_keeps : {A : Type 0} (ext : Bool) (m : Mem) (w : Outcome A × Mem) → KeepsWatch m w.1 → KeepsWatch m (with_ext ext w).1
ext_keeps ext m (Passed x, n) h = h
ext_keeps ext m (Failed fault, n) h = h
ext_keeps ext m (NoStep, n) h = h

-- ---- a task switch

passing_keeps : (m : Mem) (w : Outcome Regs × Mem) (r : Regs) (k : Regs → Mem → Left (Unit {0}) × Mem) → KeepsWatch m w.1
    → ((s : Regs) (n : Mem) → KeepsWatch n (k s n).1) → KeepsWatch m (passing w r k).1
passing_keeps m (Passed s, n) r k p h = then_kept p (h s n)
passing_keeps m (Failed fault, n) r k p h = p
passing_keeps m (NoStep, n) r k p h = p

told_keeps : (q : Request) (t : Task) (o : Outcome (Unit {0})) (r : Regs) (m : Mem) → KeepsWatch m (told q t o r m).1
unfolding committed discarded
told_keeps q t (Passed _) r m = record { served = refl; watch = refl; hits = λ _. refl }
told_keeps q t (Failed fault) r m = record { served = refl; watch = refl; hits = λ _. refl }
told_keeps q t NoStep r m = kept m

directory_if : (b : Bool) (m : Mem) (cr3 : ℕ) → KeepsWatch m (if b then m else record m { cr3 = cr3; cache = empty })
directory_if true m cr3 = kept m
directory_if false m cr3 = record { served = refl; watch = refl; hits = λ _. refl }

directory_keeps : (m : Mem) (cr3 : ℕ) → KeepsWatch m (by_directory cr3 m)
directory_keeps m cr3 = directory_if (m.cr3 == cr3) m cr3

old_keeps : (m : Mem) (r : Regs) (q : Request) (w : Outcome Task × Mem) (k : Task → Mem → Left Switched × Mem) → KeepsWatch m w.1
    → ((t : Task) (n : Mem) → KeepsWatch n (k t n).1) → KeepsWatch m (behind_old r q w k).1
old_keeps m r q (Passed t, n) k p h = then_kept p (h t n)
old_keeps m r q (Failed fault, n) k p h = p
old_keeps m r q (NoStep, n) k p h = p

entered_keeps : (o : Outcome Switched) (r : Regs) (m n : Mem) → KeepsWatch m n → KeepsWatch m (entered o r n).1
entered_keeps (Passed (switched.Done trap)) r m n h = h
entered_keeps (Passed (switched.OldFault fault)) r m n h = h
entered_keeps (Passed (switched.NewFault fault)) r m n h = h
entered_keeps (Failed fault) r m n h = h
entered_keeps NoStep r m n h = h

module _ (pick : Pick) where
  staged_keep : (stages : List Stage) (r : Regs) (m : Mem) → KeepsWatch m (staged (by_pick pick) stages r m).1
  staged_keep [] r m = kept m
  staged_keep (stage ∷ stages) r m = passing_keeps m (tried (by_pick pick) 0 (stage r) m) r (λ s n. staged (by_pick pick) stages s n)
      (tried_keeps pick 0 (stage r) m) (λ s n. staged_keep stages s n)

  new_keeps : (r : Regs) (q : Request) (t : Task) (m : Mem) → KeepsWatch m (new_part (by_pick pick) r q t m).1
  unfolding new_part
  new_keeps r q t m =
      let there = by_directory (begun r q t).cr3 m in
      let w = staged (by_pick pick) (new_stages q t) (begun r q t) there in
      then_kept (then_kept (directory_keeps m (begun r q t).cr3) (staged_keep (new_stages q t) (begun r q t) there)) (told_keeps q t w.0.outcome w.0.regs w.1)

  pub switch_keeps : (r : Regs) (q : Request) (m : Mem) → KeepsWatch m (switch (by_pick pick) r q m).1
  unfolding switch
  switch_keeps r q m = old_keeps m r q (finished (tried (by_pick pick) 0 (old_plan r q) m)) (λ t n. new_part (by_pick pick) r q t n)
      (finished_keeps m (tried (by_pick pick) 0 (old_plan r q) m) (tried_keeps pick 0 (old_plan r q) m)) (λ t n. new_keeps r q t n)

  -- ---- a delivery

  way_keeps : (o : way.Outcome) (cause : Cause) (r : Regs) (m : Mem) → KeepsWatch m (by_way o (by_pick pick) cause r m).1
  way_keeps outcome.Done cause r m = kept m
  way_keeps (outcome.Switch sel) cause r m = let w = switch (by_pick pick) r (task_request cause r sel) m in
      entered_keeps w.0.outcome w.0.regs m w.1 (switch_keeps r (task_request cause r sel) m)

  gate_keeps : (m : Mem) (cause : Cause) (r : Regs) (w : Outcome Transfer × Mem) → KeepsWatch m w.1 → KeepsWatch m (behind_gate (by_pick pick) cause r w).1
  gate_keeps m cause r (Passed t, n) h = then_kept h (way_keeps t.outcome cause t.regs n)
  gate_keeps m cause r (Failed fault, n) h = h
  gate_keeps m cause r (NoStep, n) h = h

  -- so does one delivery
  pub by_gate_keeps : (cause : Cause) (r : Regs) (m : Mem) → KeepsWatch m (delivered_by_gate (by_pick pick) cause r m).1
  unfolding delivered_by_gate
  by_gate_keeps cause r m =
      let w = tried (by_pick pick) 0 (gate_way_plan cause r) m in
      gate_keeps m cause r (finished (with_ext cause.ext w)) (finished_keeps m (with_ext cause.ext w) (ext_keeps cause.ext m w (tried_keeps pick 0 (gate_way_plan cause r) m)))
