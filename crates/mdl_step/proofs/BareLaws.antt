-- A fetch and an instruction whole come to the same over memory without the breakpoints that it looks for.
use Rattle.std.proofs.Common.{◌≡◌, ℕ, Bool, true, false, List, [], ◌∷◌, refl, sym, ap, ◌∙◌, inl, inr}
use Rattle.std.specs.Prelude.{◌+◌, ◌==◌, length, if◌then◌else◌}
use Rattle.std.specs.FinMap.{empty}
use Rattle.mdl_state.specs.declared.Regs.{Regs}
use Rattle.mdl_state.specs.declared.Fault.{Fault}
use Rattle.mdl_state.specs.State.{Mem}
use Rattle.mdl_state.specs.Accesses.{committed, discarded}
use Rattle.mdl_state.specs.Watches.{unwatched}
use Rattle.mdl_state.specs.WatchLaws.{by_pick_blind, tried_unwatched}
use Rattle.mdl_state.specs.Serving.{Pick, Outcome, Passed, Failed, NoStep, by_pick}
use Rattle.mdl_state.specs.Attempt.{Plan, tried, finished}
use Rattle.mdl_insn.specs.declared.instruction.Insn.{Insn}
use Rattle.mdl_insn.specs.declared.instruction.Operand.{Operand}
use Rattle.mdl_insn.specs.declared.instruction.Operand.TheVariants.{Creg}
use Rattle.mdl_insn.specs.declared.mnemonics.Op.{Op}
use Rattle.mdl_insn.specs.declared.mnemonics.Op.TheVariants as ops
use Rattle.mdl_cpu.specs.declared.Request.{Request}
use Rattle.mdl_cpu.specs.declared.Task.{Task}
use Rattle.mdl_cpu.specs.declared.Outcome as way
use Rattle.mdl_cpu.specs.declared.Outcome.TheVariants as outcome
use Rattle.mdl_cpu.specs.declared.Switched.{Switched}
use Rattle.mdl_cpu.specs.declared.Switched.TheVariants as switched
use Rattle.mdl_cpu.specs.OldTask.{old_plan}
use Rattle.mdl_cpu.specs.NewTask.{Stage, begun, by_directory, new_stages}
use Rattle.mdl_cpu.specs.Steady.{has_paging}
use Rattle.mdl_cpu.specs.Switch.{Left, passing, staged, told, behind_new, new_part, behind_old, switch}
use Rattle.mdl_effect.specs.FarEffects.{runs_far, FarTransfer, far_transfer, far_request, in_either_task, switching, by_outcome, behind_transfer, far_run}
use Rattle.mdl_step.specs.Effects.{effect, in_own_task, run_whole}
use Rattle.mdl_step.specs.Fetching.{Code, Instruction, Refused, Fetches, fetch_plan, fetched_from}
use Rattle.mdl_step.specs.Step.{with_control, remapped}

-- what comes of a part, over memory without its breakpoints
abbrev pub bare : {A : Type 0} → A × Mem → A × Mem
bare w = (w.0, unwatched w.1)

finished_bare : {A : Type 0} (w : Outcome A × Mem) → finished (bare w) ≡ bare (finished w)
unfolding committed discarded
finished_bare (Passed x, n) = refl
finished_bare (Failed fault, n) = refl
finished_bare (NoStep, n) = refl

passing_bare : (w : Outcome Regs × Mem) (r : Regs) (k : Regs → Mem → Left (Unit {0}) × Mem) → ((s : Regs) (n : Mem) → k s (unwatched n) ≡ bare (k s n)) → passing (bare w) r k ≡ bare (passing w r k)
passing_bare (Passed s, n) r k h = h s n
passing_bare (Failed fault, n) r k h = refl
passing_bare (NoStep, n) r k h = refl

told_bare : (q : Request) (t : Task) (o : Outcome (Unit {0})) (r : Regs) (m : Mem) → told q t o r (unwatched m) ≡ bare (told q t o r m)
unfolding committed discarded
told_bare q t (Passed _) r m = refl
told_bare q t (Failed fault) r m = refl
told_bare q t NoStep r m = refl

directory_if : (b : Bool) (m : Mem) (cr3 : ℕ) → (if b then unwatched m else record (unwatched m) { cr3 = cr3; cache = empty }) ≡ unwatched (if b then m else record m { cr3 = cr3; cache = empty })
directory_if true m cr3 = refl
directory_if false m cr3 = refl

directory_bare : (m : Mem) (cr3 : ℕ) → by_directory cr3 (unwatched m) ≡ unwatched (by_directory cr3 m)
directory_bare m cr3 = directory_if (m.cr3 == cr3) m cr3

old_bare : (r : Regs) (q : Request) (w : Outcome Task × Mem) (k : Task → Mem → Left Switched × Mem) → ((t : Task) (n : Mem) → k t (unwatched n) ≡ bare (k t n)) → behind_old r q (bare w) k ≡ bare (behind_old r q w k)
old_bare r q (Passed t, n) k h = h t n
old_bare r q (Failed fault, n) k h = refl
old_bare r q (NoStep, n) k h = refl

either_bare : (o : Outcome Switched) (r : Regs) (n : Mem) → in_either_task o r (unwatched n) ≡ bare (in_either_task o r n)
either_bare (Passed (switched.Done trap)) r n = refl
either_bare (Passed (switched.OldFault fault)) r n = refl
either_bare (Passed (switched.NewFault fault)) r n = refl
either_bare (Failed fault) r n = refl
either_bare NoStep r n = refl

module _ (pick : Pick) where
  pub tried_bare : {A : Type 0} (given : ℕ) (plan : Plan A) (m : Mem) → tried (by_pick pick) given plan (unwatched m) ≡ bare (tried (by_pick pick) given plan m)
  tried_bare given plan m = let w = tried (by_pick pick) given plan m in
      sym (tried_unwatched (by_pick pick) (by_pick_blind pick) given plan m w.1 m.watch w.1.watch m.hits w.1.hits w.0 refl)

  attempt_bare : {A : Type 0} (given : ℕ) (plan : Plan A) (m : Mem) → finished (tried (by_pick pick) given plan (unwatched m)) ≡ bare (finished (tried (by_pick pick) given plan m))
  attempt_bare given plan m = ap finished (tried_bare given plan m) ∙ finished_bare (tried (by_pick pick) given plan m)

  -- ---- a task switch

  staged_bare : (stages : List Stage) (r : Regs) (m : Mem) → staged (by_pick pick) stages r (unwatched m) ≡ bare (staged (by_pick pick) stages r m)
  staged_bare [] r m = refl
  staged_bare (stage ∷ stages) r m = ap (λ (w : Outcome Regs × Mem). passing w r (λ s n. staged (by_pick pick) stages s n)) (tried_bare 0 (stage r) m)
      ∙ passing_bare (tried (by_pick pick) 0 (stage r) m) r (λ s n. staged (by_pick pick) stages s n) (λ s n. staged_bare stages s n)

  new_bare : (r : Regs) (q : Request) (t : Task) (m : Mem) → new_part (by_pick pick) r q t (unwatched m) ≡ bare (new_part (by_pick pick) r q t m)
  unfolding new_part
  new_bare r q t m =
      let there = by_directory (begun r q t).cr3 m in
      let w = staged (by_pick pick) (new_stages q t) (begun r q t) there in
      ap (λ (k : Mem). behind_new q t (staged (by_pick pick) (new_stages q t) (begun r q t) k)) (directory_bare m (begun r q t).cr3)
      ∙ ap (λ (v : Left (Unit {0}) × Mem). behind_new q t v) (staged_bare (new_stages q t) (begun r q t) there) ∙ told_bare q t w.0.outcome w.0.regs w.1

  switch_bare : (r : Regs) (q : Request) (m : Mem) → switch (by_pick pick) r q (unwatched m) ≡ bare (switch (by_pick pick) r q m)
  unfolding switch
  switch_bare r q m = ap (λ (w : Outcome Task × Mem). behind_old r q w (λ t n. new_part (by_pick pick) r q t n)) (attempt_bare 0 (old_plan r q) m)
      ∙ old_bare r q (finished (tried (by_pick pick) 0 (old_plan r q) m)) (λ t n. new_part (by_pick pick) r q t n) (λ t n. new_bare r q t n)

  -- ---- an instruction

  outcome_bare : (o : way.Outcome) (op : Op) (f : FarTransfer) (back : ℕ) (m : Mem) → by_outcome o (by_pick pick) op f back (unwatched m) ≡ bare (by_outcome o (by_pick pick) op f back m)
  outcome_bare outcome.Done op f back m = refl
  outcome_bare (outcome.Switch task) op f back m =
      let w = switch (by_pick pick) f.transfer.regs (far_request op task f.direct back) m in
      ap (λ (v : Left Switched × Mem). switching v) (switch_bare f.transfer.regs (far_request op task f.direct back) m) ∙ either_bare w.0.outcome w.0.regs w.1

  transfer_bare : (op : Op) (r : Regs) (back : ℕ) (w : Outcome FarTransfer × Mem) → behind_transfer (by_pick pick) op r back (bare w) ≡ bare (behind_transfer (by_pick pick) op r back w)
  transfer_bare op r back (Passed f, n) = outcome_bare f.transfer.outcome op f back n
  transfer_bare op r back (Failed fault, n) = refl
  transfer_bare op r back (NoStep, n) = refl

  far_bare : (insn : Insn) (r : Regs) (back : ℕ) (m : Mem) → far_run (by_pick pick) insn r back (unwatched m) ≡ bare (far_run (by_pick pick) insn r back m)
  unfolding far_run
  far_bare insn r back m = ap (λ (w : Outcome FarTransfer × Mem). behind_transfer (by_pick pick) insn.op r back w) (attempt_bare 0 (far_transfer insn r back) m)
      ∙ transfer_bare insn.op r back (finished (tried (by_pick pick) 0 (far_transfer insn r back) m))

  pub whole_bare : (insn : Insn) (r : Regs) (back given free : ℕ) (m : Mem) → run_whole (by_pick pick) insn r back given free (unwatched m) ≡ bare (run_whole (by_pick pick) insn r back given free m)
  whole_bare insn r back given free m = by_family (runs_far insn)
    where
      by_family : (far : Bool) → (if far then far_run (by_pick pick) insn r back (unwatched m) else in_own_task r (finished (tried (by_pick pick) given (effect insn r back free) (unwatched m))))
          ≡ bare (if far then far_run (by_pick pick) insn r back m else in_own_task r (finished (tried (by_pick pick) given (effect insn r back free) m)))
      by_family true = far_bare insn r back m
      by_family false = ap (λ w. in_own_task r w) (attempt_bare given (effect insn r back free) m)

  -- ---- a fetch

  tries_bare : {A : Type 0} (plan : Plan A) (m n : Mem) (o : Outcome A) → tried (by_pick pick) 0 plan m ≡ (o, n) → tried (by_pick pick) 0 plan (unwatched m) ≡ (o, unwatched n)
  tries_bare plan m n o e = tried_bare 0 plan m ∙ ap bare e

  pub fetches_bare : (r : Regs) (m n : Mem) (code : Code) → Fetches (by_pick pick) r m code n → Fetches (by_pick pick) r (unwatched m) code (unwatched n)
  fetches_bare r m n (Instruction insn count) t = record { bytes = t.bytes; within = t.within; fetched = tries_bare (fetch_plan r count) m n _ t.fetched; spelt = t.spelt }
  fetches_bare r m n (Refused fault) (inl u) = let t = u.0 in inl (
    record {
      front = t.front;
      last = t.last;
      within = t.within;
      fetched = tries_bare (fetch_plan r (length t.front + 1)) m n _ t.fetched;
      begun = t.begun;
      not_begun = t.not_begun;
      not_spelt = t.not_spelt;
    },
    u.1,
  )
  fetches_bare r m n (Refused fault) (inr (inl u)) = let t = u.0 in inr (inl (record { bytes = t.bytes; fetched = tries_bare (fetch_plan r 15) m n _ t.fetched; begun = t.begun }, u.1))
  fetches_bare r m n (Refused fault) (inr (inr t)) = inr (inr (record {
    bytes = t.bytes;
    before = unwatched t.before;
    within = t.within;
    fetched = tries_bare (fetch_plan r (length t.bytes)) m t.before _ t.fetched;
    begun = t.begun;
    failed = tries_bare (fetched_from r (length t.bytes) 1) t.before n _ t.failed;
  }))

-- ---- what a control register says that was loaded

control_bare : (number : ℕ) (r : Regs) (m : Mem) → unwatched (with_control number r m) ≡ with_control number r (unwatched m)
control_bare number r m = by_number (number == 0) (number == 3)
  where
    by_number : (a b : Bool) → unwatched (if a then record m { paging = has_paging r } else if b then record m { cr3 = r.cr3; cache = empty } else m)
        ≡ (if a then record (unwatched m) { paging = has_paging r } else if b then record (unwatched m) { cr3 = r.cr3; cache = empty } else unwatched m)
    by_number true b = refl
    by_number false true = refl
    by_number false false = refl

pub remapped_bare : (op : Op) (a : Operand) (r : Regs) (m : Mem) → unwatched (remapped op a r m) ≡ remapped op a r (unwatched m)
remapped_bare ops.Mov (Creg number) r m = control_bare number r m
remapped_bare _ _ r m = refl

control_hits : (number : ℕ) (r : Regs) (m : Mem) → (with_control number r m).hits ≡ m.hits
control_hits number r m = by_number (number == 0) (number == 3)
  where
    by_number : (a b : Bool) → (if a then record m { paging = has_paging r } else if b then record m { cr3 = r.cr3; cache = empty } else m).hits ≡ m.hits
    by_number true b = refl
    by_number false true = refl
    by_number false false = refl

-- no bits of DR6 are met by it
pub remapped_hits : (op : Op) (a : Operand) (r : Regs) (m : Mem) → (remapped op a r m).hits ≡ m.hits
remapped_hits ops.Mov (Creg number) r m = control_hits number r m
remapped_hits _ _ r m = refl
