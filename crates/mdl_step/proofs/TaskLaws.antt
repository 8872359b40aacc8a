-- What a rule serves in a task switch is served by a list of items.
use Rattle.std.proofs.Common.{◌≡◌, ℕ, Bool, true, false, refl, ap, sym, ◌∙◌, [], ◌∷◌, append_assoc}
use Rattle.std.specs.Prelude.{List, ◌++◌, ◌==◌, if◌then◌else◌}
use Rattle.std.specs.FinMap.{empty}
use Rattle.mdl_state.specs.declared.Regs.{Regs}
use Rattle.mdl_state.specs.State.{Mem, Item}
use Rattle.mdl_state.specs.Serving.{Pick, Policy, Outcome, Passed, Failed, NoStep, by_pick, by_list, with_items}
use Rattle.mdl_state.specs.Accesses.{committed, discarded}
use Rattle.mdl_state.specs.Attempt.{Plan, tried, attempt}
use Rattle.mdl_state.specs.Choices.{Meets, Follows, walks_after, walks_after-append, page_follows, tried_follows, attempt_follows, stays_follow}
use Rattle.mdl_cpu.specs.declared.Request.{Request}
use Rattle.mdl_cpu.specs.declared.Task.{Task}
use Rattle.mdl_cpu.specs.declared.Switched.{Switched}
use Rattle.mdl_cpu.specs.OldTask.{old_plan}
use Rattle.mdl_cpu.specs.NewTask.{Stage, begun, by_directory, new_stages}
use Rattle.mdl_cpu.specs.Switch.{Left, passing, staged, told, new_part, behind_old, switch}

-- a part behind a part, whatever the first one comes to
pub then_follows : {A B : Type 0} (old : Mem) (w : A × Mem) (f : Mem → A × Mem) (k l : A → Mem → B × Mem) → Follows old w f → ((x : A) (n : Mem) → Follows n (k x n) (l x))
    → Follows old (k w.0 w.1) (λ n. l (f n).0 (f n).1)
then_follows old (x, m) f k l p q = let t = q x m in record {
  items = p.items ++ t.items;
  same = λ rest. ap (λ is. l (f (with_items old is)).0 (f (with_items old is)).1) (append_assoc p.items t.items rest) ∙ ap (λ w. l w.0 w.1) (p.same (t.items ++ rest)) ∙ t.same rest;
  walks = t.walks ∙ ap (walks_after t.items) p.walks ∙ sym (walks_after-append p.items t.items old.walks);
}

directory_if : (b : Bool) (m : Mem) (cr3 : ℕ) (rest : List Item)
    → (if b then with_items m rest else record (with_items m rest) { cr3 = cr3; cache = empty }) ≡ with_items (if b then m else record m { cr3 = cr3; cache = empty }) rest
directory_if true m cr3 rest = refl
directory_if false m cr3 rest = refl

directory_walks : (b : Bool) (m : Mem) (cr3 : ℕ) → (if b then m else record m { cr3 = cr3; cache = empty }).walks ≡ m.walks
directory_walks true m cr3 = refl
directory_walks false m cr3 = refl

directory_follows : (m : Mem) (cr3 : ℕ) → Follows {R = Unit {0}} m (tt, by_directory cr3 m) (λ n. (tt, by_directory cr3 n))
directory_follows m cr3 = record { items = []; same = λ rest. ap (λ k. (tt, k)) (directory_if (m.cr3 == cr3) m cr3 rest); walks = directory_walks (m.cr3 == cr3) m cr3 }

module _ (pick : Pick) (policy : Policy) (meets : Meets pick policy) where
  plan_follows : {A : Type 0} (plan : Plan A) (m : Mem) → Follows m (tried (by_pick pick) 0 plan m) (λ n. tried (by_list policy) 0 plan n)
  plan_follows plan m = tried_follows pick (by_list policy) (page_follows pick policy meets) 0 plan m

  passing_follows : (r : Regs) (k l : Regs → Mem → Left (Unit {0}) × Mem) → ((s : Regs) (n : Mem) → Follows n (k s n) (l s)) → (o : Outcome Regs) (n : Mem)
      → Follows n (passing (o, n) r k) (λ v. passing (o, v) r l)
  passing_follows r k l h (Passed s) n = h s n
  passing_follows r k l h (Failed fault) n = stays_follow n _
  passing_follows r k l h NoStep n = stays_follow n _

  staged_follows : (stages : List Stage) (r : Regs) (m : Mem) → Follows m (staged (by_pick pick) stages r m) (λ n. staged (by_list policy) stages r n)
  staged_follows [] r m = stays_follow m _
  staged_follows (stage ∷ stages) r m = then_follows m (tried (by_pick pick) 0 (stage r) m) (λ n. tried (by_list policy) 0 (stage r) n)
      (λ o n. passing (o, n) r (λ s v. staged (by_pick pick) stages s v)) (λ o n. passing (o, n) r (λ s v. staged (by_list policy) stages s v))
      (plan_follows (stage r) m) (passing_follows r _ _ (λ s n. staged_follows stages s n))

  told_follows : (q : Request) (t : Task) (o : Outcome (Unit {0})) (r : Regs) (m : Mem) → Follows m (told q t o r m) (λ n. told q t o r n)
  unfolding committed discarded
  told_follows q t (Passed _) r m = record { items = []; same = λ rest. refl; walks = refl }
  told_follows q t (Failed fault) r m = record { items = []; same = λ rest. refl; walks = refl }
  told_follows q t NoStep r m = stays_follow m _

  new_follows : (r : Regs) (q : Request) (t : Task) (m : Mem) → Follows m (new_part (by_pick pick) r q t m) (λ n. new_part (by_list policy) r q t n)
  unfolding new_part
  new_follows r q t m = then_follows m (staged (by_pick pick) (new_stages q t) (begun r q t) (by_directory (begun r q t).cr3 m))
      (λ n. staged (by_list policy) (new_stages q t) (begun r q t) (by_directory (begun r q t).cr3 n))
      (λ x n. told q t x.outcome x.regs n) (λ x n. told q t x.outcome x.regs n)
      (then_follows m (tt, by_directory (begun r q t).cr3 m) (λ n. (tt, by_directory (begun r q t).cr3 n))
      (λ _ n. staged (by_pick pick) (new_stages q t) (begun r q t) n) (λ _ n. staged (by_list policy) (new_stages q t) (begun r q t) n)
      (directory_follows m (begun r q t).cr3) (λ _ n. staged_follows (new_stages q t) (begun r q t) n))
      (λ x n. told_follows q t x.outcome x.regs n)

  old_follows : (r : Regs) (q : Request) (k l : Task → Mem → Left Switched × Mem) → ((t : Task) (n : Mem) → Follows n (k t n) (l t)) → (o : Outcome Task) (n : Mem)
      → Follows n (behind_old r q (o, n) k) (λ v. behind_old r q (o, v) l)
  old_follows r q k l h (Passed t) n = h t n
  old_follows r q k l h (Failed fault) n = stays_follow n _
  old_follows r q k l h NoStep n = stays_follow n _

  pub switch_follows : (r : Regs) (q : Request) (m : Mem) → Follows m (switch (by_pick pick) r q m) (λ n. switch (by_list policy) r q n)
  unfolding switch
  switch_follows r q m = then_follows m (attempt (by_pick pick) 0 (old_plan r q) m) (λ n. attempt (by_list policy) 0 (old_plan r q) n)
      (λ o n. behind_old r q (o, n) (λ t v. new_part (by_pick pick) r q t v)) (λ o n. behind_old r q (o, n) (λ t v. new_part (by_list policy) r q t v))
      (attempt_follows pick (by_list policy) (page_follows pick policy meets) 0 (old_plan r q) m) (old_follows r q _ _ (λ t n. new_follows r q t n))
