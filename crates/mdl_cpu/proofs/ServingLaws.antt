-- What comes of a plan where pages are served so: no step is missing, and faults are page faults or the plan's own.
use Rattle.std.proofs.Common.{◌≡◌, ℕ, ◌+◌, Bool, true, false, not, refl, ◌∙◌, List, [], ◌∷◌, Result, Ok, Err, Option, Some, None}
use Rattle.std.specs.Prelude.{◌%◌, ◌^◌, ◌==◌, if◌then◌else◌}
use Rattle.mdl_state.specs.declared.Size.{Size}
use Rattle.mdl_state.specs.declared.Who.{Who}
use Rattle.mdl_state.specs.declared.Who.TheVariants.{User, Supervisor, Tables}
use Rattle.mdl_state.specs.declared.Access.{Access}
use Rattle.mdl_state.specs.declared.Access.TheVariants.{Read, Write}
use Rattle.mdl_state.specs.declared.Entry.{Entry}
use Rattle.mdl_state.specs.declared.Fault.{Fault}
use Rattle.mdl_state.specs.declared.Place.{Place}
use Rattle.mdl_state.specs.State.{Physical, Mem, Item, Old, Walk}
use Rattle.mdl_state.specs.Bytes.{bytes_of}
use Rattle.mdl_state.specs.declared.Watch.{Watch}
use Rattle.mdl_state.specs.Watches.{hits_after, noted, unwatched}
use Rattle.mdl_state.specs.PageWalk.{page_fault, walk}
use Rattle.mdl_state.specs.Serving.{Serve, Pick, Policy, Outcome, Passed, Failed, NoStep, on, serve_item, by_pick, by_items, by_list, with_items, from_cache, after_walk}
use Rattle.mdl_state.specs.Accesses.{translated, got, held_at, read_at, written_at, bytes_here}
use Rattle.mdl_state.specs.Attempt.{Plan, Done, Fail, Load, Store, Translate, Get, Hold, Input, tried}
use Rattle.mdl_state.specs.Ends.{Ends}
use Rattle.mdl_cpu.specs.Deliveries.{Serious, IfFailed, IsStep, RaisesPageFaults, ServesAll, KeepsWatch}

-- ---- a way of serving raises page faults alone

page_fault_vector : (lin : ℕ) (b : Bool) (access : Access) → (page_fault lin b access).vector ≡ 14
page_fault_vector lin b (Read User) = refl
page_fault_vector lin b (Read Supervisor) = refl
page_fault_vector lin b (Read Tables) = refl
page_fault_vector lin b (Write User) = refl
page_fault_vector lin b (Write Supervisor) = refl
page_fault_vector lin b (Write Tables) = refl

abbrev IfErr : Result Entry Fault → Type 0
IfErr (Ok entry) = Unit {0}
IfErr (Err fault) = fault.vector ≡ 14

record Walked (w : Result Entry Fault × Physical) : Type 0 where
  pub page : IfErr w.0

either_walked : (b : Bool) (x y : Result Entry Fault × Physical) → Walked x → Walked y → Walked (if b then x else y)
either_walked true x y p q = p
either_walked false x y p q = q

faulted : (m : Physical) (lin : ℕ) (b : Bool) (access : Access) → Walked (Err (page_fault lin b access), m)
faulted m lin b access = record { page = page_fault_vector lin b access }

found : (m : Physical) (entry : Entry) → Walked (Ok entry, m)
found m entry = record { page = tt }

walk_raises : (m : Physical) (cr3 lin : ℕ) (access : Access) → Walked (walk m cr3 lin access)
unfolding walk
walk_raises m cr3 lin access = search (either_walked, faulted, found)

after_raises : (m : Mem) (page : ℕ) (dropped : List ℕ) (w : Result Entry Fault × Physical) → IfErr w.0 → IfFailed (λ fault. fault.vector ≡ 14) (after_walk m page dropped w).0
after_raises m page dropped (Ok entry, p) h = tt
after_raises m page [] (Err fault, p) h = h
after_raises m page (_ ∷ _) (Err fault, p) h = tt

cache_raises : (m : Mem) (o : Option Entry) → IfFailed (λ fault. fault.vector ≡ 14) (from_cache m o).0
cache_raises m (Some entry) = tt
cache_raises m None = tt

item_raises : (i : Item) (m : Mem) (lin : ℕ) (access : Access) → IfFailed (λ fault. fault.vector ≡ 14) (serve_item i m lin access).0
unfolding serve_item
item_raises Old m lin access = cache_raises m _
item_raises (Walk dropped) m lin access = after_raises m _ dropped (walk m.physical m.cr3 lin access) (walk_raises m.physical m.cr3 lin access).page

if_raises : {A : Type 0} (Q : Fault → Type 0) (b : Bool) (x y : Outcome A × Mem) → IfFailed Q x.0 → IfFailed Q y.0 → IfFailed Q (if b then x else y).0
if_raises Q true x y p q = p
if_raises Q false x y p q = q

items_raise : (policy : Policy) (m : Mem) (is : List Item) (lin : ℕ) (access : Access) → IfFailed (λ fault. fault.vector ≡ 14) (by_items policy m is lin access).0
items_raise policy m [] lin access = tt
items_raise policy m (i ∷ is) lin access = if_raises (λ fault. fault.vector ≡ 14) (policy (with_items (unwatched m) []) lin access i) _ _ (item_raises i (with_items m is) lin access) tt

pub by_pick_raises : (pick : Pick) → RaisesPageFaults (by_pick pick)
by_pick_raises pick = record { each = λ m lin access. item_raises (pick (unwatched m) lin access) m lin access }

pub by_list_raises : (policy : Policy) → RaisesPageFaults (by_list policy)
by_list_raises policy = record { each = λ m lin access. items_raise policy m m.served lin access }

-- ---- the faults of a plan

on_raises : {A B : Type 0} (Q : Fault → Type 0) (w : Outcome A × Mem) (k : A → Mem → Outcome B × Mem) → IfFailed Q w.0 → ((x : A) (n : Mem) → IfFailed Q (k x n).0) → IfFailed Q (on w k).0
on_raises Q (Passed x, m) k p h = h x m
on_raises Q (Failed fault, m) k p h = p
on_raises Q (NoStep, m) k p h = tt

serious : {A : Type 0} (w : Outcome A) → IfFailed (λ fault. fault.vector ≡ 14) w → IfFailed Serious w
serious (Passed x) h = tt
serious (Failed fault) h = rw h tt
serious NoStep h = tt

module _ (serve : Serve) (raises : RaisesPageFaults serve) where
  translated_serious : (m : Mem) (lin : ℕ) (size : Size) (access : Access) → IfFailed Serious (translated serve m lin size access).0
  unfolding translated
  translated_serious m lin size access = if_raises Serious (not m.paging) _ _ tt (on_raises Serious (serve m lin access) _ (serious (serve m lin access).0 (raises.each m lin access)) (λ one n.
      if_raises Serious (bytes_here lin size == bytes_of size) _ _ tt (on_raises Serious (serve n ((lin + bytes_here lin size) % 2 ^ 32) access) _
      (serious (serve n ((lin + bytes_here lin size) % 2 ^ 32) access).0 (raises.each n ((lin + bytes_here lin size) % 2 ^ 32) access)) (λ two o. tt))))

  read_serious : (m : Mem) (lin : ℕ) (size : Size) (who : Who) → IfFailed Serious (read_at serve m lin size who).0
  unfolding read_at
  read_serious m lin size who = on_raises Serious (translated serve m lin size (Read who)) _ (translated_serious m lin size (Read who)) (λ place n. tt)

  written_serious : (m : Mem) (lin : ℕ) (size : Size) (value : ℕ) (who : Who) → IfFailed Serious (written_at serve m lin size value who).0
  unfolding written_at
  written_serious m lin size value who = on_raises Serious (translated serve m lin size (Write who)) _ (translated_serious m lin size (Write who)) (λ place n. tt)

  -- a plan whose own checks are serious fails seriously
  pub tried_serious : {A : Type 0} (P : A → Type 0) (given : ℕ) (plan : Plan A) (m : Mem) → Ends P Serious plan → IfFailed Serious (tried serve given plan m).0
  tried_serious P given (Done x) m h = tt
  tried_serious P given (Fail fault) m h = h
  tried_serious P given (Load lin size who k) m h = on_raises Serious (read_at serve m lin size who) _ (read_serious m lin size who) (λ value n. tried_serious P given (k value) n (h value))
  tried_serious P given (Store lin size value who k) m h = on_raises Serious (written_at serve m lin size value who) _ (written_serious m lin size value who) (λ _ n. tried_serious P given k n h)
  tried_serious P given (Translate lin size access k) m h = on_raises Serious (translated serve m lin size access) _ (translated_serious m lin size access) (λ place n. tried_serious P given (k place) n (h place))
  tried_serious P given (Get place size k) m h = tried_serious P given (k (got m place size)) m (h (got m place size))
  tried_serious P given (Hold place size value k) m h = tried_serious P given k (held_at m place size value) h
  tried_serious P given (Input port size k) m h = tried_serious P given (k given) m (h given)

-- ---- a plan comes to something

on_steps : {A B : Type 0} (w : Outcome A × Mem) (k : A → Mem → Outcome B × Mem) → IsStep w.0 → ((x : A) (n : Mem) → IsStep (k x n).0) → IsStep (on w k).0
on_steps (Passed x, m) k p h = h x m
on_steps (Failed fault, m) k p h = tt
on_steps (NoStep, m) k p h = absurd p

if_steps : {A : Type 0} (b : Bool) (x y : Outcome A × Mem) → IsStep x.0 → IsStep y.0 → IsStep (if b then x else y).0
if_steps true x y p q = p
if_steps false x y p q = q

module _ (serve : Serve) (serves : ServesAll serve) where
  translated_steps : (m : Mem) (lin : ℕ) (size : Size) (access : Access) → IsStep (translated serve m lin size access).0
  unfolding translated
  translated_steps m lin size access = if_steps (not m.paging) _ _ tt (on_steps (serve m lin access) _ (serves.each m lin access) (λ one n.
      if_steps (bytes_here lin size == bytes_of size) _ _ tt (on_steps (serve n ((lin + bytes_here lin size) % 2 ^ 32) access) _
      (serves.each n ((lin + bytes_here lin size) % 2 ^ 32) access) (λ two o. tt))))

  read_steps : (m : Mem) (lin : ℕ) (size : Size) (who : Who) → IsStep (read_at serve m lin size who).0
  unfolding read_at
  read_steps m lin size who = on_steps (translated serve m lin size (Read who)) _ (translated_steps m lin size (Read who)) (λ place n. tt)

  written_steps : (m : Mem) (lin : ℕ) (size : Size) (value : ℕ) (who : Who) → IsStep (written_at serve m lin size value who).0
  unfolding written_at
  written_steps m lin size value who = on_steps (translated serve m lin size (Write who)) _ (translated_steps m lin size (Write who)) (λ place n. tt)

  pub tried_steps : {A : Type 0} (given : ℕ) (plan : Plan A) (m : Mem) → IsStep (tried serve given plan m).0
  tried_steps given (Done x) m = tt
  tried_steps given (Fail fault) m = tt
  tried_steps given (Load lin size who k) m = on_steps (read_at serve m lin size who) _ (read_steps m lin size who) (λ value n. tried_steps given (k value) n)
  tried_steps given (Store lin size value who k) m = on_steps (written_at serve m lin size value who) _ (written_steps m lin size value who) (λ _ n. tried_steps given k n)
  tried_steps given (Translate lin size access k) m = on_steps (translated serve m lin size access) _ (translated_steps m lin size access) (λ place n. tried_steps given (k place) n)
  tried_steps given (Get place size k) m = tried_steps given (k (got m place size)) m
  tried_steps given (Hold place size value k) m = tried_steps given k (held_at m place size value)
  tried_steps given (Input port size k) m = tried_steps given (k given) m

-- ---- what stands beside the contents of memory

pub then_kept : {o m n : Mem} → KeepsWatch o m → KeepsWatch m n → KeepsWatch o n
then_kept {o} {m} {n} first second = record {
  served = second.served ∙ first.served;
  watch = second.watch ∙ first.watch;
  hits = λ none. second.hits (first.watch ∙ none) ∙ first.hits none;
}

-- what comes of a part leaves it
record Kept {R : Type 0} (m : Mem) (w : R × Mem) : Type 0 where
  pub keeps : KeepsWatch m w.1

stays_kept : {R : Type 0} (m : Mem) (x : R) → Kept m (x, m)
stays_kept m x = record { keeps = record { served = refl; watch = refl; hits = λ _. refl } }

on_kept : {A B : Type 0} (m : Mem) (w : Outcome A × Mem) (k : A → Mem → Outcome B × Mem) → Kept m w → ((x : A) (n : Mem) → Kept n (k x n)) → Kept m (on w k)
on_kept m (Passed x, n) k p h = record { keeps = then_kept p.keeps (h x n).keeps }
on_kept m (Failed fault, n) k p h = record { keeps = p.keeps }
on_kept m (NoStep, n) k p h = record { keeps = p.keeps }

if_kept : {R : Type 0} (m : Mem) (b : Bool) (x y : R × Mem) → Kept m x → Kept m y → Kept m (if b then x else y)
if_kept m true x y p q = p
if_kept m false x y p q = q

after_kept : (m : Mem) (page : ℕ) (dropped : List ℕ) (w : Result Entry Fault × Physical) → Kept m (after_walk m page dropped w)
after_kept m page dropped (Ok entry, p) = record { keeps = record { served = refl; watch = refl; hits = λ _. refl } }
after_kept m page dropped (Err fault, p) = record { keeps = record { served = refl; watch = refl; hits = λ _. refl } }

cache_kept : (m : Mem) (o : Option Entry) → Kept m (from_cache m o)
cache_kept m (Some entry) = stays_kept m _
cache_kept m None = stays_kept m _

item_kept : (i : Item) (m : Mem) (lin : ℕ) (access : Access) → Kept m (serve_item i m lin access)
unfolding serve_item
item_kept Old m lin access = cache_kept m _
item_kept (Walk dropped) m lin access = after_kept m _ dropped (walk m.physical m.cr3 lin access)

none_met : (ws : List Watch) (lin : ℕ) (size : Size) (access : Access) (hits : ℕ) → ws ≡ [] → hits_after ws lin size access hits ≡ hits
none_met ws lin size access hits none = rw none refl

noted_kept : {R : Type 0} (m : Mem) (lin : ℕ) (size : Size) (access : Access) (x : R) → Kept m (x, noted m lin size access)
noted_kept m lin size access x = record { keeps = record { served = refl; watch = refl; hits = λ none. none_met m.watch lin size access m.hits none } }

held_kept : {R : Type 0} (m : Mem) (place : Place) (size : Size) (value : ℕ) (x : R) → Kept m (x, held_at m place size value)
held_kept m place size value x = record { keeps = record { served = refl; watch = refl; hits = λ _. refl } }

module _ (pick : Pick) where
  translated_kept : (m : Mem) (lin : ℕ) (size : Size) (access : Access) → Kept m (translated (by_pick pick) m lin size access)
  unfolding translated
  translated_kept m lin size access = if_kept m (not m.paging) _ _ (noted_kept m lin size access _)
      (on_kept m (by_pick pick m lin access) _ (item_kept (pick (unwatched m) lin access) m lin access) (λ one n.
      if_kept n (bytes_here lin size == bytes_of size) _ _ (noted_kept n lin size access _)
      (on_kept n (by_pick pick n ((lin + bytes_here lin size) % 2 ^ 32) access) _ (item_kept (pick (unwatched n) ((lin + bytes_here lin size) % 2 ^ 32) access) n _ access) (λ two o.
      noted_kept o lin size access _))))

  read_kept : (m : Mem) (lin : ℕ) (size : Size) (who : Who) → Kept m (read_at (by_pick pick) m lin size who)
  unfolding read_at
  read_kept m lin size who = on_kept m (translated (by_pick pick) m lin size (Read who)) _ (translated_kept m lin size (Read who)) (λ place n. stays_kept n _)

  written_kept : (m : Mem) (lin : ℕ) (size : Size) (value : ℕ) (who : Who) → Kept m (written_at (by_pick pick) m lin size value who)
  unfolding written_at
  written_kept m lin size value who = on_kept m (translated (by_pick pick) m lin size (Write who)) _ (translated_kept m lin size (Write who)) (λ place n. held_kept n place size value _)

  plan_kept : {A : Type 0} (given : ℕ) (plan : Plan A) (m : Mem) → Kept m (tried (by_pick pick) given plan m)
  plan_kept given (Done x) m = stays_kept m _
  plan_kept given (Fail fault) m = stays_kept m _
  plan_kept given (Load lin size who k) m = on_kept m (read_at (by_pick pick) m lin size who) _ (read_kept m lin size who) (λ value n. plan_kept given (k value) n)
  plan_kept given (Store lin size value who k) m = on_kept m (written_at (by_pick pick) m lin size value who) _ (written_kept m lin size value who) (λ _ n. plan_kept given k n)
  plan_kept given (Translate lin size access k) m = on_kept m (translated (by_pick pick) m lin size access) _ (translated_kept m lin size access) (λ place n. plan_kept given (k place) n)
  plan_kept given (Get place size k) m = plan_kept given (k (got m place size)) m
  plan_kept given (Hold place size value k) m = let t = plan_kept given k (held_at m place size value) in
      record { keeps = record { served = t.keeps.served; watch = t.keeps.watch; hits = t.keeps.hits } }
  plan_kept given (Input port size k) m = plan_kept given (k given) m

  -- a plan by a rule leaves it
  pub tried_keeps : {A : Type 0} (given : ℕ) (plan : Plan A) (m : Mem) → KeepsWatch m (tried (by_pick pick) given plan m).1
  tried_keeps given plan m = (plan_kept given plan m).keeps
