-- What a rule picks is served by a list of items, and the walks among them are counted.
use Rattle.std.specs.Prelude.{◌≡◌, ℕ, ◌+◌, ◌%◌, ◌^◌, ◌==◌, Bool, true, false, not, if◌then◌else◌, refl, List, [], ◌∷◌, ◌++◌, Result, Ok, Err, Option, Some, None}
use Rattle.std.proofs.Common.{ap, sym, ◌∙◌, append_assoc}
use Rattle.mdl_state.specs.declared.Size.{Size}
use Rattle.mdl_state.specs.declared.Access.{Access}
use Rattle.mdl_state.specs.declared.Access.TheVariants as acc
use Rattle.mdl_state.specs.declared.Entry.{Entry}
use Rattle.mdl_state.specs.declared.Place.{Place}
use Rattle.mdl_state.specs.declared.Fault.{Fault}
use Rattle.mdl_state.specs.declared.Who.{Who}
use Rattle.mdl_state.specs.State.{Physical, Mem, Item, Old, Walk}
use Rattle.mdl_state.specs.Bytes.{bytes_of}
use Rattle.mdl_state.specs.Watches.{noted, unwatched}
use Rattle.mdl_state.specs.PageWalk.{walk}
use Rattle.mdl_state.specs.Serving.{Serve, Pick, Policy, Outcome, Passed, Failed, NoStep, on, handled, serve_item, by_pick, by_list, with_items, from_cache, after_walk, counted}
use Rattle.mdl_state.specs.Accesses.{translated, got, held_at, read_at, written_at, bytes_here, committed, discarded}
use Rattle.mdl_state.specs.Attempt.{Plan, Done, Fail, Load, Store, Translate, Get, Hold, Input, tried, finished, attempt}

-- the number of walks that is counted after these items
abbrev pub walks_after : List Item → ℕ → ℕ
walks_after [] walks = walks
walks_after (Old ∷ items) walks = walks_after items walks
walks_after (Walk _ ∷ items) walks = walks_after items (counted walks)

pub walks_after-append : (is js : List Item) (n : ℕ) → walks_after (is ++ js) n ≡ walks_after js (walks_after is n)
walks_after-append [] js n = refl
walks_after-append (Old ∷ is) js n = walks_after-append is js n
walks_after-append (Walk _ ∷ is) js n = walks_after-append is js (counted n)

-- the second is the first with these items left
pub record Moves {R : Type 0} (is : List Item) (w v : R × Mem) : Type 0 where
  pub same : v ≡ (w.0, with_items w.1 is)

after_moves : (is : List Item) (m : Mem) (page : ℕ) (dropped : List ℕ) (w : Result Entry Fault × Physical) → Moves is (after_walk m page dropped w) (after_walk (with_items m is) page dropped w)
after_moves is m page dropped (Ok entry, p) = record { same = refl }
after_moves is m page dropped (Err fault, p) = record { same = refl }

cache_moves : (is : List Item) (m : Mem) (o : Option Entry) → Moves is (from_cache m o) (from_cache (with_items m is) o)
cache_moves is m (Some entry) = record { same = refl }
cache_moves is m None = record { same = refl }

serve_moves : (is : List Item) (i : Item) (m : Mem) (lin : ℕ) (access : Access) → Moves is (serve_item i m lin access) (serve_item i (with_items m is) lin access)
unfolding serve_item
serve_moves is Old m lin access = cache_moves is m _
serve_moves is (Walk dropped) m lin access = after_moves is m _ dropped _

after_walks : (m : Mem) (page : ℕ) (dropped : List ℕ) (w : Result Entry Fault × Physical) → (after_walk m page dropped w).1.walks ≡ counted m.walks
after_walks m page dropped (Ok entry, p) = refl
after_walks m page dropped (Err fault, p) = refl

cache_walks : (m : Mem) (o : Option Entry) → (from_cache m o).1.walks ≡ m.walks
cache_walks m (Some entry) = refl
cache_walks m None = refl

serve_walks : (i : Item) (m : Mem) (lin : ℕ) (access : Access) → (serve_item i m lin access).1.walks ≡ walks_after (i ∷ []) m.walks
unfolding serve_item
serve_walks Old m lin access = cache_walks m _
serve_walks (Walk dropped) m lin access = after_walks m _ dropped (walk m.physical m.cr3 lin access)

-- With these items at the front of the list, what the second does is what came of the first, and the
-- rest of the list is left.
pub record Follows {R : Type 0} (old : Mem) (w : R × Mem) (f : Mem → R × Mem) : Type 0 where
  pub items : List Item
  pub same : (rest : List Item) → f (with_items old (items ++ rest)) ≡ (w.0, with_items w.1 rest)
  pub walks : w.1.walks ≡ walks_after items old.walks

pub stays_follow : {R : Type 0} (m : Mem) (x : R) → Follows m (x, m) (λ n. (x, n))
stays_follow m x = record { items = []; same = λ rest. refl; walks = refl }

pub on_follows : {A B : Type 0} (old : Mem) (r : Outcome A × Mem) (k : A → Mem → Outcome B × Mem) (f : Mem → Outcome A × Mem) (l : A → Mem → Outcome B × Mem) → Follows old r f → ((x : A) (n : Mem) → Follows n (k x n) (l x)) → Follows old (on r k) (λ n. on (f n) l)
on_follows old (Passed x, m) k f l p q = let t = q x m in record {
  items = p.items ++ t.items;
  same = λ rest. ap (λ is. on (f (with_items old is)) l) (append_assoc p.items t.items rest) ∙ ap (λ w. on w l) (p.same (t.items ++ rest)) ∙ t.same rest;
  walks = t.walks ∙ ap (walks_after t.items) p.walks ∙ sym (walks_after-append p.items t.items old.walks);
}
on_follows old (Failed fault, m) k f l p q = record { items = p.items; same = λ rest. ap (λ w. on w l) (p.same rest); walks = p.walks }
on_follows old (NoStep, m) k f l p q = record { items = p.items; same = λ rest. ap (λ w. on w l) (p.same rest); walks = p.walks }

-- the same, with a part of its own behind a fault
pub handled_follows : {A B : Type 0} (old : Mem) (r : Outcome A × Mem) (k : A → Mem → Outcome B × Mem) (h : Fault → Mem → Outcome B × Mem) (f : Mem → Outcome A × Mem) (l : A → Mem → Outcome B × Mem) (g : Fault → Mem → Outcome B × Mem) → Follows old r f → ((x : A) (n : Mem) → Follows n (k x n) (l x)) → ((e : Fault) (n : Mem) → Follows n (h e n) (g e)) → Follows old (handled r k h) (λ n. handled (f n) l g)
handled_follows old (Passed x, m) k h f l g p q s = let t = q x m in record {
  items = p.items ++ t.items;
  same = λ rest. ap (λ is. handled (f (with_items old is)) l g) (append_assoc p.items t.items rest) ∙ ap (λ w. handled w l g) (p.same (t.items ++ rest)) ∙ t.same rest;
  walks = t.walks ∙ ap (walks_after t.items) p.walks ∙ sym (walks_after-append p.items t.items old.walks);
}
handled_follows old (Failed e, m) k h f l g p q s = let t = s e m in record {
  items = p.items ++ t.items;
  same = λ rest. ap (λ is. handled (f (with_items old is)) l g) (append_assoc p.items t.items rest) ∙ ap (λ w. handled w l g) (p.same (t.items ++ rest)) ∙ t.same rest;
  walks = t.walks ∙ ap (walks_after t.items) p.walks ∙ sym (walks_after-append p.items t.items old.walks);
}
handled_follows old (NoStep, m) k h f l g p q s = record { items = p.items; same = λ rest. ap (λ w. handled w l g) (p.same rest); walks = p.walks }

noted_follows : {R : Type 0} (m : Mem) (lin : ℕ) (size : Size) (access : Access) (x : R) → Follows m (x, noted m lin size access) (λ n. (x, noted n lin size access))
noted_follows m lin size access x = record { items = []; same = λ rest. refl; walks = refl }

either_follows : {R : Type 0} (old : Mem) (b : Bool) (x y : R × Mem) (f g : Mem → R × Mem) → Follows old x f → Follows old y g → Follows old (if b then x else y) (λ n. if b then f n else g n)
either_follows old true x y f g p q = p
either_follows old false x y f g p q = q

got_follows : (m : Mem) (place : Place) (size : Size) → Follows {R = Outcome ℕ} m (Passed (got m place size), m) (λ n. (Passed (got n place size), n))
got_follows m place size = record { items = []; same = λ rest. refl; walks = refl }

held_follows : {R : Type 0} (m : Mem) (place : Place) (size : Size) (value : ℕ) (x : R) → Follows m (x, held_at m place size value) (λ n. (x, held_at n place size value))
held_follows m place size value x = record { items = []; same = λ rest. refl; walks = refl }

paging_follows : {R : Type 0} (old : Mem) (x y : R × Mem) (f g : Mem → R × Mem) → Follows old x f → Follows old y g → Follows old (if not old.paging then x else y) (λ n. if not n.paging then f n else g n)
paging_follows old x y f g p q = let r = either_follows old (not old.paging) x y f g p q in record { items = r.items; same = r.same; walks = r.walks }

-- the items that a rule picks meet a policy
abbrev pub Meets : Pick → Policy → Type 0
Meets pick policy = (m : Mem) (lin : ℕ) (access : Access) → policy (with_items m []) lin access (pick m lin access) ≡ true

-- then it serves as a list of items does that meet it
pub page_follows : (pick : Pick) (policy : Policy) → Meets pick policy
    → (m : Mem) (lin : ℕ) (access : Access) → Follows m (by_pick pick m lin access) (λ n. by_list policy n lin access)
page_follows pick policy meets m lin access = record {
  items = pick (unwatched m) lin access ∷ [];
  same = λ rest. rw (meets (unwatched m) lin access) ((serve_moves rest (pick (unwatched m) lin access) m lin access).same);
  walks = serve_walks (pick (unwatched m) lin access) m lin access;
}

module _ (pick : Pick) (listed : Serve) (page : (m : Mem) (lin : ℕ) (access : Access) → Follows m (by_pick pick m lin access) (λ n. listed n lin access)) where
  translated_follows : (m : Mem) (lin : ℕ) (size : Size) (access : Access) → Follows m (translated (by_pick pick) m lin size access) (λ n. translated listed n lin size access)
  unfolding translated
  translated_follows m lin size access = paging_follows m _ _ _ _ (noted_follows m lin size access _)
      (on_follows m (by_pick pick m lin access) _ (λ n. listed n lin access) _ (page m lin access) (λ one n.
      either_follows n (bytes_here lin size == bytes_of size) _ _ _ _ (noted_follows n lin size access _)
      (on_follows n (by_pick pick n ((lin + bytes_here lin size) % 2 ^ 32) access) _ (λ o. listed o ((lin + bytes_here lin size) % 2 ^ 32) access) _ (page n ((lin + bytes_here lin size) % 2 ^ 32) access) (λ two o. noted_follows o lin size access _))))

  read_follows : (m : Mem) (lin : ℕ) (size : Size) (who : Who) → Follows m (read_at (by_pick pick) m lin size who) (λ n. read_at listed n lin size who)
  unfolding read_at
  read_follows m lin size who = on_follows m (translated (by_pick pick) m lin size (acc.Read who)) _ (λ n. translated listed n lin size (acc.Read who)) _ (translated_follows m lin size (acc.Read who)) (λ place n. got_follows n place size)

  written_follows : (m : Mem) (lin : ℕ) (size : Size) (value : ℕ) (who : Who) → Follows m (written_at (by_pick pick) m lin size value who) (λ n. written_at listed n lin size value who)
  unfolding written_at
  written_follows m lin size value who = on_follows m (translated (by_pick pick) m lin size (acc.Write who)) _ (λ n. translated listed n lin size (acc.Write who)) _ (translated_follows m lin size (acc.Write who)) (λ place n. held_follows n place size value (Passed tt))

  -- Choices: what comes of a plan under a rule comes of it by a list of items, and the walks are counted.
  pub tried_follows : {A : Type 0} (given : ℕ) (plan : Plan A) (m : Mem) → Follows m (tried (by_pick pick) given plan m) (λ n. tried listed given plan n)
  tried_follows given (Done x) m = stays_follow m (Passed x)
  tried_follows given (Fail fault) m = stays_follow m (Failed fault)
  tried_follows given (Load lin size who k) m = on_follows m (read_at (by_pick pick) m lin size who) _ (λ n. read_at listed n lin size who) _ (read_follows m lin size who) (λ value n. tried_follows given (k value) n)
  tried_follows given (Store lin size value who k) m = on_follows m (written_at (by_pick pick) m lin size value who) _ (λ n. written_at listed n lin size value who) _ (written_follows m lin size value who) (λ _ n. tried_follows given k n)
  tried_follows given (Translate lin size access k) m = on_follows m (translated (by_pick pick) m lin size access) _ (λ n. translated listed n lin size access) _ (translated_follows m lin size access) (λ place n. tried_follows given (k place) n)
  tried_follows given (Get place size k) m = let t = tried_follows given (k (got m place size)) m in record { items = t.items; same = λ rest. t.same rest; walks = t.walks }
  tried_follows given (Hold place size value k) m = let t = tried_follows given k (held_at m place size value) in record { items = t.items; same = λ rest. t.same rest; walks = t.walks }
  tried_follows given (Input port size k) m = tried_follows given (k given) m

  finished_follows : {A : Type 0} (old : Mem) (r : Outcome A × Mem) (f : Mem → Outcome A × Mem) → Follows old r f → Follows old (finished r) (λ n. finished (f n))
  unfolding committed discarded
  finished_follows old (Passed x, m) f p = record { items = p.items; same = λ rest. ap finished (p.same rest); walks = p.walks }
  finished_follows old (Failed fault, m) f p = record { items = p.items; same = λ rest. ap finished (p.same rest); walks = p.walks }
  finished_follows old (NoStep, m) f p = record { items = p.items; same = λ rest. ap finished (p.same rest); walks = p.walks }

  -- and so of an attempt
  pub attempt_follows : {A : Type 0} (given : ℕ) (plan : Plan A) (m : Mem) → Follows m (attempt (by_pick pick) given plan m) (λ n. attempt listed given plan n)
  attempt_follows given plan m = finished_follows m (tried (by_pick pick) given plan m) (λ n. tried listed given plan n) (tried_follows given plan m)
