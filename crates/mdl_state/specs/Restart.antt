-- An attempt that ends in a fault leaves memory but for the cache and the marks of page entries.
-- Manual, chapter 9, on faults that can be restarted.
use Rattle.std.specs.Prelude.{◌≡◌, ◌≢◌, ℕ, ◌+◌, ◌*◌, ◌/◌, ◌%◌, Bool, true, false, cond, if◌then◌else◌, refl, List, [], ◌∷◌, length, slice_index, slice_set, Result, Ok, Err, Option, Some, None}
use Rattle.std.specs.FinMap.{empty}
use Rattle.std.proofs.Common.{ap, ◌∙◌, arith, map, inl, inr}
use Rattle.std.proofs.Math.Seq.{map-set_same}
use Rattle.std.proofs.lemmas.Bool.Decides.{eqb_tells}
use Rattle.mdl_state.specs.declared.Size.{Size}
use Rattle.mdl_state.specs.declared.Access.{Access}
use Rattle.mdl_state.specs.declared.Entry.{Entry}
use Rattle.mdl_state.specs.declared.Place.{Place}
use Rattle.mdl_state.specs.declared.Fault.{Fault}
use Rattle.mdl_state.specs.declared.Who.{Who}
use Rattle.mdl_state.specs.State.{Physical, Mem, Item, Old, Walk}
use Rattle.mdl_state.specs.Bytes.{bit}
use Rattle.mdl_state.specs.Memory.{byte_at, placed, gated, is_ram}
use Rattle.mdl_state.specs.Watches.{noted, unwatched}
use Rattle.mdl_state.specs.PageWalk.{marked, both_marked, touched, walk, is_write}
use Rattle.mdl_state.specs.Serving.{Outcome, Passed, Failed, NoStep, Serve, Pick, Policy, on, serve_item, by_items, by_list, by_pick, with_items, from_cache, after_walk}
use Rattle.mdl_state.specs.Accesses.{translated, got, held_at, read_at, written_at, discarded}
use Rattle.mdl_state.specs.Attempt.{Plan, Done, Fail, Load, Store, Translate, Get, Hold, Input, tried, finished, attempt}

-- a byte with bits 5 and 6 clear
abbrev pub unmark : ℕ → ℕ
unmark b = b % 32 + 128 * (b / 128)

abbrev pub bare_physical : Physical → Physical
bare_physical p = record p { ram = map unmark p.ram }

-- memory without the cache, what is held, the counts, the bits that walks set, and the breakpoints met
abbrev pub bare : Mem → Mem
bare m = record m { physical = bare_physical m.physical; cache = empty; held = []; walks = 0; served = []; hits = 0 }

five : (b : ℕ) → unmark (cond (bit b 5) b (b + 32)) ≡ unmark b
five b = elim (eqb_tells ((b / 32) % 2) 1) as (λ _. unmark (cond (bit b 5) b (b + 32)) ≡ unmark b) [
  | inl h ↦ rw h.0 refl
  | inr h ↦ rw h.0 (let e : (b / 32) % 2 ≢ 1 = h.1 in omega arith)
]

six : (b : ℕ) → unmark (cond (bit b 6) b (b + 64)) ≡ unmark b
six b = elim (eqb_tells ((b / 64) % 2) 1) as (λ _. unmark (cond (bit b 6) b (b + 64)) ≡ unmark b) [
  | inl h ↦ rw h.0 refl
  | inr h ↦ rw h.0 (let e : (b / 64) % 2 ≢ 1 = h.1 in omega arith)
]

touch : (b : ℕ) (dirty : Bool) → unmark (touched b dirty) ≡ unmark b
touch b true = six (cond (bit b 5) b (b + 32)) ∙ five b
touch b false = five b

placed_mark : (m : Physical) (q v : ℕ) (t : Bool) → (t ≡ true → unmark v ≡ unmark (slice_index m.ram q)) → bare_physical (if t then record m { ram = slice_set m.ram q v } else m) ≡ bare_physical m
placed_mark m q v true h = ap (λ (xs : List ℕ). record (bare_physical m) { ram = xs }) (map-set_same unmark m.ram q v 0 (h refl))
placed_mark m q v false h = refl

in_ram : (m : Physical) (p : ℕ) → is_ram (length m.ram) (gated m.a20 p) ≡ true → byte_at m p ≡ slice_index m.ram (gated m.a20 p)
unfolding byte_at
in_ram m p h = rw h refl

mark_bare : (m : Physical) (p : ℕ) (written : Bool) → bare_physical (marked m p written) ≡ bare_physical m
unfolding marked placed
mark_bare m p written = placed_mark m (gated m.a20 p) (touched (byte_at m p) written) (is_ram (length m.ram) (gated m.a20 p))
    (λ h. touch (byte_at m p) written ∙ ap unmark (in_ram m p h))

-- of physical memory only those bits are changed
pub record Marks {R : Type 0} (old : Physical) (w : R × Physical) : Type 0 where
  pub same : bare_physical w.1 ≡ bare_physical old

-- both ways of a choice lead to the same
either_marks : {R : Type 0} (old : Physical) (b : Bool) (x y : R × Physical) → Marks old x → Marks old y → Marks old (if b then x else y)
either_marks old true x y p q = p
either_marks old false x y p q = q

unmarked : {R : Type 0} (m : Physical) (x : R) → Marks m (x, m)
unmarked m x = record { same = refl }

both_marks : {R : Type 0} (m : Physical) (first second : ℕ) (access : Access) (x : R) → Marks m (x, both_marked m first second access)
unfolding both_marked
both_marks m first second access x = record { same = mark_bare (marked m first false) second (is_write access) ∙ mark_bare m first false }

walk_marks : (m : Physical) (cr3 lin : ℕ) (access : Access) → Marks m (walk m cr3 lin access)
unfolding walk
walk_marks m cr3 lin access = search (either_marks, unmarked, both_marks)

-- what is left is the old memory but for those parts
pub record Leaves {R : Type 0} (old : Mem) (w : R × Mem) : Type 0 where
  pub same : bare w.1 ≡ bare old

-- both ways of a choice lead to the same
either : {R : Type 0} (old : Mem) (b : Bool) (x y : R × Mem) → Leaves old x → Leaves old y → Leaves old (if b then x else y)
either old true x y p q = p
either old false x y p q = q

stays : {R : Type 0} (m : Mem) (x : R) → Leaves m (x, m)
stays m x = record { same = refl }

notes : {R : Type 0} (m : Mem) (lin : ℕ) (size : Size) (access : Access) (x : R) → Leaves m (x, noted m lin size access)
notes m lin size access x = record { same = refl }

after_bare : (m : Mem) (page : ℕ) (dropped : List ℕ) (r : Result Entry Fault × Physical) → Marks m.physical r → Leaves m (after_walk m page dropped r)
after_bare m page dropped (Ok e, n) h = record { same = ap (λ (p : Physical). record (bare m) { physical = p }) h.same }
after_bare m page dropped (Err f, n) h = record { same = ap (λ (p : Physical). record (bare m) { physical = p }) h.same }

from_cache_bare : (m : Mem) (o : Option Entry) → Leaves m (from_cache m o)
from_cache_bare m (Some e) = record { same = refl }
from_cache_bare m None = record { same = refl }

pub serve_item_bare : (i : Item) (m : Mem) (lin : ℕ) (access : Access) → Leaves m (serve_item i m lin access)
unfolding serve_item
serve_item_bare Old m lin access = from_cache_bare m _
serve_item_bare (Walk dropped) m lin access = after_bare m _ dropped (walk m.physical m.cr3 lin access) (walk_marks m.physical m.cr3 lin access)

by_items_bare : (policy : Policy) (m : Mem) (is : List Item) (lin : ℕ) (access : Access) → Leaves m (by_items policy m is lin access)
by_items_bare policy m [] lin access = record { same = refl }
by_items_bare policy m (i ∷ is) lin access = either m (policy (with_items (unwatched m) []) lin access i) _ _ (record { same = (serve_item_bare i (with_items m is) lin access).same }) (record { same = refl })

-- what serves pages changes no more than that
pub record OnlyMarks (serve : Serve) : Type 0 where
  pub each : (m : Mem) (lin : ℕ) (access : Access) → Leaves m (serve m lin access)

pub by_pick_marks : (pick : Pick) → OnlyMarks (by_pick pick)
by_pick_marks pick = record { each = λ m lin access. serve_item_bare (pick (unwatched m) lin access) m lin access }

pub by_list_marks : (policy : Policy) → OnlyMarks (by_list policy)
by_list_marks policy = record { each = λ m lin access. by_items_bare policy m m.served lin access }

-- going on from what is left leaves no more
pub on_bare : {A B : Type 0} (old : Mem) (r : Outcome A × Mem) (k : A → Mem → Outcome B × Mem) → Leaves old r → ((x : A) (n : Mem) → Leaves n (k x n)) → Leaves old (on r k)
on_bare old (Passed x, m) k p q = record { same = (q x m).same ∙ p.same }
on_bare old (Failed f, m) k p q = record { same = p.same }
on_bare old (NoStep, m) k p q = record { same = p.same }

holds_leaves : {R : Type 0} (m : Mem) (place : Place) (size : Size) (v : ℕ) (x : R) → Leaves m (x, held_at m place size v)
holds_leaves m place size v x = record { same = refl }

module _ (serve : Serve) (marks : OnlyMarks serve) where
  translated_bare : (m : Mem) (lin : ℕ) (size : Size) (access : Access) → Leaves m (translated serve m lin size access)
  unfolding translated
  translated_bare m lin size access = search (either, notes, on_bare, marks.each)

  read_bare : (m : Mem) (lin : ℕ) (size : Size) (who : Who) → Leaves m (read_at serve m lin size who)
  unfolding read_at
  read_bare m lin size who = search (on_bare, stays, translated_bare)

  written_bare : (m : Mem) (lin : ℕ) (size : Size) (v : ℕ) (who : Who) → Leaves m (written_at serve m lin size v who)
  unfolding written_at
  written_bare m lin size v who = search (on_bare, holds_leaves, translated_bare)

  -- trying a plan changes no more than that, whatever comes of it
  pub tried_bare : {A : Type 0} (given : ℕ) (plan : Plan A) (m : Mem) → Leaves m (tried serve given plan m)
  tried_bare given (Done x) m = record { same = refl }
  tried_bare given (Fail e) m = record { same = refl }
  tried_bare given (Load lin size who k) m = on_bare m (read_at serve m lin size who) _ (read_bare m lin size who) (λ value n. tried_bare given (k value) n)
  tried_bare given (Store lin size v who k) m = on_bare m (written_at serve m lin size v who) _ (written_bare m lin size v who) (λ _ n. tried_bare given k n)
  tried_bare given (Translate lin size access k) m = on_bare m (translated serve m lin size access) _ (translated_bare m lin size access) (λ p n. tried_bare given (k p) n)
  tried_bare given (Get p size k) m = tried_bare given (k (got m p size)) m
  tried_bare given (Hold p size v k) m = record { same = (tried_bare given k (held_at m p size v)).same }
  tried_bare given (Input port size k) m = tried_bare given (k given) m

-- an outcome is a fault
abbrev pub IsFailed : {A : Type 0} → Outcome A → Type 0
IsFailed (Passed x) = ⊥
IsFailed (Failed f) = Unit {0}
IsFailed NoStep = ⊥

pub finished_bare : {A : Type 0} (r : Outcome A × Mem) (old : Mem) → Leaves old r → IsFailed (finished r).0 → (bare (finished r).1 ≡ bare old) × ((finished r).1.held ≡ [])
unfolding discarded
finished_bare (Passed x, m) old h f = absurd f
finished_bare (Failed e, m) old h f = (h.same, refl)
finished_bare (NoStep, m) old h f = absurd f

-- Restart: an attempt that ends in a fault leaves memory as it was but for the cache, the marks of
-- walks and the breakpoints met, and holds nothing.
pub restart : {A : Type 0} (serve : Serve) → OnlyMarks serve → (given : ℕ) (plan : Plan A) (m : Mem) → IsFailed (attempt serve given plan m).0 → (bare (attempt serve given plan m).1 ≡ bare m) × ((attempt serve given plan m).1.held ≡ [])
restart serve marks given plan m f = finished_bare (tried serve given plan m) m (tried_bare serve marks given plan m) f
