-- What each memory chooses meets its policy.
use Rattle.std.specs.Prelude.{◌≡◌, ℕ, ◌==◌, ◌||◌, Bool, true, false, refl, List, [], ◌∷◌, ◌++◌, Option, Some, None, Result, Ok, Err}
use Rattle.std.specs.List.{list_all}
use Rattle.std.specs.FinMap.{FinMap}
use Rattle.std.specs.Ordering.{nat_cmp}
use Rattle.std.proofs.Common.{ap, subst}
use Rattle.std.proofs.lemmas.Bool.{eq-eqb}
use Rattle.mdl_state.specs.declared.Access.{Access}
use Rattle.mdl_state.specs.declared.Entry.{Entry}
use Rattle.mdl_state.specs.declared.Fault.{Fault}
use Rattle.mdl_state.specs.State.{Physical, Mem, Old}
use Rattle.mdl_state.specs.PageWalk.{walk}
use Rattle.mdl_state.specs.Serving.{page_of, is_in, old_entry, with_items}
use Rattle.mdl_state.specs.Policy.{rivals, drops_rivals, item_after, old_or, cached_item, meets_places, plain_after, plain_item, meets_plain}

later : (a b : Bool) → b ≡ true → (a || b) ≡ true
later true b h = refl
later false b h = h

-- every member of the rest is in the whole
all_in : (front xs : List ℕ) → list_all (is_in (front ++ xs)) xs ≡ true
all_in front [] = refl
all_in front (x ∷ xs) = rw (among front x xs) (subst (λ (ys : List ℕ). list_all (is_in ys) xs ≡ true) (regrouped front x xs) (all_in (front ++ x ∷ []) xs))
  where
    among : (front : List ℕ) (x : ℕ) (xs : List ℕ) → is_in (front ++ x ∷ xs) x ≡ true
    among [] x xs = rw (eq-eqb x x refl) refl
    among (y ∷ front) x xs = later (y == x) _ (among front x xs)

    regrouped : (front : List ℕ) (x : ℕ) (xs : List ℕ) → (front ++ x ∷ []) ++ xs ≡ front ++ x ∷ xs
    regrouped [] x xs = refl
    regrouped (y ∷ front) x xs = ap (λ (ys : List ℕ). y ∷ ys) (regrouped front x xs)

itself : (cache : FinMap nat_cmp Entry) (page : ℕ) → drops_rivals cache page (rivals cache page) ≡ true
itself cache page = rw (all_in [] (rivals cache page)) refl

chosen_well : (m : Mem) (lin : ℕ) (access : Access) (o : Option Entry) (w : Result Entry Fault × Physical) → old_entry m lin access ≡ o → walk m.physical m.cr3 lin access ≡ w → meets_places (with_items m []) lin access (old_or o (item_after m.cache (page_of lin) w)) ≡ true
chosen_well m lin access (Some e) w h g = refl
chosen_well m lin access None (Ok e, p) h g = rw h (rw g (itself m.cache (page_of lin)))
chosen_well m lin access None (Err f, p) h g = rw h (rw g refl)

-- the item that 64 places choose meets their policy
pub cached_item_meets : (m : Mem) (lin : ℕ) (access : Access) → meets_places (with_items m []) lin access (cached_item m lin access) ≡ true
cached_item_meets m lin access = chosen_well m lin access _ _ refl refl

-- and is an entry that stands wherever one may serve
pub cached_item_old : (m : Mem) (lin : ℕ) (access : Access) (e : Entry) → old_entry m lin access ≡ Some e → cached_item m lin access ≡ Old
cached_item_old m lin access e h = rw h refl

plain_well : (m : Mem) (lin : ℕ) (access : Access) (w : Result Entry Fault × Physical) → walk m.physical m.cr3 lin access ≡ w → meets_plain (with_items m []) lin access (plain_after (page_of lin) w) ≡ true
plain_well m lin access (Ok e, p) g = rw g (rw (eq-eqb (page_of lin) (page_of lin) refl) refl)
plain_well m lin access (Err f, p) g = rw g refl

-- the item of a memory that keeps no entry meets its policy
pub plain_item_meets : (m : Mem) (lin : ℕ) (access : Access) → meets_plain (with_items m []) lin access (plain_item m lin access) ≡ true
plain_item_meets m lin access = plain_well m lin access _ refl
