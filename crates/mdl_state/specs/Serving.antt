-- How the page of an access is served: by an entry that the cache has, or by a walk. Manual, chapter 5.
-- Own: Which cached entries serve.
use Rattle.std.specs.Prelude.{ℕ, ◌+◌, ◌-◌, ◌/◌, ◌^◌, ◌==◌, ◌&&◌, ◌||◌, not, Bool, false, if◌then◌else◌, List, [], ◌∷◌, Option, Some, None, Result, Ok, Err, min}
use Rattle.std.specs.FinMap.{FinMap, get, insert, retain_keys}
use Rattle.std.specs.Ordering.{nat_cmp}
use Rattle.mdl_state.specs.declared.Access.{Access}
use Rattle.mdl_state.specs.declared.Fault.{Fault}
use Rattle.mdl_state.specs.declared.Entry.{Entry}
use Rattle.mdl_state.specs.State.{Physical, Mem, Item, Old, Walk}
use Rattle.mdl_state.specs.Watches.{unwatched}
use Rattle.mdl_state.specs.PageWalk.{walk, permits, is_write}

-- what comes of a part of an attempt: an answer, a fault, or that the items do not fit
pub data Outcome (A : Type 0) : Type 0 where
  Passed : A → Outcome A
  Failed : Fault → Outcome A
  NoStep : Outcome A

-- what a call answers, as an outcome
abbrev pub outcome : {A : Type 0} → Result A Fault → Outcome A
outcome (Ok x) = Passed x
outcome (Err fault) = Failed fault

-- going on with the answer and the memory that a part leaves
abbrev pub on : {A B : Type 0} → Outcome A × Mem → (A → Mem → Outcome B × Mem) → Outcome B × Mem
on (Passed x, m) k = k x m
on (Failed fault, m) k = (Failed fault, m)
on (NoStep, m) k = (NoStep, m)

-- going on with the answer or with the fault, and the memory that a part leaves
abbrev pub handled : {A B : Type 0} → Outcome A × Mem → (A → Mem → Outcome B × Mem) → (Fault → Mem → Outcome B × Mem) → Outcome B × Mem
handled (Passed x, m) k l = k x m
handled (Failed fault, m) k l = l fault m
handled (NoStep, m) k l = (NoStep, m)

-- a way of serving pages: the entry for an access to a linear address, and the memory it leaves
abbrev pub Serve : Type 0
Serve = Mem → ℕ → Access → Outcome Entry × Mem

-- the number of a linear page
abbrev pub page_of : ℕ → ℕ
page_of lin = lin / 0x1000

abbrev pub is_in : List ℕ → ℕ → Bool
is_in [] page = false
is_in (p ∷ ps) page = p == page || is_in ps page

-- the cache without the entries of these pages
abbrev pub without : List ℕ → FinMap nat_cmp Entry → FinMap nat_cmp Entry
without pages cache = retain_keys cache (λ page. not (is_in pages page))

-- an entry in place of any of its page, and then without the dropped pages
abbrev pub entered : FinMap nat_cmp Entry → ℕ → List ℕ → Entry → FinMap nat_cmp Entry
entered cache page dropped entry = without dropped (insert cache page entry)

-- one walk more, up to the last number
abbrev pub counted : ℕ → ℕ
counted walks = min (walks + 1) (2 ^ 64 - 1)

-- an entry, where it permits the access, and has been written where the access writes
abbrev pub permitted : Access → Option Entry → Option Entry
permitted access None = None
permitted access (Some entry) = if permits entry.user entry.write access && (entry.dirty || not (is_write access)) then Some entry else None

-- the entry of the cache that may serve an access
abbrev pub old_entry : Mem → ℕ → Access → Option Entry
old_entry m lin access = permitted access (get m.cache (page_of lin))

abbrev pub from_cache : Mem → Option Entry → Outcome Entry × Mem
from_cache m (Some entry) = (Passed entry, m)
from_cache m None = (NoStep, m)

abbrev pub if_empty : {A : Type 0} → List ℕ → A → A → A
if_empty [] x y = x
if_empty (_ ∷ _) x y = y

-- a walk that gives an entry puts it into the cache; one that faults drops nothing
abbrev pub after_walk : Mem → ℕ → List ℕ → Result Entry Fault × Physical → Outcome Entry × Mem
after_walk m page dropped (Ok entry, p) = (Passed entry, record m { physical = p; cache = entered m.cache page dropped entry; walks = counted m.walks })
after_walk m page dropped (Err fault, p) = (if_empty dropped (Failed fault) NoStep, record m { physical = p; walks = counted m.walks })

-- a page served by an item; the address is the first of the access on that page
unfoldable pub serve_item : Item → Mem → ℕ → Access → Outcome Entry × Mem
serve_item Old m lin access = from_cache m (old_entry m lin access)
serve_item (Walk dropped) m lin access = after_walk m (page_of lin) dropped (walk m.physical m.cr3 lin access)

-- a rule that names the item, from what is seen beside the breakpoints, the address and the access
abbrev pub Pick : Type 0
Pick = Mem → ℕ → Access → Item

abbrev pub by_pick : Pick → Serve
by_pick pick m lin access = serve_item (pick (unwatched m) lin access) m lin access

-- a test of the items, from the same
abbrev pub Policy : Type 0
Policy = Mem → ℕ → Access → Item → Bool

-- memory with these items left
abbrev pub with_items : Mem → List Item → Mem
with_items m items = record m { served = items }

-- the next item of the list serves; there is no step where none is left, or where it fails the test
abbrev pub by_items : Policy → Mem → List Item → ℕ → Access → Outcome Entry × Mem
by_items policy m [] lin access = (NoStep, m)
by_items policy m (item ∷ items) lin access = if policy (with_items (unwatched m) []) lin access item then serve_item item (with_items m items) lin access else (NoStep, m)

abbrev pub by_list : Policy → Serve
by_list policy m lin access = by_items policy m m.served lin access
