-- Which items a memory with 64 places chooses, and a memory that keeps no entry.
-- Own: Which cached entries serve.
use Rattle.std.specs.Prelude.{ℕ, ◌%◌, ◌==◌, ◌&&◌, not, Bool, true, false, List, [], ◌∷◌, Option, Some, None, Result, Ok, Err}
use Rattle.std.specs.List.{filter, list_all}
use Rattle.std.specs.FinMap.{FinMap, keys}
use Rattle.std.specs.Ordering.{nat_cmp}
use Rattle.mdl_state.specs.declared.Entry.{Entry}
use Rattle.mdl_state.specs.declared.Fault.{Fault}
use Rattle.mdl_state.specs.State.{Physical, Mem, Item, Old, Walk}
use Rattle.mdl_state.specs.PageWalk.{walk}
use Rattle.mdl_state.specs.Serving.{Pick, Policy, page_of, is_in, old_entry}

-- another page with the same low six bits of its number
abbrev pub is_rival : ℕ → ℕ → Bool
is_rival page other = other % 64 == page % 64 && not (other == page)

-- the cached pages that are such
abbrev pub rivals : FinMap nat_cmp Entry → ℕ → List ℕ
rivals cache page = filter (is_rival page) (keys cache)

-- exactly those are dropped
abbrev pub drops_rivals : FinMap nat_cmp Entry → ℕ → List ℕ → Bool
drops_rivals cache page dropped = list_all (is_in (rivals cache page)) dropped && list_all (is_in dropped) (rivals cache page)

abbrev pub drops_well : Mem → ℕ → List ℕ → Result Entry Fault × Physical → Bool
drops_well m page dropped (Ok entry, p) = drops_rivals m.cache page dropped
drops_well m page dropped (Err fault, p) = true

abbrev pub is_missing : Option Entry → Bool
is_missing (Some entry) = false
is_missing None = true

-- The policy of 64 places: an entry that stands serves wherever it may, and a walk that gives an entry
-- drops exactly the cached other pages with the same low six bits.
abbrev pub meets_places : Policy
meets_places m lin access Old = true
meets_places m lin access (Walk dropped) = is_missing (old_entry m lin access) && drops_well m (page_of lin) dropped (walk m.physical m.cr3 lin access)

-- no policy: every item meets it
abbrev pub meets_any : Policy
meets_any m lin access i = true

-- the item that 64 places choose
abbrev pub item_after : FinMap nat_cmp Entry → ℕ → Result Entry Fault × Physical → Item
item_after cache page (Ok entry, p) = Walk (rivals cache page)
item_after cache page (Err fault, p) = Walk []

abbrev pub old_or : Option Entry → Item → Item
old_or (Some entry) item = Old
old_or None item = item

abbrev pub cached_item : Pick
cached_item m lin access = old_or (old_entry m lin access) (item_after m.cache (page_of lin) (walk m.physical m.cr3 lin access))

-- the item of a memory that keeps no entry: a walk, whose entry is dropped at once
abbrev pub plain_after : ℕ → Result Entry Fault × Physical → Item
plain_after page (Ok entry, p) = Walk (page ∷ [])
plain_after page (Err fault, p) = Walk []

abbrev pub plain_item : Pick
plain_item m lin access = plain_after (page_of lin) (walk m.physical m.cr3 lin access)

-- its policy: an item is a walk, which drops its own page where it gives an entry
abbrev pub drops_own : ℕ → List ℕ → Result Entry Fault × Physical → Bool
drops_own page dropped (Ok entry, p) = is_in dropped page
drops_own page dropped (Err fault, p) = true

abbrev pub meets_plain : Policy
meets_plain m lin access Old = false
meets_plain m lin access (Walk dropped) = drops_own (page_of lin) dropped (walk m.physical m.cr3 lin access)
