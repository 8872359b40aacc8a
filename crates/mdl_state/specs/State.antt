-- The state of the machine. Manual, chapters 2, 4, 5 and 10.
use Rattle.std.specs.Prelude.{ℕ, Bool, List}
use Rattle.std.specs.FinMap.{FinMap}
use Rattle.std.specs.Ordering.{nat_cmp}
use Rattle.mdl_state.specs.declared.Regs.{Regs}
use Rattle.mdl_state.specs.declared.Activity.{Activity}
use Rattle.mdl_state.specs.declared.Latches.{Latches}
use Rattle.mdl_state.specs.declared.Entry.{Entry}
use Rattle.mdl_state.specs.declared.Watch.{Watch}

-- physical memory: the bytes of RAM, the bytes of the ROM, and whether the line A20 is on
pub record Physical : Type 0 where
  pub ram : List ℕ
  pub rom : List ℕ
  pub a20 : Bool

-- what serves one page of an access: an entry that stands in the cache, or a walk of the tables,
-- after which these pages leave the cache
pub data Item : Type 0 where
  Old : Item
  Walk : List ℕ → Item

-- Memory as the processor sees it. The cache has an entry for some linear pages; a held byte stands
-- with its physical address, the oldest first; `walks` counts the walks; `served` has the items
-- that a step has not used yet, and is empty between steps. `watch` has the data breakpoints that are
-- looked for, and `hits` the bits of DR6 of those that were met. Own: The walk number in the state.
pub record Mem : Type 0 where
  pub physical : Physical
  pub paging : Bool
  pub cr3 : ℕ
  pub cache : FinMap nat_cmp Entry
  pub held : List (ℕ × ℕ)
  pub walks : ℕ
  pub served : List Item
  pub watch : List Watch
  pub hits : ℕ

-- the processor, and the number of steps done
pub record Core : Type 0 where
  pub regs : Regs
  pub activity : Activity
  pub latches : Latches
  pub steps : ℕ

-- the machine
pub record State : Type 0 where
  pub core : Core
  pub mem : Mem

-- what a step may choose: the value of each flag that it leaves undefined, as a bit of a number in
-- the place of the flag, and what serves the pages of its accesses, in order
pub record Choice : Type 0 where
  pub flags : ℕ
  pub served : List Item
