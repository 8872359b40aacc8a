-- What a host promises of its calls. Own: What a host promises
use Rattle.std.specs.Prelude.{◌≡◌, ◌≤◌, ℕ, Bool, false, true, List, length, Option, None, Some}
use Rattle.host_io.specs.declared.host.OutSlot.{OutSlot}
use Rattle.host_io.specs.declared.host.Slot.{Slot}

-- Of which slots it is sure: a call on such a slot fails for no other reason than a path longer than the longest one, or an
-- output that has taken as many bytes in all as it takes at most.
pub record Promise : Type 0 where
  pub sure : Slot → Bool
  pub longest : ℕ
  pub most : OutSlot → ℕ

-- it is sure of nothing
abbrev pub no_promise : Promise
no_promise = record { sure = λ slot. false; longest = 0; most = λ slot. 0 }

-- it is sure of a slot
abbrev pub IsSure : Promise → Slot → Type 0
IsSure promise slot = promise.sure slot ≡ true

-- and the slot opens with this path
pub record Opens (promise : Promise) (slot : Slot) (path : List ℕ) : Type 0 where
  pub sure : IsSure promise slot
  pub short : length path ≤ promise.longest

-- the host tells, and the output has taken as many bytes as it takes at most
abbrev pub IsFull : Promise → OutSlot → Option (List ℕ) → Type 0
IsFull promise slot None = ⊥
IsFull promise slot (Some bytes) = promise.most slot ≤ length bytes
