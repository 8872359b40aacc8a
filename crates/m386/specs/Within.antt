-- Where memory wants, no more bytes came of an input than it may have.
use Rattle.std.specs.Prelude.{⊤, ℕ, List, Option}
use Rattle.host_io.specs.declared.host.InSlot.{InSlot}
use Rattle.host_io.specs.Transfers.{TakesAtMost}
use Rattle.m386.specs.declared.refusals.Refusal.{Refusal}
use Rattle.m386.specs.declared.refusals.Refusal.TheVariants as refusals
use Rattle.m386.specs.Slots.{Left}
use Rattle.m386.specs.Inputs.{limit_of}

-- no more bytes of each input are gone than it may have
abbrev pub AreWithin : Left → Left → Type 0
AreWithin before now = (slot : InSlot) → TakesAtMost (limit_of slot) (before slot) (now slot)

-- where memory wants, this is so of an input
abbrev pub IsInputWithin : ℕ → Option (List ℕ) → Option (List ℕ) → Refusal → Type 0
IsInputWithin limit before now refusals.Memory = TakesAtMost limit before now
IsInputWithin limit before now _ = ⊤

-- where memory wants, this is so of each input
abbrev pub IsWithin : Left → Left → Refusal → Type 0
IsWithin before now refusals.Memory = AreWithin before now
IsWithin before now _ = ⊤
