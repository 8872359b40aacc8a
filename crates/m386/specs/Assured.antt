-- Over a host that is sure of its slots no call fails.
use Rattle.std.specs.Prelude.{⊤, ℕ, List, Option, None, Some}
use Rattle.host_io.specs.declared.host.OutSlot.{OutSlot}
use Rattle.host_io.specs.declared.host.Slot.{Slot}
use Rattle.host_io.specs.declared.host.Slot.TheVariants.{Out}
use Rattle.host_io.specs.Promises.{Promise, Opens, IsFull}
use Rattle.m386.specs.declared.refusals.Refusal.{Refusal}
use Rattle.m386.specs.declared.refusals.Refusal.TheVariants as refusals
use Rattle.m386.specs.Slots.{Took}
use Rattle.m386.specs.Feeding.{IsNamed}

-- the host promises that a slot opens with its path, where it has one
abbrev pub OpensAt : Promise → Slot → Option (List ℕ) → Type 0
OpensAt promise slot None = ⊤
OpensAt promise slot (Some path) = Opens promise slot path

-- it promises that of each output, and none that has a path is full in the end
pub record AreWritable (promise : Promise) (paths : OutSlot → Option (List ℕ)) (took : Took) : Type 0 where
  pub opens : (slot : OutSlot) → OpensAt promise (Out slot) (paths slot)
  pub room : (slot : OutSlot) → IsNamed (paths slot) → ¬ (IsFull promise slot (took slot))

-- it promises that of each slot, and no output that has a path is full in the end
pub record IsAssured (promise : Promise) (paths : Slot → Option (List ℕ)) (took : Took) : Type 0 where
  pub opens : (slot : Slot) → OpensAt promise slot (paths slot)
  pub room : (slot : OutSlot) → IsNamed (paths (Out slot)) → ¬ (IsFull promise slot (took slot))

-- no call of the host failed
abbrev pub IsNoFault : Refusal → Type 0
IsNoFault (refusals.HostFault slot) = ⊥
IsNoFault (refusals.Late slot) = ⊥
IsNoFault refusals.Commands = ⊥
IsNoFault _ = ⊤
