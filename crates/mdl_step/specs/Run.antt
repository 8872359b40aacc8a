-- Runs of the machine: steps, with the events that are due at each count of steps.
use Rattle.std.specs.Prelude.{◌≡◌, ℕ, ◌+◌, ◌-◌, ◌^◌, ◌==◌, List, [], ◌∷◌, length, min}
use Rattle.std.specs.List.{filter}
use Rattle.mdl_state.specs.declared.Event.{Event}
use Rattle.mdl_state.specs.declared.EventKind.{EventKind}
use Rattle.mdl_state.specs.State.{Item, Old, Walk, Choice}
use Rattle.mdl_state.specs.Machine.{Rules, Machine}
use Rattle.mdl_state.specs.Serving.{Policy}
use Rattle.mdl_step.specs.Events.{applied}
use Rattle.mdl_step.specs.Step.{Step}

-- the events of a count, in list order
abbrev pub events_at : ℕ → List Event → List Event
events_at count = filter (λ (e : Event). e.at == count)

module _ {B : Type 0} (rules : Rules B) (on_board : EventKind → B → B) (events : List Event) where
  -- events one after the other
  abbrev pub all_applied : List Event → Machine B → Machine B
  all_applied [] m = m
  all_applied (e ∷ es) m = all_applied es (applied rules on_board e.kind m)

  -- the machine after the events of its count of steps
  abbrev pub after_events : Machine B → Machine B
  after_events m = all_applied (events_at m.state.core.steps events) m

  -- Steps with these choices, and after each of them the events of the new count.
  abbrev pub Steps : Policy → Machine B → List Choice → Machine B → Type 0
  Steps policy m [] n = n ≡ m
  Steps policy m (choice ∷ choices) n = (mid : Machine B) × Step rules policy m choice mid × Steps policy (after_events mid) choices n

  -- A run, with as many choices as steps. An event of a count above the last is not applied.
  abbrev pub Run : Policy → Machine B → List Choice → Machine B → Type 0
  Run policy m choices n = Steps policy (after_events m) choices n

-- ---- walks

-- the number of walks among items
abbrev pub walks_of : List Item → ℕ
walks_of [] = 0
walks_of (Old ∷ items) = walks_of items
walks_of (Walk _ ∷ items) = walks_of items + 1

abbrev pub all_walks : List Choice → ℕ
all_walks [] = 0
all_walks (choice ∷ choices) = walks_of choice.served + all_walks choices

-- the number of walks in choices, up to its last value
abbrev pub walk_count : List Choice → ℕ
walk_count choices = min (all_walks choices) (2 ^ 64 - 1)
