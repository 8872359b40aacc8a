-- Steps in which nothing happens. Manual, chapter 9.
use Rattle.std.specs.Prelude.{ℕ, ◌+◌}
use Rattle.mdl_state.specs.Machine.{Machine}

-- the machine so many steps later, where nothing happens in them
abbrev pub later : {B : Type 0} → ℕ → Machine B → Machine B
later steps m = record m { state = record m.state { core = record m.state.core { steps = m.state.core.steps + steps } } }
