-- Runs of the whole machine: for some choices, whose walks are counted.
use Rattle.std.specs.Prelude.{◌≡◌, ℕ, List, length, nat_le}
use Rattle.std.specs.List.{filter}
use Rattle.mdl_state.specs.declared.Event.{Event}
use Rattle.mdl_state.specs.State.{Choice}
use Rattle.mdl_state.specs.Machine.{Machine}
use Rattle.mdl_board.specs.Board.{BoardState}
use Rattle.mdl_step.specs.Run.{Run}
use Rattle.mdl_step.specs.RunLaws.{walks_in}
use Rattle.mdl_step.specs.Computer.{board_rules, on_board, run_policy}

-- how many events have a count up to this
abbrev pub due_by : ℕ → List Event → ℕ
due_by count events = length (filter (λ (e : Event). nat_le e.at count) events)

-- a run of so many steps, for some choices, whose walks are counted
pub record RanFor (events : List Event) (steps : ℕ) (m n : Machine BoardState) : Type 0 where
  pub choices : List Choice
  pub as_many : length choices ≡ steps
  pub run : Run board_rules on_board events run_policy m choices n
  pub walks : n.state.mem.walks ≡ walks_in choices m.state.mem.walks
