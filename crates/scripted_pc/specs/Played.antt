-- A machine with the events of its script, of which those up to its count of steps were applied.
use Rattle.std.specs.Prelude.{◌≡◌, ◌≤◌, ℕ, List, length}
use Rattle.mdl_board.specs.Board.{BoardState}
use Rattle.mdl_state.specs.declared.Event.{Event}
use Rattle.mdl_state.specs.Machine.{Machine}
use Rattle.mdl_text.specs.Script.{RisesFrom}
use Rattle.pc_machine.specs.Runs.{due_by}

pub record Played : Type 0 where
  pub machine : Machine BoardState
  pub events : List Event
  pub applied : ℕ

-- the counts of the script do not fall, and so many events are due by now, which are no more than there are
pub record IsPlayed (p : Played) : Type 0 where
  pub rises : RisesFrom 0 p.events
  pub due : p.applied ≡ due_by p.machine.state.core.steps p.events
  pub inside : p.applied ≤ length p.events
