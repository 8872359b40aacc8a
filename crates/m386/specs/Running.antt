-- The machine of a job after its run.
use Rattle.std.specs.Prelude.{◌≡◌, ℕ}
use Rattle.mdl_board.specs.Board.{BoardState}
use Rattle.mdl_state.specs.Machine.{Machine}
use Rattle.mdl_step.specs.Run.{walk_count}
use Rattle.m386.specs.Inputs.{Fed}
use Rattle.m386.specs.Headline.{Ran}

-- the last state of a run, which has counted its walks
pub record RanTo (ram : ℕ) (fed : Fed) (steps : ℕ) (last : Machine BoardState) : Type 0 where
  pub ran : Ran ram fed steps
  pub is_last : last ≡ ran.last
  pub walks : last.state.mem.walks ≡ walk_count ran.choices
