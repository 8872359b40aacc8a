-- The machine with a board: what the calls of a board mean, and the state beside it.
use Rattle.std.specs.Prelude.{ℕ, Bool}
use Rattle.mdl_state.specs.declared.Size.{Size}
use Rattle.mdl_state.specs.State.{State}

-- What a board does when a port is read or written, when it tells the vector of an interrupt, and when a
-- reset that it asks for is taken; and what it shows: whether it wants an interrupt, whether the line A20
-- is on, and whether it asks for a reset.
pub record Rules (B : Type 0) : Type 1 where
  pub gives : B → ℕ → Size → ℕ → B → Type 0
  pub takes : B → ℕ → Size → ℕ → B → Type 0
  pub tells : B → ℕ → B → Type 0
  pub forgets : B → B → Type 0
  pub wants : B → Bool
  pub gate : B → Bool
  pub asks : B → Bool

-- the processor with its memory, and the board
pub record Machine (B : Type 0) : Type 0 where
  pub state : State
  pub board : B
