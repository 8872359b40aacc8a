-- The board as the processor reaches it: what each of its calls gives and leaves.
use Rattle.std.specs.Prelude.{ℕ, ◌≡◌, Bool, false}
use Rattle.mdl_state.specs.declared.Size.{Size}
use Rattle.mdl_dev.specs.PicPair as pic
use Rattle.mdl_board.specs.Board.{BoardState, after_acknowledge}
use Rattle.mdl_board.specs.WideAccesses.{input_value, after_input, after_output}

-- a port gives a number
abbrev pub board_gives : BoardState → ℕ → Size → ℕ → BoardState → Type 0
board_gives before port size answer after =
    (answer ≡ input_value before port size) × (after ≡ after_input before port size)

-- a port takes a number
abbrev pub board_takes : BoardState → ℕ → Size → ℕ → BoardState → Type 0
board_takes before port size value after = after ≡ after_output before port size value

-- an interrupt is requested
abbrev pub board_wants : BoardState → Bool
board_wants b = pic.wants b.pics

-- the interrupt that is requested tells its vector
abbrev pub board_tells : BoardState → ℕ → BoardState → Type 0
board_tells before vector after =
    (vector ≡ pic.acknowledge before.pics) × (after ≡ after_acknowledge before)

-- a reset of the processor is no longer asked for, and the chips stay
abbrev pub board_forgets : BoardState → BoardState → Type 0
board_forgets before after = after ≡ record before { asks = false }
