-- What always holds between two steps.
use Rattle.std.specs.Prelude.{◌≡◌, false}
use Rattle.mdl_state.specs.Machine.{Machine}
use Rattle.mdl_board.specs.Board.{BoardState, gate_of}

-- the line A20 of memory is that of the board, and no reset is asked for
pub record IsSettled (m : Machine BoardState) : Type 0 where
  pub a20 : gate_of m.board ≡ m.state.mem.physical.a20
  pub asks : m.board.asks ≡ false
