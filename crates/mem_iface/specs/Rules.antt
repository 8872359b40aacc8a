-- What the trait says of a board, as the rules of the written machine.
use Rattle.mdl_state.specs.Machine.{Rules}
use Rattle.mem_iface.specs.declared.ports.Ports as Ports

abbrev pub rules_of : {B : Type 0} → Ports.Ghosts B → Rules B
rules_of board = record {
  gives = board.gives;
  takes = board.takes;
  tells = board.tells;
  forgets = board.forgets;
  wants = board.wants;
  gate = board.gate;
  asks = board.asks;
}
