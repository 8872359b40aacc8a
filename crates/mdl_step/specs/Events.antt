-- What an NMI, a reset and an event of the board do to the machine. Manual, chapters 9 and 10.
use Rattle.std.specs.Prelude.{Bool, true, false}
use Rattle.std.specs.FinMap.{empty}
use Rattle.mdl_state.specs.declared.EventKind.{EventKind}
use Rattle.mdl_state.specs.declared.EventKind.TheVariants.{Nmi, Reset}
use Rattle.mdl_state.specs.State.{State}
use Rattle.mdl_state.specs.Machine.{Rules, Machine}
use Rattle.mdl_state.specs.Boot.{reset_core}
use Rattle.mdl_state.specs.Accesses.{with_a20}

-- the NMI is latched
abbrev pub with_nmi : State → State
with_nmi s = record s { core = record s.core { latches = record s.core.latches { nmi = true } } }

-- The registers after a reset, paging off and nothing cached. Memory and the count of steps stay, and
-- the line A20 is as the board has it.
abbrev pub after_reset : Bool → State → State
after_reset a20 s = record {
  core = record reset_core { steps = s.core.steps };
  mem = with_a20 a20 (record s.mem { paging = false; cr3 = 0; cache = empty });
}

-- the board resets itself, and then the processor
abbrev pub reset_with : {B : Type 0} → Rules B → B → Machine B → Machine B
reset_with rules board m = record { state = after_reset (rules.gate board) m.state; board = board }

-- An event, by what it does to the board: an NMI reaches the processor alone, and a reset both.
abbrev pub applied : {B : Type 0} → Rules B → (EventKind → B → B) → EventKind → Machine B → Machine B
applied rules on_board Nmi m = record m { state = with_nmi m.state }
applied rules on_board Reset m = reset_with rules (on_board Reset m.board) m
applied rules on_board kind m = record m { board = on_board kind m.board }
