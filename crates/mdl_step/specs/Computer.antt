-- The whole machine: the processor and its memory with the board, what happens to it from outside, and how
-- it is looked at. Manual, chapters 5, 9 and 10. Own: A reset of the board.
use Rattle.std.specs.Prelude.{ℕ, ◌+◌, ◌*◌, ◌/◌, ◌%◌, ◌^◌, ◌&&◌, if◌then◌else◌, List, Option, Some, None}
use Rattle.mdl_state.specs.declared.EventKind.{EventKind}
use Rattle.mdl_state.specs.declared.EventKind.TheVariants.{Key, Pulse, Nmi, Reset}
use Rattle.mdl_state.specs.State.{Physical, Mem}
use Rattle.mdl_state.specs.Machine.{Rules, Machine}
use Rattle.mdl_state.specs.Memory.{byte_at}
use Rattle.mdl_state.specs.PageWalk.{frame_of, entry_word, is_present}
use Rattle.mdl_state.specs.Boot.{boot}
use Rattle.mdl_state.specs.Policy.{meets_plain}
use Rattle.mdl_state.specs.Serving.{Policy}
use Rattle.mdl_dev.specs.DiskImage.{sectors_of}
use Rattle.mdl_board.specs.Board.{BoardState, board_at_boot, board_reset, gate_of, key_pressed, pulsed}
use Rattle.mdl_board.specs.Wiring.{board_gives, board_takes, board_tells, board_forgets, board_wants}
use Rattle.mdl_step.specs.Events.{applied}

-- what the processor does with the board, and what it sees of it
abbrev pub board_rules : Rules BoardState
board_rules = record {
  gives = board_gives;
  takes = board_takes;
  tells = board_tells;
  forgets = board_forgets;
  wants = board_wants;
  gate = gate_of;
  asks = λ (b : BoardState). b.asks;
}

-- which page entries serve: those of a memory that keeps none, so each page is served by a walk
abbrev pub run_policy : Policy
run_policy = meets_plain

-- ---- at power on

-- the machine at power on: so many mebibytes of RAM, all zero, a ROM, and a disk of these bytes; no bytes are no drive
abbrev pub powered : ℕ → List ℕ → List ℕ → Machine BoardState
powered mebibytes rom disk = record { state = boot mebibytes rom; board = board_at_boot (sectors_of disk) }

-- ---- events

-- what an event does to the board; an NMI does not reach it
abbrev pub on_board : EventKind → BoardState → BoardState
on_board (Key byte) b = key_pressed b byte
on_board (Pulse count) b = pulsed b count
on_board Nmi b = b
on_board Reset b = board_reset b

-- An event. A key and pulses reach the board, an NMI the processor, and a reset both; RAM, with the screen's memory in it, the disk
-- and the counts of steps and walks stay.
abbrev pub happens : EventKind → Machine BoardState → Machine BoardState
happens = applied board_rules on_board

-- ---- how it is looked at

-- the cell where the screen starts, and that of the cursor
abbrev pub start_of : BoardState → ℕ
start_of b = 0x100 * b.screen.start_high + b.screen.start_low

abbrev pub cursor_of : BoardState → ℕ
cursor_of b = 0x100 * b.screen.cursor_high + b.screen.cursor_low

-- the byte at a linear address by the tables as they stand, whatever their rights; none where an entry of its page is not present
unfoldable pub paged_byte : Physical → ℕ → ℕ → Option ℕ
paged_byte physical cr3 lin =
    let one = entry_word physical (frame_of cr3 + 4 * (lin / 2 ^ 22)) in
    let two = entry_word physical (frame_of one + 4 * (lin / 2 ^ 12 % 2 ^ 10)) in
    if is_present one && is_present two then Some (byte_at physical (frame_of two + lin % 0x1000)) else None

-- The byte at a linear address, which marks and caches nothing. With paging off the linear address is the physical one.
abbrev pub linear_byte : Mem → ℕ → Option ℕ
linear_byte m lin = if m.paging then paged_byte m.physical m.cr3 lin else Some (byte_at m.physical lin)
