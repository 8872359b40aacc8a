-- The board: its chips together, the lines between them, and what happens to it from outside.
-- Own: A reset of the board. Own: A burst raises once.
use Rattle.std.specs.Prelude.{ℕ, Bool, false, if◌then◌else◌, List}
use Rattle.mdl_dev.specs.PicPair.{PicPair, boot_pair, raise}
use Rattle.mdl_dev.specs.PicPair as pic
use Rattle.mdl_dev.specs.declared.pit.Timer.{Timer}
use Rattle.mdl_dev.specs.Pit.{boot, pulses, has_risen}
use Rattle.mdl_dev.specs.Keyboard.{Keyboard, boot_keyboard, is_a20_on, after_key, key_line}
use Rattle.mdl_dev.specs.Screen.{Screen, boot_screen}
use Rattle.mdl_dev.specs.Disk.{DiskState, disk_at_boot}
use Rattle.mdl_board.specs.declared.TheConstants.{TIMER_LINE, KEYBOARD_LINE}

-- the board; bit 0 of port 61h is the gate of the timer's counter 2
pub record BoardState : Type 0 where
  pub pics : PicPair
  pub timer : Timer
  -- bit 1 of port 61h
  pub speaker : Bool
  pub keyboard : Keyboard
  pub screen : Screen
  pub disk : DiskState
  -- a reset of the processor is asked for
  pub asks : Bool

-- the board when the machine is switched on, with a disk of these sectors
unfoldable pub board_at_boot : List (List ℕ) → BoardState
board_at_boot sectors = record {
  pics = boot_pair;
  timer = boot;
  speaker = false;
  keyboard = boot_keyboard;
  screen = boot_screen;
  disk = disk_at_boot sectors;
  asks = false;
}

-- a reset puts every chip in its state at boot, and takes back what is asked for; the sectors stay
unfoldable pub board_reset : BoardState → BoardState
board_reset b = board_at_boot b.disk.sectors

-- ---- lines

-- a device raises its line, where it does
abbrev pub raised : ℕ → Bool → BoardState → BoardState
raised line does b = record b { pics = if does then raise b.pics line else b.pics }

-- the line A20 is on
abbrev pub gate_of : BoardState → Bool
gate_of b = is_a20_on b.keyboard

-- the processor has taken an interrupt
unfoldable pub after_acknowledge : BoardState → BoardState
after_acknowledge b = record b { pics = pic.after_acknowledge b.pics }

-- ---- events

-- the keyboard sends a byte
unfoldable pub key_pressed : BoardState → ℕ → BoardState
key_pressed b byte =
    raised KEYBOARD_LINE (key_line b.keyboard byte) (record b { keyboard = after_key b.keyboard byte })

-- so many pulses of the timer's clock, in some of which OUT 0 may rise
unfoldable pub pulsed : BoardState → ℕ → BoardState
pulsed b n = raised TIMER_LINE (has_risen n b.timer) (record b { timer = pulses n b.timer })
