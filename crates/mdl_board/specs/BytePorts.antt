-- Which device a port belongs to, and an access of one byte. Own: The ports of the board. Own: Port 61h.
use Rattle.std.specs.Prelude.{ℕ, ◌+◌, ◌*◌, ◌^◌, ◌==◌, ◌||◌, ◌&&◌, nat_le, Bool, if◌then◌else◌}
use Rattle.mdl_state.specs.declared.Size.TheVariants.{B1}
use Rattle.mdl_state.specs.Bytes.{bit}
use Rattle.mdl_dev.specs.PicPair.{is_pic_port}
use Rattle.mdl_dev.specs.PicPair as pic
use Rattle.mdl_dev.specs.Counter.{flag}
use Rattle.mdl_dev.specs.Pit.{read, behind_read, written, gate_set}
use Rattle.mdl_dev.specs.Keyboard.{is_keyboard_port, input_byte, input_line, output_told}
use Rattle.mdl_dev.specs.Keyboard as keyboard
use Rattle.mdl_dev.specs.Screen.{is_screen_port, screen_input, screen_output}
use Rattle.mdl_dev.specs.Disk.{Reaction}
use Rattle.mdl_dev.specs.DiskPorts.{is_disk_port, disk_value, disk_input, disk_output}
use Rattle.mdl_board.specs.declared.Device.{Device}
use Rattle.mdl_board.specs.declared.Device.TheVariants.{InterruptControllers, Timer, SystemControl, Keyboard, Screen, Disk, Nothing}
use Rattle.mdl_board.specs.declared.TheConstants.{KEYBOARD_LINE, DISK_LINE, COUNTER_0, TIMER_CONTROL, SYSTEM_CONTROL, GATE_2, SPEAKER, OUT_1, OUT_2, ALL_ONES}
use Rattle.mdl_board.specs.Board.{BoardState, raised}

-- ---- the port map

-- a port of the timer: 40h to 43h
abbrev pub is_timer_port : ℕ → Bool
is_timer_port port = nat_le COUNTER_0 port && nat_le port TIMER_CONTROL

-- what a port belongs to; no port belongs to two devices
unfoldable pub device_at : ℕ → Device
device_at port =
    if is_pic_port port then InterruptControllers
    else if is_timer_port port then Timer
    else if port == SYSTEM_CONTROL then SystemControl
    else if is_keyboard_port port then Keyboard
    else if is_screen_port port then Screen
    else if is_disk_port port then Disk
    else Nothing

-- ---- port 61h

-- bits 0 and 1 as they were written, OUT of counter 1 in bit 4, OUT of counter 2 in bit 5
abbrev pub control_read : BoardState → ℕ
control_read b =
    2 ^ GATE_2 * flag b.timer.gate2 + 2 ^ SPEAKER * flag b.speaker
    + 2 ^ OUT_1 * flag b.timer.counter1.out + 2 ^ OUT_2 * flag b.timer.counter2.out

-- the gate of counter 2 is set at once
abbrev pub control_written : BoardState → ℕ → BoardState
control_written b byte = record b {
  timer = gate_set b.timer (bit byte GATE_2);
  speaker = bit byte SPEAKER;
}

-- ---- a byte is read

-- what the disk leaves, and its line
abbrev pub disk_reacted : BoardState → Reaction → BoardState
disk_reacted b r = raised DISK_LINE r.raised (record b { disk = r.state })

-- the byte that a device gives at a port of its
abbrev pub byte_from : Device → BoardState → ℕ → ℕ
byte_from InterruptControllers b port = pic.input b.pics port
byte_from Timer b port = read b.timer port
byte_from SystemControl b port = control_read b
byte_from Keyboard b port = input_byte b.keyboard port
byte_from Screen b port = screen_input b.screen port
byte_from Disk b port = disk_value b.disk port B1
byte_from Nothing b port = ALL_ONES

-- the byte that a port gives
unfoldable pub byte_read : BoardState → ℕ → ℕ
byte_read b port = byte_from (device_at port) b port

-- the board after a device gave a byte
abbrev pub after_byte_from : Device → BoardState → ℕ → BoardState
after_byte_from InterruptControllers b port = record b { pics = pic.after_input b.pics port }
after_byte_from Timer b port = record b { timer = behind_read b.timer port }
after_byte_from SystemControl b port = b
after_byte_from Keyboard b port =
    raised KEYBOARD_LINE (input_line b.keyboard port) (record b { keyboard = keyboard.after_input b.keyboard port })
after_byte_from Screen b port = b
after_byte_from Disk b port = disk_reacted b (disk_input b.disk port B1)
after_byte_from Nothing b port = b

-- the board after a port gave a byte
unfoldable pub after_byte_read : BoardState → ℕ → BoardState
after_byte_read b port = after_byte_from (device_at port) b port

-- ---- a byte is written

-- the board after a device took a byte; the timer raises no line here, whatever OUT 0 does
abbrev pub byte_to : Device → BoardState → ℕ → ℕ → BoardState
byte_to InterruptControllers b port byte = record b { pics = pic.output b.pics port byte }
byte_to Timer b port byte = record b { timer = written b.timer port byte }
byte_to SystemControl b port byte = control_written b byte
byte_to Keyboard b port byte =
    let told = output_told b.keyboard port byte in
    raised KEYBOARD_LINE told.line (record b {
      keyboard = keyboard.after_output b.keyboard port byte;
      asks = b.asks || told.reset;
    })
byte_to Screen b port byte = record b { screen = screen_output b.screen port byte }
byte_to Disk b port byte = disk_reacted b (disk_output b.disk port B1 byte)
byte_to Nothing b port byte = b

-- the board after a port took a byte
unfoldable pub byte_written : BoardState → ℕ → ℕ → BoardState
byte_written b port byte = byte_to (device_at port) b port byte
