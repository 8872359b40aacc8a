-- The keyboard controller and its keyboard, as in the PC/AT. Own: The keyboard controller.
use Rattle.std.specs.Prelude.{ℕ, ◌-◌, ◌==◌, Bool, ◌&&◌, ◌||◌, not, true, false, Option, Some, None, is_some, is_none, unwrap_or, List, [], ◌∷◌, ◌++◌, length, drop, nat_lt, slice_get, bit_and, bit_or, if◌then◌else◌}
use Rattle.mdl_dev.specs.declared.keyboard.Awaited.{Awaited}
use Rattle.mdl_dev.specs.declared.keyboard.Awaited.TheVariants.{Nothing, CommandByte, OutputPort}
use Rattle.mdl_dev.specs.declared.keyboard.Action.{Action}
use Rattle.mdl_dev.specs.declared.keyboard.Action.TheVariants.{Reply, Await, SetCommandByte, SetOutputPort, Send, SendBoth, ResetProcessor, Ignore}
use Rattle.mdl_dev.specs.declared.keyboard.Told.{Told}
use Rattle.mdl_dev.specs.declared.keyboard.TheConstants.{DATA_PORT, COMMAND_PORT, OUTPUT_FULL, SYSTEM_FLAG, COMMAND_LAST, UNLOCKED, INTERRUPT, KEYBOARD_OFF, NO_RESET, A20_GATE}
use Rattle.mdl_dev.specs.declared.keyboard.TheConstants.{READ_COMMAND_BYTE, WRITE_COMMAND_BYTE, SELF_TEST, INTERFACE_TEST, DISABLE_KEYBOARD, ENABLE_KEYBOARD, READ_INPUT_PORT, READ_OUTPUT_PORT, WRITE_OUTPUT_PORT, PULSE_RESET}
use Rattle.mdl_dev.specs.declared.keyboard.TheConstants.{SELF_TEST_PASSED, INTERFACE_PASSED, INPUT_PORT, ACKNOWLEDGE, RESET_KEYBOARD, KEYBOARD_PASSED, BOOT_COMMAND_BYTE, BOOT_OUTPUT_PORT, QUEUE}

-- the controller, and the bytes of the keyboard that wait, the oldest first
pub record Keyboard : Type 0 where
  pub command_byte : ℕ
  pub output_port : ℕ
  pub awaited : Awaited
  -- the last write was a command
  pub command_last : Bool
  -- the byte that the data port gave last
  pub given : ℕ
  -- the last reply has not been taken
  pub replies : Bool
  pub reply : ℕ
  pub queue : List ℕ

-- nothing is there, interrupts are allowed and A20 is on
abbrev pub boot_keyboard : Keyboard
boot_keyboard = record {
  command_byte = BOOT_COMMAND_BYTE;
  output_port = BOOT_OUTPUT_PORT;
  awaited = Nothing;
  command_last = false;
  given = 0;
  replies = false;
  reply = 0;
  queue = [];
}

-- a port of this chip
abbrev pub is_keyboard_port : ℕ → Bool
is_keyboard_port port = (port == DATA_PORT) || (port == COMMAND_PORT)

-- a bit of a byte is 1
abbrev pub has : ℕ → ℕ → Bool
has byte bit = not (bit_and byte bit == 0)

-- the line A20 is on
abbrev pub is_a20_on : Keyboard → Bool
is_a20_on k = has k.output_port A20_GATE

-- the byte that a read takes: the reply, else the oldest that waits unless the keyboard is off
abbrev pub front : Keyboard → Option ℕ
front k =
    if k.replies then Some k.reply
    else if has k.command_byte KEYBOARD_OFF then None
    else slice_get k.queue 0

-- a byte that comes to the front now raises the line
abbrev pub raises : Keyboard → Bool
raises k = is_some (front k) && has k.command_byte INTERRUPT

-- a read of the command port
abbrev pub status_of : Keyboard → ℕ
status_of k =
    let full = if is_some (front k) then OUTPUT_FULL else 0 in
    let command = if k.command_last then COMMAND_LAST else 0 in
    bit_or (bit_or (bit_or full (bit_and k.command_byte SYSTEM_FLAG)) command) UNLOCKED

-- the front byte is taken
abbrev pub without_front : Keyboard → Keyboard
without_front k =
    if k.replies then record k { replies = false }
    else if has k.command_byte KEYBOARD_OFF then k
    else record k { queue = drop 1 k.queue }

-- a read of the data port gives the front byte, or the one that it gave last
abbrev pub data_of : Keyboard → ℕ
data_of k = unwrap_or (front k) k.given

-- what a read gives
abbrev pub input_byte : Keyboard → ℕ → ℕ
input_byte k port = if port == DATA_PORT then data_of k else status_of k

-- what a read leaves
abbrev pub after_input : Keyboard → ℕ → Keyboard
after_input k port = if port == DATA_PORT then record (without_front k) { given = data_of k } else k

-- a read raises the line: a byte is taken, and the one behind it comes to the front
abbrev pub input_line : Keyboard → ℕ → Bool
input_line k port = (port == DATA_PORT) && is_some (front k) && raises (after_input k port)

-- what a command comes to
abbrev pub command_action : Keyboard → ℕ → Action
command_action k byte =
    if byte == READ_COMMAND_BYTE then Reply k.command_byte
    else if byte == WRITE_COMMAND_BYTE then Await CommandByte
    else if byte == SELF_TEST then Reply SELF_TEST_PASSED
    else if byte == INTERFACE_TEST then Reply INTERFACE_PASSED
    else if byte == DISABLE_KEYBOARD then SetCommandByte (bit_or k.command_byte KEYBOARD_OFF)
    else if byte == ENABLE_KEYBOARD then SetCommandByte (bit_and k.command_byte (255 - KEYBOARD_OFF))
    else if byte == READ_INPUT_PORT then Reply INPUT_PORT
    else if byte == READ_OUTPUT_PORT then Reply k.output_port
    else if byte == WRITE_OUTPUT_PORT then Await OutputPort
    else if byte == PULSE_RESET then ResetProcessor
    else Ignore

-- what a byte of data comes to
abbrev pub data_action : Awaited → ℕ → Action
data_action Nothing byte = if byte == RESET_KEYBOARD then SendBoth ACKNOWLEDGE KEYBOARD_PASSED else Send ACKNOWLEDGE
data_action CommandByte byte = SetCommandByte byte
data_action OutputPort byte = SetOutputPort byte

-- a byte waits behind the others, or is lost where all places are taken
abbrev pub queued : List ℕ → ℕ → List ℕ
queued queue byte = if nat_lt (length queue) QUEUE then queue ++ byte ∷ [] else queue

-- what an action leaves
abbrev pub after_action : Action → Keyboard → Keyboard
after_action (Reply byte) k = record k { replies = true; reply = byte }
after_action (Await awaited) k = record k { awaited = awaited }
after_action (SetCommandByte byte) k = record k { command_byte = byte }
after_action (SetOutputPort byte) k = record k { output_port = byte }
after_action (Send byte) k = record k { queue = queued k.queue byte }
after_action (SendBoth first second) k = record k { queue = queued (queued k.queue first) second }
after_action ResetProcessor k = k
after_action Ignore k = k

-- an action is a reply
abbrev pub is_reply : Action → Bool
is_reply (Reply byte) = true
is_reply action = false

-- an action raises the line: a reply comes to the front at once, another byte where none was there
abbrev pub action_line : Action → Keyboard → Bool
action_line action k = (is_reply action || is_none (front k)) && raises (after_action action k)

-- an action asks for a reset of the processor
abbrev pub asks_reset : Action → Bool
asks_reset ResetProcessor = true
asks_reset (SetOutputPort byte) = not (has byte NO_RESET)
asks_reset action = false

-- what each write leaves; a byte of data ends what was awaited, a command does not
abbrev pub seen_write : Keyboard → ℕ → Keyboard
seen_write k port =
    if port == DATA_PORT then record k { command_last = false; awaited = Nothing }
    else record k { command_last = true }

-- what a write comes to
abbrev pub output_action : Keyboard → ℕ → ℕ → Action
output_action k port byte = if port == DATA_PORT then data_action k.awaited byte else command_action k byte

-- what a write leaves
abbrev pub after_output : Keyboard → ℕ → ℕ → Keyboard
after_output k port byte = after_action (output_action k port byte) (seen_write k port)

-- what a write tells
abbrev pub output_told : Keyboard → ℕ → ℕ → Told
output_told k port byte = record {
  line = action_line (output_action k port byte) k;
  reset = asks_reset (output_action k port byte);
}

-- what a byte of the keyboard leaves
abbrev pub after_key : Keyboard → ℕ → Keyboard
after_key k byte = after_action (Send byte) k

-- a byte of the keyboard raises the line
abbrev pub key_line : Keyboard → ℕ → Bool
key_line k byte = action_line (Send byte) k
