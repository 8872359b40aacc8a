-- The pair of interrupt controllers on the board: ports 20h, 21h, A0h, A1h. 8259A data sheet. Own: The cascade line follows the second chip. Own: A line stays requested until it is acknowledged. Own: A poll waits for its read.
use Rattle.std.specs.Prelude.{ℕ, ◌-◌, ◌<◌, ◌≢◌, ◌==◌, ◌||◌, nat_lt, Bool, false, if◌then◌else◌, Option, Some, None, is_some}
use Rattle.mdl_dev.specs.declared.pic.TheConstants.{FIRST_COMMAND, FIRST_DATA, SECOND_COMMAND, SECOND_DATA, CASCADE}
use Rattle.mdl_dev.specs.declared.pic.Chip.TheVariants.{First, Second}
use Rattle.mdl_dev.specs.declared.pic.Controller.{Controller}
use Rattle.mdl_dev.specs.Pic.{with_line, boot_controller, request, acknowledged, vector}
use Rattle.mdl_dev.specs.PicCommands.{command_written, data_written, command_read, data_read, after_read}

-- The two chips. In `first.irr` the line of the second is left out: it is derived.
pub record PicPair : Type 0 where
  pub first : Controller
  pub second : Controller

-- the pair at boot
abbrev pub boot_pair : PicPair
boot_pair = record { first = boot_controller; second = boot_controller }

-- what the second chip requests
unfoldable pub second_request : PicPair → Option ℕ
second_request pair = request Second pair.second

-- the first chip, with the line of the second in IRR while that requests something
unfoldable pub cascaded : PicPair → Controller
cascaded pair = record pair.first { irr = if is_some (second_request pair) then with_line pair.first.irr CASCADE else pair.first.irr }

-- what the first chip requests
unfoldable pub first_request : PicPair → Option ℕ
first_request pair = request First (cascaded pair)

-- the first chip requests for the second
abbrev pub is_cascade : Option ℕ → Bool
is_cascade None = false
is_cascade (Some line) = line == CASCADE

-- the ports of the pair
abbrev pub is_pic_port : ℕ → Bool
is_pic_port port = port == FIRST_COMMAND || port == FIRST_DATA || port == SECOND_COMMAND || port == SECOND_DATA

-- what a port reads
unfoldable pub input : PicPair → ℕ → ℕ
input pair port =
    if port == FIRST_COMMAND then command_read (cascaded pair) (first_request pair)
    else if port == FIRST_DATA then data_read pair.first (first_request pair)
    else if port == SECOND_COMMAND then command_read pair.second (second_request pair)
    else data_read pair.second (second_request pair)

-- the pair after that read
unfoldable pub after_input : PicPair → ℕ → PicPair
after_input pair port =
    if port == FIRST_COMMAND || port == FIRST_DATA
    then record pair { first = after_read pair.first (first_request pair) }
    else record pair { second = after_read pair.second (second_request pair) }

-- the pair after a write
unfoldable pub output : PicPair → ℕ → ℕ → PicPair
output pair port word =
    if port == FIRST_COMMAND then record pair { first = command_written pair.first word }
    else if port == FIRST_DATA then record pair { first = data_written pair.first.stage pair.first word }
    else if port == SECOND_COMMAND then record pair { second = command_written pair.second word }
    else record pair { second = data_written pair.second.stage pair.second word }

-- the lines that a device can be on
pub record IsLine (line : ℕ) : Type 0 where
  pub below : line < 16
  pub other : line ≢ CASCADE

-- the pair after a line is raised
unfoldable pub raise : PicPair → ℕ → PicPair
raise pair line =
    if nat_lt line 8
    then record pair { first = record pair.first { irr = with_line pair.first.irr line } }
    else record pair { second = record pair.second { irr = with_line pair.second.irr (line - 8) } }

-- whether the processor is asked to take an interrupt
unfoldable pub wants : PicPair → Bool
wants pair = is_some (first_request pair)

-- the vector that the processor gets; for the line of the second chip the second gives it
unfoldable pub acknowledge : PicPair → ℕ
acknowledge pair =
    if is_cascade (first_request pair) then vector pair.second (second_request pair)
    else vector pair.first (first_request pair)

-- the pair after that: the line of the second chip is acknowledged by both
unfoldable pub after_acknowledge : PicPair → PicPair
after_acknowledge pair = record {
  first = acknowledged pair.first (first_request pair);
  second = if is_cascade (first_request pair) then acknowledged pair.second (second_request pair) else pair.second;
}
