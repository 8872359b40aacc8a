-- An access of one byte, at the data port of the disk and elsewhere.
use Rattle.std.specs.Prelude.{ℕ, ◌≡◌, ◌≢◌, ◌<◌, ◌%◌, ◌==◌, Bool, true, false, refl}
use Rattle.std.proofs.Common.{arith}
use Rattle.mdl_state.specs.declared.Size.TheVariants.{B1}
use Rattle.mdl_dev.specs.declared.disk.TheConstants.{DATA_PORT}
use Rattle.mdl_board.specs.Board.{BoardState}
use Rattle.mdl_board.specs.BytePorts.{device_at, byte_read, after_byte_read, byte_written}
use Rattle.mdl_board.specs.WideAccesses.{input_value, after_input, after_output}

there : (port : ℕ) → (port == DATA_PORT) ≡ true → port ≡ DATA_PORT
there port e = grind arith

elsewhere : (port : ℕ) → (port == DATA_PORT) ≡ false → port ≢ DATA_PORT
elsewhere port e = grind arith

value_by : (at : Bool) (b : BoardState) (port : ℕ) → (port == DATA_PORT) ≡ at → input_value b port B1 ≡ byte_read b port
unfolding input_value byte_read device_at
value_by true b port e = rw (there port e) refl
value_by false b port e = rw e (omega arith)

after_by : (at : Bool) (b : BoardState) (port : ℕ) → (port == DATA_PORT) ≡ at → after_input b port B1 ≡ after_byte_read b port
unfolding after_input after_byte_read device_at
after_by true b port e = rw (there port e) refl
after_by false b port e = rw e refl

written_by : (at : Bool) (b : BoardState) (port byte : ℕ) → (port == DATA_PORT) ≡ at → byte < 256 → after_output b port B1 byte ≡ byte_written b port byte
unfolding after_output byte_written device_at
written_by true b port byte e fits = rw (there port e) refl
written_by false b port byte e fits = let same : byte % 256 ≡ byte = omega arith in rw (e, same) refl

pub byte_value : (b : BoardState) (port : ℕ) → input_value b port B1 ≡ byte_read b port
byte_value b port = value_by (port == DATA_PORT) b port refl

pub byte_after : (b : BoardState) (port : ℕ) → after_input b port B1 ≡ after_byte_read b port
byte_after b port = after_by (port == DATA_PORT) b port refl

pub byte_stored : (b : BoardState) (port byte : ℕ) → byte < 256 → after_output b port B1 byte ≡ byte_written b port byte
byte_stored b port byte fits = written_by (port == DATA_PORT) b port byte refl fits

pub ruleset bytes = (byte_value, byte_after, byte_stored)
