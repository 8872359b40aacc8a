-- Accesses of one, two and four bytes: those of each byte in turn, the lowest first, but at the data port of the disk. Own: Wide accesses of the board.
use Rattle.std.specs.Prelude.{ℕ, zero, suc, ◌+◌, ◌%◌, ◌==◌, if◌then◌else◌, List, [], ◌∷◌}
use Rattle.mdl_state.specs.declared.Size.{Size}
use Rattle.mdl_state.specs.Bytes.{bytes_of, little, little_bytes}
use Rattle.mdl_dev.specs.declared.disk.TheConstants.{DATA_PORT}
use Rattle.mdl_dev.specs.DiskPorts.{disk_value, disk_input, disk_output}
use Rattle.mdl_board.specs.Board.{BoardState}
use Rattle.mdl_board.specs.BytePorts.{byte_read, after_byte_read, byte_written, disk_reacted}

-- the port behind one; behind the last comes port 0
abbrev pub next_port : ℕ → ℕ
next_port port = (port + 1) % 0x10000

-- so many bytes read at successive ports, each on the board that the last one left
abbrev pub bytes_read : ℕ → BoardState → ℕ → List ℕ
bytes_read zero b port = []
bytes_read (suc count) b port =
    byte_read b port ∷ bytes_read count (after_byte_read b port) (next_port port)

-- the board after that
abbrev pub after_bytes_read : ℕ → BoardState → ℕ → BoardState
after_bytes_read zero b port = b
after_bytes_read (suc count) b port =
    after_bytes_read count (after_byte_read b port) (next_port port)

-- the board after bytes were written at successive ports
abbrev pub bytes_written : BoardState → ℕ → List ℕ → BoardState
bytes_written b port [] = b
bytes_written b port (byte ∷ bytes) = bytes_written (byte_written b port byte) (next_port port) bytes

-- the number that a port gives; the data port of the disk gives all its bytes at once
unfoldable pub input_value : BoardState → ℕ → Size → ℕ
input_value b port size =
    if port == DATA_PORT then disk_value b.disk port size
    else little (bytes_read (bytes_of size) b port)

-- the board after a port gave a number
unfoldable pub after_input : BoardState → ℕ → Size → BoardState
after_input b port size =
    if port == DATA_PORT then disk_reacted b (disk_input b.disk port size)
    else after_bytes_read (bytes_of size) b port

-- the board after a port took a number
unfoldable pub after_output : BoardState → ℕ → Size → ℕ → BoardState
after_output b port size value =
    if port == DATA_PORT then disk_reacted b (disk_output b.disk port size value)
    else bytes_written b port (little_bytes (bytes_of size) value)
