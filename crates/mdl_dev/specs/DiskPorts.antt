-- One access of the disk's ports. After the ATA standard.
-- Own: Wide accesses of the disk's registers.
use Rattle.std.specs.Prelude.{ℕ, zero, suc, ◌+◌, ◌==◌, ◌||◌, ◌&&◌, nat_le, Bool, if◌then◌else◌, List, [], ◌∷◌}
use Rattle.mdl_state.specs.declared.Size.{Size}
use Rattle.mdl_state.specs.Bytes.{bit, bytes_of, little, little_bytes}
use Rattle.mdl_dev.specs.declared.disk.Registers.{Registers}
use Rattle.mdl_dev.specs.declared.disk.TheConstants.{DATA_PORT, ERROR_PORT, COUNT_PORT, SECTOR_PORT, CYLINDER_LOW_PORT, CYLINDER_HIGH_PORT, HEAD_PORT, COMMAND_PORT, CONTROL_PORT, RESET, READY, ALL_ONES}
use Rattle.mdl_dev.specs.Disk.{DiskState, Reaction, answers, quietly, dropped, signature}
use Rattle.mdl_dev.specs.DiskTransfer.{data_value, data_read, data_written}
use Rattle.mdl_dev.specs.DiskCommands.{commanded}

-- the disk's ports: 1F0h to 1F7h, and 3F6h
abbrev pub is_disk_port : ℕ → Bool
is_disk_port port = (nat_le DATA_PORT port && nat_le port COMMAND_PORT) || port == CONTROL_PORT

-- status, which is 0 where no drive answers
abbrev pub status_read : DiskState → ℕ
status_read d = if answers d then d.registers.status else 0

-- a register, as a byte reads it
abbrev pub register_read : DiskState → ℕ → ℕ
register_read d port =
    if port == ERROR_PORT then d.registers.error
    else if port == COUNT_PORT then d.registers.count
    else if port == SECTOR_PORT then d.registers.sector
    else if port == CYLINDER_LOW_PORT then d.registers.cylinder_low
    else if port == CYLINDER_HIGH_PORT then d.registers.cylinder_high
    else if port == HEAD_PORT then d.registers.head
    else if port == COMMAND_PORT || port == CONTROL_PORT then status_read d
    else ALL_ONES

-- a byte written to the control register; its bit 2 drops the command, without a raise
abbrev pub controlled : DiskState → ℕ → Reaction
controlled d byte =
    if bit byte RESET then quietly (dropped (record d { registers = signature READY byte }))
    else quietly (record d { registers = record d.registers { control = byte } })

-- the registers that only hold what is written
abbrev pub register_set : Registers → ℕ → ℕ → Registers
register_set r port byte =
    if port == COUNT_PORT then record r { count = byte }
    else if port == SECTOR_PORT then record r { sector = byte }
    else if port == CYLINDER_LOW_PORT then record r { cylinder_low = byte }
    else if port == CYLINDER_HIGH_PORT then record r { cylinder_high = byte }
    else if port == HEAD_PORT then record r { head = byte }
    else r

-- a byte written to a register
unfoldable pub register_written : DiskState → ℕ → ℕ → Reaction
register_written d port byte =
    if port == COMMAND_PORT then commanded d byte
    else if port == CONTROL_PORT then controlled d byte
    else quietly (record d { registers = register_set d.registers port byte })

-- the registers of so many ports, from one on
abbrev pub registers_read : DiskState → ℕ → ℕ → List ℕ
registers_read d port zero = []
registers_read d port (suc count) = register_read d port ∷ registers_read d (port + 1) count

-- what comes of a reaction and one more
abbrev pub followed : Bool → Reaction → Reaction
followed raised r = record { state = r.state; raised = raised || r.raised }

-- bytes written to ports in order, from one on
abbrev pub registers_written : DiskState → ℕ → List ℕ → Reaction
registers_written d port [] = quietly d
registers_written d port (byte ∷ bytes) =
    let first = register_written d port byte in
    followed first.raised (registers_written first.state (port + 1) bytes)

-- the number of a size that the registers give, the lowest byte first
abbrev pub registers_value : DiskState → ℕ → Size → ℕ
registers_value d port size = little (registers_read d port (bytes_of size))

-- a number of a size written to the registers, the lowest byte first
abbrev pub registers_output : DiskState → ℕ → Size → ℕ → Reaction
registers_output d port size value = registers_written d port (little_bytes (bytes_of size) value)

-- the number that a read of a size gives
unfoldable pub disk_value : DiskState → ℕ → Size → ℕ
disk_value d port size =
    if port == DATA_PORT then data_value d size
    else registers_value d port size

-- a read of a size
unfoldable pub disk_input : DiskState → ℕ → Size → Reaction
disk_input d port size = if port == DATA_PORT then data_read d size else quietly d

-- a write of a size
unfoldable pub disk_output : DiskState → ℕ → Size → ℕ → Reaction
disk_output d port size value =
    if port == DATA_PORT then data_written d size value
    else registers_output d port size value
