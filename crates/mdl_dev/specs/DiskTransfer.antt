-- Sectors that move through the data port. After the ATA standard.
-- Own: A disk that answers at once. Own: Pieces over a sector's end.
-- Own: What ends of commands raise.
use Rattle.std.specs.Prelude.{ℕ, zero, suc, ◌+◌, ◌-◌, ◌/◌, ◌%◌, ◌^◌, ◌==◌, nat_lt, Bool, true, false, if◌then◌else◌, List, [], ◌∷◌, length, slice_index, slice_index_or, slice_set}
use Rattle.mdl_state.specs.declared.Size.{Size}
use Rattle.mdl_state.specs.Bytes.{bytes_of, bound_of, little, little_bytes, with_bytes}
use Rattle.mdl_dev.specs.declared.disk.Work.{Work}
use Rattle.mdl_dev.specs.declared.disk.Work.TheVariants.{Nothing, Reading, Writing, Identifying}
use Rattle.mdl_dev.specs.declared.disk.TheConstants.{DATA_REQUEST, ID_NOT_FOUND, SECTOR_BYTES, ALL_ONES}
use Rattle.mdl_dev.specs.Disk.{DiskState, Reaction, quietly, with_raise, with_status, done, failed}
use Rattle.mdl_dev.specs.DiskAddresses.{showing}

-- a sector by its LBA
abbrev pub sector_at : DiskState → ℕ → List ℕ
sector_at d lba = slice_index_or d.sectors lba []

-- a byte by its place on the disk
abbrev pub disk_byte : DiskState → ℕ → ℕ
disk_byte d at = slice_index (sector_at d (at / SECTOR_BYTES)) (at % SECTOR_BYTES)

-- a sector that is read fills the block; the others leave it
abbrev pub taken_up : Work → ℕ → DiskState → DiskState
taken_up Reading lba d = record d { block = sector_at d lba }
taken_up Writing lba d = d
taken_up Identifying lba d = d
taken_up Nothing lba d = d

-- a sector comes into work, with so many left: the block is offered to the guest, or wanted from it
abbrev pub in_work : Work → ℕ → ℕ → DiskState → DiskState
in_work work left lba d = with_status DATA_REQUEST (record (taken_up work lba d) {
  transfer = record { work = work; left = left; place = 0; lba = lba };
})

-- the count falls by one, and after 0 comes 255
abbrev pub counted : DiskState → DiskState
counted d =
    record d { registers = record d.registers { count = (d.registers.count + 255) % 2 ^ 8 } }

-- After a finished sector comes the next, where some are left, and the registers show it; where the
-- disk has it not, the command fails there.
unfoldable pub after_sector : DiskState → Reaction
after_sector d =
    let left = d.transfer.left - 1 in
    let lba = d.transfer.lba + 1 in
    let next = showing lba (counted d) in
    if left == 0 then done (counted d)
    else if nat_lt lba (length d.sectors) then with_raise (in_work d.transfer.work left lba next)
    else failed ID_NOT_FOUND next

-- the block becomes the sector in work
abbrev pub stored : DiskState → DiskState
stored d = record d { sectors = slice_set d.sectors d.transfer.lba d.block }

-- the block's last byte has moved
unfoldable pub block_ended : Work → DiskState → Reaction
block_ended Reading d = after_sector d
block_ended Writing d = after_sector (stored d)
block_ended Identifying d = done d
block_ended Nothing d = quietly d

-- so many bytes have moved
abbrev pub moved : ℕ → DiskState → Reaction
moved count d =
    let place = d.transfer.place + count in
    let further = record d { transfer = record d.transfer { place = place } } in
    if nat_lt place SECTOR_BYTES then quietly further else block_ended d.transfer.work d

-- a byte of the block; one behind its end reads all ones
abbrev pub block_byte : List ℕ → ℕ → ℕ
block_byte block at = if nat_lt at SECTOR_BYTES then slice_index block at else ALL_ONES

-- so many bytes of the block, from a place on
abbrev pub block_bytes : List ℕ → ℕ → ℕ → List ℕ
block_bytes block at zero = []
block_bytes block at (suc count) = block_byte block at ∷ block_bytes block (at + 1) count

-- a block is offered to the guest
abbrev pub offers : Work → Bool
offers Reading = true
offers Identifying = true
offers Writing = false
offers Nothing = false

-- a block is wanted from the guest
abbrev pub wants : Work → Bool
wants Writing = true
wants Reading = false
wants Identifying = false
wants Nothing = false

-- the number that the data port gives
abbrev pub data_value : DiskState → Size → ℕ
data_value d size =
    if offers d.transfer.work then little (block_bytes d.block d.transfer.place (bytes_of size))
    else bound_of size - 1

-- a read of the data port
abbrev pub data_read : DiskState → Size → Reaction
data_read d size = if offers d.transfer.work then moved (bytes_of size) d else quietly d

-- the block with a number's bytes from the place on; those behind its end are lost
abbrev pub filled : ℕ → Size → DiskState → DiskState
filled value size d =
    let bytes = little_bytes (bytes_of size) value in
    record d { block = with_bytes d.block d.transfer.place bytes }

-- a write to the data port
abbrev pub data_written : DiskState → Size → ℕ → Reaction
data_written d size value =
    if wants d.transfer.work then moved (bytes_of size) (filled value size d) else quietly d
