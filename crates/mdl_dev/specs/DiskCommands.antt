-- What a command does. After the ATA standard.
-- Own: A disk that answers at once. Own: What ends of commands raise.
-- Own: A command in place of another.
use Rattle.std.specs.Prelude.{ℕ, zero, suc, ◌+◌, ◌==◌, ◌||◌, nat_lt, Bool, if◌then◌else◌, Option, Some, None, length}
use Rattle.mdl_dev.specs.declared.disk.Registers.{Registers}
use Rattle.mdl_dev.specs.declared.disk.Command.{Command}
use Rattle.mdl_dev.specs.declared.disk.Command.TheVariants.{Recalibrate, ReadSectors, WriteSectors, VerifySectors, Diagnose, InitializeParameters, IdentifyDrive, FlushCache}
use Rattle.mdl_dev.specs.declared.disk.Work.TheVariants.{Reading, Writing, Identifying}
use Rattle.mdl_dev.specs.declared.disk.TheConstants.{ABORTED, ID_NOT_FOUND}
use Rattle.mdl_dev.specs.Disk.{DiskState, Reaction, answers, quietly, with_raise, done, failed, dropped, signature}
use Rattle.mdl_dev.specs.DiskAddresses.{address, head_of, showing}
use Rattle.mdl_dev.specs.DiskTransfer.{in_work, counted}
use Rattle.mdl_dev.specs.DiskIdentify.{identity}

-- the command of a byte
abbrev pub command_of : ℕ → Option Command
command_of byte =
    if byte == 0x10 then Some Recalibrate
    else if byte == 0x20 || byte == 0x21 then Some ReadSectors
    else if byte == 0x30 || byte == 0x31 then Some WriteSectors
    else if byte == 0x40 || byte == 0x41 then Some VerifySectors
    else if byte == 0x90 then Some Diagnose
    else if byte == 0x91 then Some InitializeParameters
    else if byte == 0xEC then Some IdentifyDrive
    else if byte == 0xE7 then Some FlushCache
    else None

-- how many sectors a command is for: 0 means 256
abbrev pub sectors_asked : Registers → ℕ
sectors_asked r = if r.count == 0 then 256 else r.count

-- a command on the sector that the registers name, which has to be there
abbrev pub on_sector : (ℕ → DiskState → Reaction) → DiskState → Option ℕ → Reaction
on_sector action d (Some lba) = action lba d
on_sector action d None = failed ID_NOT_FOUND d

-- the first sector is offered, with a raise
abbrev pub read_sectors : ℕ → DiskState → Reaction
read_sectors lba d = with_raise (in_work Reading (sectors_asked d.registers) lba d)

-- the first sector is wanted, without a raise
abbrev pub write_sectors : ℕ → DiskState → Reaction
write_sectors lba d = quietly (in_work Writing (sectors_asked d.registers) lba d)

-- sectors are tested one after another, up to the first that the disk has not
unfoldable pub verified : ℕ → ℕ → DiskState → Reaction
verified zero lba d = done d
verified (suc left) lba d =
    if nat_lt lba (length d.sectors) then verified left (lba + 1) (counted (showing lba d))
    else failed ID_NOT_FOUND (showing lba d)

abbrev pub verify_sectors : ℕ → DiskState → Reaction
verify_sectors lba d = verified (sectors_asked d.registers) lba d

-- the geometry of the registers: sectors of a track in the count, the last head in the head; no
-- track has 0 sectors
abbrev pub initialized : DiskState → Reaction
initialized d =
    let count = d.registers.count in
    if count == 0 then failed ABORTED d
    else done (record d { geometry = record { heads = head_of d.registers + 1; sectors = count } })

-- the registers tell of no fault
abbrev pub diagnosed : DiskState → Reaction
diagnosed d = done (record d { registers = signature d.registers.status d.registers.control })

-- the identify block is offered as a sector; count and address stay
abbrev pub identified : DiskState → Reaction
identified d = with_raise (in_work Identifying 1 0 (record d { block = identity d }))

-- what a command does when nothing is in work
abbrev pub obeyed : Option Command → DiskState → Reaction
obeyed (Some Recalibrate) d = done d
obeyed (Some ReadSectors) d = on_sector read_sectors d (address d)
obeyed (Some WriteSectors) d = on_sector write_sectors d (address d)
obeyed (Some VerifySectors) d = on_sector verify_sectors d (address d)
obeyed (Some Diagnose) d = diagnosed d
obeyed (Some InitializeParameters) d = initialized d
obeyed (Some IdentifyDrive) d = identified d
obeyed (Some FlushCache) d = done d
obeyed None d = failed ABORTED d

-- a diagnosis is made also where no drive answers
abbrev pub is_diagnosis : ℕ → Bool
is_diagnosis byte = byte == 0x90

-- a byte written to the command register; it takes the place of what is in work
abbrev pub commanded : DiskState → ℕ → Reaction
commanded d byte =
    if answers d || is_diagnosis byte then obeyed (command_of byte) (dropped d)
    else quietly d
