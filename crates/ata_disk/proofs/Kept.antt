-- What each access does with the sectors.
use Rattle.std.specs.Prelude.{ℕ, zero, suc, ◌≡◌, ◌≢◌, ◌+◌, ◌-◌, ◌==◌, ◌&&◌, ◌||◌, not, nat_lt, nat_le, Bool, true, false, if◌then◌else◌, refl, Option, Some, None, List, [], ◌∷◌, length, slice_set}
use Rattle.std.proofs.Common.{arith, ◌∙◌}
use Rattle.mdl_state.specs.declared.Size.{Size}
use Rattle.mdl_state.specs.Bytes.{bit, bytes_of, little_bytes}
use Rattle.mdl_dev.specs.declared.disk.Work.{Work}
use Rattle.mdl_dev.specs.declared.disk.Work.TheVariants.{Nothing, Reading, Writing, Identifying}
use Rattle.mdl_dev.specs.declared.disk.Command.{Command}
use Rattle.mdl_dev.specs.declared.disk.Command.TheVariants.{Recalibrate, ReadSectors, WriteSectors, VerifySectors, Diagnose, InitializeParameters, IdentifyDrive, FlushCache}
use Rattle.mdl_dev.specs.declared.disk.TheConstants.{DATA_PORT, COMMAND_PORT, CONTROL_PORT, RESET, SECTOR_BYTES}
use Rattle.mdl_dev.specs.Disk.{DiskState, Reaction, answers, dropped}
use Rattle.mdl_dev.specs.DiskAddresses.{address, showing}
use Rattle.mdl_dev.specs.DiskTransfer.{in_work, counted, after_sector, stored, block_ended, moved, offers, wants, filled, data_read, data_written}
use Rattle.mdl_dev.specs.DiskCommands.{on_sector, read_sectors, write_sectors, verify_sectors, verified, obeyed, command_of, is_diagnosis, commanded, sectors_asked}
use Rattle.mdl_dev.specs.DiskPorts.{register_written, registers_written}
use Rattle.ata_disk.specs.Stored.{sectors_after}

-- a reaction leaves these sectors
abbrev Leaves : List (List ℕ) → Reaction → Type 0
Leaves sectors r = r.state.sectors ≡ sectors

either : (sectors : List (List ℕ)) (b : Bool) (x y : Reaction) → Leaves sectors x → Leaves sectors y → Leaves sectors (if b then x else y)
either sectors true x y p q = p
either sectors false x y p q = q

in_work_leaves : (work : Work) (left lba : ℕ) (d : DiskState) → (in_work work left lba d).sectors ≡ d.sectors
in_work_leaves Nothing left lba d = refl
in_work_leaves Reading left lba d = refl
in_work_leaves Writing left lba d = refl
in_work_leaves Identifying left lba d = refl

after_sector_leaves : (d : DiskState) → Leaves d.sectors (after_sector d)
unfolding after_sector
after_sector_leaves d =
    either d.sectors (d.transfer.left - 1 == 0) _ _ refl (either d.sectors (nat_lt (d.transfer.lba + 1) (length d.sectors)) _ _ (in_work_leaves d.transfer.work (d.transfer.left - 1) (d.transfer.lba + 1) (showing (d.transfer.lba + 1) (counted d))) refl)

-- commands

verified_leaves : (left lba : ℕ) (d : DiskState) → Leaves d.sectors (verified left lba d)
unfolding verified
verified_leaves zero lba d = refl
verified_leaves (suc left) lba d = either d.sectors (nat_lt lba (length d.sectors)) _ _ (verified_leaves left (lba + 1) (counted (showing lba d))) refl

on_sector_leaves : (action : ℕ → DiskState → Reaction) → ((lba : ℕ) (d : DiskState) → Leaves d.sectors (action lba d)) → (d : DiskState) (o : Option ℕ) → Leaves d.sectors (on_sector action d o)
on_sector_leaves action p d None = refl
on_sector_leaves action p d (Some lba) = p lba d

obeyed_leaves : (c : Option Command) (d : DiskState) → Leaves d.sectors (obeyed c d)
obeyed_leaves None d = refl
obeyed_leaves (Some Recalibrate) d = refl
obeyed_leaves (Some ReadSectors) d = on_sector_leaves read_sectors (λ lba e. refl) d (address d)
obeyed_leaves (Some WriteSectors) d = on_sector_leaves write_sectors (λ lba e. refl) d (address d)
obeyed_leaves (Some VerifySectors) d = on_sector_leaves verify_sectors (λ lba e. verified_leaves (sectors_asked e.registers) lba e) d (address d)
obeyed_leaves (Some Diagnose) d = refl
obeyed_leaves (Some InitializeParameters) d = either d.sectors (d.registers.count == 0) _ _ refl refl
obeyed_leaves (Some IdentifyDrive) d = refl
obeyed_leaves (Some FlushCache) d = refl

commanded_leaves : (d : DiskState) (byte : ℕ) → Leaves d.sectors (commanded d byte)
commanded_leaves d byte = either d.sectors (answers d || is_diagnosis byte) _ _ (obeyed_leaves (command_of byte) (dropped d)) refl

-- registers

register_leaves : (d : DiskState) (port byte : ℕ) → Leaves d.sectors (register_written d port byte)
unfolding register_written
register_leaves d port byte =
    either d.sectors (port == COMMAND_PORT) _ _ (commanded_leaves d byte)
    (either d.sectors (port == CONTROL_PORT) _ _ (either d.sectors (bit byte RESET) _ _ refl refl) refl)

registers_leave : (d : DiskState) (port : ℕ) (bytes : List ℕ) → Leaves d.sectors (registers_written d port bytes)
registers_leave d port [] = refl
registers_leave d port (byte ∷ bytes) = registers_leave (register_written d port byte).state (port + 1) bytes ∙ register_leaves d port byte

-- the data port

ended_leaves : (work : Work) (d : DiskState) → offers work ≡ true → Leaves d.sectors (block_ended work d)
unfolding block_ended
ended_leaves Reading d h = after_sector_leaves d
ended_leaves Identifying d h = refl
ended_leaves Writing d h = absurd (cc)
ended_leaves Nothing d h = refl

read_by : (b : Bool) (d : DiskState) (size : Size) → offers d.transfer.work ≡ b → Leaves d.sectors (if b then moved (bytes_of size) d else record { state = d; raised = false })
read_by true d size h = either d.sectors (nat_lt (d.transfer.place + bytes_of size) SECTOR_BYTES) _ _ refl (ended_leaves d.transfer.work d h)
read_by false d size h = refl

pub read_leaves : (d : DiskState) (size : Size) → (data_read d size).state.sectors ≡ d.sectors
read_leaves d size = read_by (offers d.transfer.work) d size refl

ended_stores : (work : Work) (d : DiskState) → wants work ≡ true → Leaves (slice_set d.sectors d.transfer.lba d.block) (block_ended work d)
unfolding block_ended
ended_stores Writing d h = after_sector_leaves (stored d)
ended_stores Reading d h = absurd (cc)
ended_stores Identifying d h = absurd (cc)
ended_stores Nothing d h = absurd (cc)

by_place : (b : Bool) (sectors : List (List ℕ)) (d : DiskState) (x y : Reaction) → Leaves d.sectors x → Leaves sectors y → Leaves (if not b then sectors else d.sectors) (if b then x else y)
by_place true sectors d x y p q = p
by_place false sectors d x y p q = q

at_least : (a b : ℕ) → nat_le a b ≡ not (nat_lt b a)
at_least a b = grind arith

written_by : (b : Bool) (d : DiskState) (size : Size) (value : ℕ) → wants d.transfer.work ≡ b →
    Leaves (if b && nat_le SECTOR_BYTES (d.transfer.place + bytes_of size) then slice_set d.sectors d.transfer.lba (filled value size d).block else d.sectors)
    (if b then moved (bytes_of size) (filled value size d) else record { state = d; raised = false })
written_by true d size value h =
    rw (at_least SECTOR_BYTES (d.transfer.place + bytes_of size)) (by_place (nat_lt (d.transfer.place + bytes_of size) SECTOR_BYTES) _ d _ _ refl (ended_stores d.transfer.work (filled value size d) h))
written_by false d size value h = refl

-- a write to the data port stores a block that it completes
pub written_stores : (d : DiskState) (port : ℕ) (size : Size) (value : ℕ) → port ≡ DATA_PORT → (data_written d size value).state.sectors ≡ sectors_after d port size value
unfolding sectors_after
written_stores d port size value e = rw e (written_by (wants d.transfer.work) d size value refl)

-- one to another port stores nothing
pub others_leave : (d : DiskState) (port : ℕ) (size : Size) (value : ℕ) → port ≢ DATA_PORT → (registers_written d port (little_bytes (bytes_of size) value)).state.sectors ≡ sectors_after d port size value
unfolding sectors_after
others_leave d port size value e = let test : (port == DATA_PORT) ≡ false = grind arith in rw test (registers_leave d port (little_bytes (bytes_of size) value))
