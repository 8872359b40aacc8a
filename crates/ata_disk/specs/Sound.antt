-- What always holds of a disk.
use Rattle.std.specs.Prelude.{ℕ, Bool, true, false, ◌≡◌, ◌≤◌, ◌<◌, ◌/◌, List, length}
use Rattle.mdl_dev.specs.declared.disk.Registers.{Registers}
use Rattle.mdl_dev.specs.declared.disk.Geometry.{Geometry}
use Rattle.mdl_dev.specs.declared.disk.Transfer.{Transfer}
use Rattle.mdl_dev.specs.declared.disk.Work.{Work}
use Rattle.mdl_dev.specs.declared.disk.Work.TheVariants.{Nothing, Reading, Writing, Identifying}
use Rattle.mdl_dev.specs.declared.disk.TheConstants.{SECTOR_BYTES}
use Rattle.mdl_dev.specs.Disk.{DiskState, IsDiskLength}
use Rattle.mdl_dev.specs.DiskImage.{sectors_of}

-- a block moves: there is a drive, and sectors and bytes are left
pub record IsMoving (total most : ℕ) (t : Transfer) : Type 0 where
  pub drive : 0 < total
  pub some : 1 ≤ t.left
  pub left : t.left ≤ most
  pub place : t.place < SECTOR_BYTES

-- the same, of a sector that the disk has
pub record IsOnSector (total : ℕ) (t : Transfer) : Type 0 where
  pub moving : IsMoving total 256 t
  pub there : t.lba < total

-- nothing is in work
pub record IsIdle (t : Transfer) : Type 0 where
  pub left : t.left ≡ 0
  pub place : t.place ≡ 0
  pub lba : t.lba ≡ 0

-- sectors of the disk move
abbrev pub moves_sectors : Work → Bool
moves_sectors Reading = true
moves_sectors Writing = true
moves_sectors Identifying = false
moves_sectors Nothing = false

-- what is in work can be, on a disk of so many sectors
abbrev pub IsPossible : ℕ → Transfer → Work → Type 0
IsPossible total t Nothing = IsIdle t
IsPossible total t Reading = IsOnSector total t
IsPossible total t Writing = IsOnSector total t
IsPossible total t Identifying = IsMoving total 1 t

-- a sector can come into work, with so many left
abbrev pub CanBegin : ℕ → Work → ℕ → ℕ → Type 0
CanBegin total work left lba =
    IsPossible total (record { work = work; left = left; place = 0; lba = lba }) work

-- what a disk of these parts is seen as
abbrev pub seen : Registers → Geometry → Transfer → List ℕ → List ℕ → DiskState
seen registers geometry transfer block bytes = record {
  registers = registers;
  geometry = geometry;
  transfer = transfer;
  block = block;
  sectors = sectors_of bytes;
}

-- heads and sectors of a track are in their ranges, what is in work can be, and so can the length
pub record IsSound (g : Geometry) (t : Transfer) (bytes : List ℕ) : Type 0 where
  pub some_heads : 1 ≤ g.heads
  pub heads : g.heads ≤ 16
  pub sectors : 1 ≤ g.sectors
  pub transfer : IsPossible (length bytes / SECTOR_BYTES) t t.work
  pub size : IsDiskLength (length bytes)
