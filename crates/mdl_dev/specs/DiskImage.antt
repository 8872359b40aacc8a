-- The whole state of the disk as 531 bytes, little endian; the sectors stand apart.
-- Own: The image of the disk.
use Rattle.std.specs.Prelude.{ℕ, ◌/◌, ◌==◌, ◌&&◌, nat_lt, nat_le, Bool, if◌then◌else◌, Option, Some, None, List, [], ◌∷◌, ◌++◌, length, take, drop, slice_index, zero, suc}
use Rattle.std.specs.List.{flat_map}
use Rattle.mdl_state.specs.Bytes.{little, little_bytes, bytes_at}
use Rattle.mdl_dev.specs.declared.disk.Registers.{Registers}
use Rattle.mdl_dev.specs.declared.disk.Geometry.{Geometry}
use Rattle.mdl_dev.specs.declared.disk.Transfer.{Transfer}
use Rattle.mdl_dev.specs.declared.disk.Work.{Work}
use Rattle.mdl_dev.specs.declared.disk.Work.TheVariants.{Nothing, Reading, Writing, Identifying}
use Rattle.mdl_dev.specs.declared.disk.TheConstants.{SECTOR_BYTES}
use Rattle.mdl_dev.specs.Disk.{DiskState}

-- the byte of a command in work
abbrev pub work_byte : Work → ℕ
work_byte Nothing = 0
work_byte Reading = 0x20
work_byte Writing = 0x30
work_byte Identifying = 0xEC

-- the command in work of a byte
abbrev pub work_of : ℕ → Option Work
work_of byte =
    if byte == 0 then Some Nothing
    else if byte == 0x20 then Some Reading
    else if byte == 0x30 then Some Writing
    else if byte == 0xEC then Some Identifying
    else None

abbrev pub registers_image : Registers → List ℕ
registers_image r =
    r.error ∷ r.count ∷ r.sector ∷ r.cylinder_low ∷ r.cylinder_high ∷ r.head
    ∷ r.status ∷ r.control ∷ []

abbrev pub transfer_image : Transfer → List ℕ
transfer_image t =
    work_byte t.work ∷ little_bytes 2 t.left ++ little_bytes 2 t.place ++ little_bytes 4 t.lba

-- the bytes before the block
abbrev pub head_image : Registers → Transfer → Geometry → List ℕ
head_image r t g = registers_image r ++ transfer_image t ++ g.heads ∷ g.sectors ∷ []

-- the image of a disk
unfoldable pub disk_image : DiskState → List ℕ
disk_image d = head_image d.registers d.transfer d.geometry ++ d.block

-- a number of the image
abbrev pub number_in : List ℕ → ℕ → ℕ → ℕ
number_in image at count = little (bytes_at image at count)

abbrev pub registers_in : List ℕ → Registers
registers_in image = record {
  error = slice_index image 0;
  count = slice_index image 1;
  sector = slice_index image 2;
  cylinder_low = slice_index image 3;
  cylinder_high = slice_index image 4;
  head = slice_index image 5;
  status = slice_index image 6;
  control = slice_index image 7;
}

abbrev pub transfer_in : List ℕ → Work → Transfer
transfer_in image work = record {
  work = work;
  left = number_in image 9 2;
  place = number_in image 11 2;
  lba = number_in image 13 4;
}

-- the state that an image tells of, with these sectors and this command in work
abbrev pub told : List ℕ → List (List ℕ) → Work → DiskState
told image sectors work = record {
  registers = registers_in image;
  transfer = transfer_in image work;
  geometry = record { heads = slice_index image 17; sectors = slice_index image 18 };
  block = drop 19 image;
  sectors = sectors;
}

-- a block that moves: there is a drive, and sectors and bytes are left
abbrev pub is_moving : ℕ → ℕ → Transfer → Bool
is_moving total most t =
    nat_lt 0 total && nat_le 1 t.left && nat_le t.left most && nat_lt t.place SECTOR_BYTES

-- the ranges of what is in work, on a disk of so many sectors
abbrev pub is_possible : ℕ → Transfer → Work → Bool
is_possible total t Nothing = t.left == 0 && t.place == 0 && t.lba == 0
is_possible total t Reading = is_moving total 256 t && nat_lt t.lba total
is_possible total t Writing = is_moving total 256 t && nat_lt t.lba total
is_possible total t Identifying = is_moving total 1 t

-- tracks have 1 to 255 sectors, and there are 1 to 16 heads
abbrev pub is_geometry : Geometry → Bool
is_geometry g = nat_le 1 g.heads && nat_le g.heads 16 && nat_le 1 g.sectors

-- the ranges of a disk's state
abbrev pub is_in_range : DiskState → Bool
is_in_range d = is_geometry d.geometry && is_possible (length d.sectors) d.transfer d.transfer.work

-- a state, where its ranges hold
abbrev pub if_in_range : DiskState → Option DiskState
if_in_range d = if is_in_range d then Some d else None

abbrev pub from_work : List ℕ → List (List ℕ) → Option Work → Option DiskState
from_work image sectors None = None
from_work image sectors (Some work) = if_in_range (told image sectors work)

-- the disk of an image and these sectors: none where a range fails
unfoldable pub disk_from_image : List ℕ → List (List ℕ) → Option DiskState
disk_from_image image sectors = from_work image sectors (work_of (slice_index image 8))

-- so many sectors of a list of bytes
abbrev pub sectors_from : ℕ → List ℕ → List (List ℕ)
sectors_from zero bytes = []
sectors_from (suc count) bytes =
    take SECTOR_BYTES bytes ∷ sectors_from count (drop SECTOR_BYTES bytes)

-- the sectors of a list of bytes
unfoldable pub sectors_of : List ℕ → List (List ℕ)
sectors_of bytes = sectors_from (length bytes / SECTOR_BYTES) bytes

-- the bytes of a disk, sector after sector
abbrev pub disk_bytes : DiskState → List ℕ
disk_bytes d = flat_map (λ sector. sector) d.sectors
