-- Which sector the address registers name, and how they show one. After the ATA standard.
-- Own: The registers show the sector in work.
use Rattle.std.specs.Prelude.{ℕ, ◌+◌, ◌-◌, ◌*◌, ◌/◌, ◌%◌, ◌^◌, ◌&&◌, nat_lt, nat_le, Bool, if◌then◌else◌, Option, Some, None, length}
use Rattle.mdl_state.specs.Bytes.{bit}
use Rattle.mdl_dev.specs.declared.disk.Registers.{Registers}
use Rattle.mdl_dev.specs.declared.disk.Geometry.{Geometry}
use Rattle.mdl_dev.specs.declared.disk.TheConstants.{LBA_MODE}
use Rattle.mdl_dev.specs.Disk.{DiskState}

-- the low four bits of the drive and head register
abbrev pub head_of : Registers → ℕ
head_of r = r.head % 16

abbrev pub cylinder_of : Registers → ℕ
cylinder_of r = r.cylinder_low + 2 ^ 8 * r.cylinder_high

-- the registers as an LBA of 28 bits
abbrev pub as_lba : Registers → ℕ
as_lba r = r.sector + 2 ^ 8 * r.cylinder_low + 2 ^ 16 * r.cylinder_high + 2 ^ 24 * head_of r

-- the registers as cylinder, head and sector
abbrev pub as_chs : Geometry → Registers → ℕ
as_chs g r = (cylinder_of r * g.heads + head_of r) * g.sectors + r.sector - 1

-- sectors count from 1 on, heads from 0 on
abbrev pub is_in_geometry : Geometry → Registers → Bool
is_in_geometry g r = nat_le 1 r.sector && nat_le r.sector g.sectors && nat_lt (head_of r) g.heads

-- a number below so many sectors
abbrev pub below : ℕ → ℕ → Option ℕ
below total lba = if nat_lt lba total then Some lba else None

-- the sector that the registers name, of so many
abbrev pub addressed : ℕ → Geometry → Registers → Option ℕ
addressed total g r =
    if bit r.head LBA_MODE then below total (as_lba r)
    else if is_in_geometry g r then below total (as_chs g r)
    else None

-- the drive and head register with other low four bits
abbrev pub with_head : Registers → ℕ → ℕ
with_head r head = r.head / 16 * 16 + head

-- the registers show a sector by its LBA
abbrev pub shown_as_lba : ℕ → Registers → Registers
shown_as_lba lba r = record r {
  sector = lba % 2 ^ 8;
  cylinder_low = lba / 2 ^ 8 % 2 ^ 8;
  cylinder_high = lba / 2 ^ 16 % 2 ^ 8;
  head = with_head r (lba / 2 ^ 24 % 16);
}

-- the registers show a sector by its cylinder, modulo 65,536, its head and its sector
abbrev pub shown_as_chs : Geometry → ℕ → Registers → Registers
shown_as_chs g lba r =
    let track = lba / g.sectors in
    record r {
      sector = lba % g.sectors + 1;
      cylinder_low = track / g.heads % 2 ^ 8;
      cylinder_high = track / g.heads / 2 ^ 8 % 2 ^ 8;
      head = with_head r (track % g.heads);
    }

-- the registers show a sector in the form that bit 6 of the drive and head register asks for
unfoldable pub shown : Geometry → ℕ → Registers → Registers
shown g lba r = if bit r.head LBA_MODE then shown_as_lba lba r else shown_as_chs g lba r

-- the sector that a disk's registers name
abbrev pub address : DiskState → Option ℕ
address d = addressed (length d.sectors) d.geometry d.registers

-- a disk whose registers show a sector
abbrev pub showing : ℕ → DiskState → DiskState
showing lba d = record d { registers = shown d.geometry lba d.registers }
