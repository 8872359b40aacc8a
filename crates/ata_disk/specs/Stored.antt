-- What becomes of the sectors.
use Rattle.std.specs.Prelude.{ℕ, ◌+◌, ◌==◌, ◌&&◌, nat_le, Bool, if◌then◌else◌, List, slice_set}
use Rattle.mdl_state.specs.declared.Size.{Size}
use Rattle.mdl_state.specs.Bytes.{bytes_of}
use Rattle.mdl_dev.specs.declared.disk.TheConstants.{DATA_PORT, SECTOR_BYTES}
use Rattle.mdl_dev.specs.Disk.{DiskState}
use Rattle.mdl_dev.specs.DiskTransfer.{wants, filled}

-- a write to the data port moves the last byte of a block that is wanted
abbrev pub completes : DiskState → ℕ → Size → Bool
completes d port size =
    let place = d.transfer.place + bytes_of size in
    port == DATA_PORT && wants d.transfer.work && nat_le SECTOR_BYTES place

-- the sectors after a write: where it completes a block, the sector in work is that block
unfoldable pub sectors_after : DiskState → ℕ → Size → ℕ → List (List ℕ)
sectors_after d port size value =
    if completes d port size then slice_set d.sectors d.transfer.lba (filled value size d).block
    else d.sectors
