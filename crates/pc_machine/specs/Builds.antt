-- Why no machine is made.
use Rattle.std.specs.Prelude.{◌≡◌, ℕ}
use Rattle.mdl_state.specs.Memory.{IsRomLength}
use Rattle.mdl_dev.specs.Disk.{IsDiskLength}
use Rattle.pc_machine.specs.declared.building.BuildError.{BuildError}
use Rattle.pc_machine.specs.declared.building.BuildError.TheVariants.{Memory, RomLength, DiskLength}

-- The error, by the lengths of the ROM and of the disk: the ROM's is looked at first, and memory is wanted
-- only where both are right.
abbrev pub IsRefused : BuildError → ℕ → ℕ → Type 0
IsRefused (RomLength n) rom disk = (n ≡ rom) × ¬ (IsRomLength rom)
IsRefused (DiskLength n) rom disk = (n ≡ disk) × IsRomLength rom × ¬ (IsDiskLength disk)
IsRefused Memory rom disk = IsRomLength rom × IsDiskLength disk
