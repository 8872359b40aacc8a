-- The count after several sectors.
use Rattle.std.specs.Prelude.{ℕ, ◌+◌, ◌-◌, ◌%◌}
use Rattle.mdl_dev.specs.Disk.{DiskState}

-- the count falls by so many, at most 256
abbrev pub counted_by : ℕ → DiskState → DiskState
counted_by sectors d =
    let count = (256 + d.registers.count - sectors) % 256 in
    record d { registers = record d.registers { count = count } }
