use Rattle.std.proofs.Common.{◌≡◌, ◌*◌, length, take}
use Rattle.mdl_dev.specs.DiskIdentify.{identify_from}
use Rattle.ata_disk.proofs.identify.identify.Given as goal

-- the words so far stand at the front
abbrev pub invariant-loop-n : goal.invariant-loop-n
invariant-loop-n l = (length l.block ≡ 512) × (take (2 * l.n) l.block ≡ identify_from l.geometry l.total 0 l.n)
