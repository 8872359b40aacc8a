use Rattle.std.proofs.Common.{arith}
use Rattle.ata_disk.proofs.IdentifyLaws.{identified_whole}
use Rattle.ata_disk.proofs.identify.identify.Goals as goal

-- src/identify.rt:72:1
pub returns : goal.returns
returns c = identified_whole c.args.geometry c.args.total c.loop-n.n c.loop-n.block c.loop-n.invariant.0 (omega arith) c.loop-n.invariant.1
