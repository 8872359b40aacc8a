use Rattle.std.proofs.Common.{◌∙◌}
use Rattle.tlb.proofs.Holding.{newest_more}
use Rattle.tlb.proofs.writes.newest_of.Goals as goal

pub loop-write-preserved : goal.loop-write-preserved
loop-write-preserved c =
    newest_more c.args.phys.now.a20 c.args.writes.now c.loop-write.write-index _ c.args.out c.loop-write.byte c.newest-byte.result c.loop-write-test.true c.newest-byte.ensures
    ∙ c.loop-write.invariant
