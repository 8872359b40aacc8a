use Rattle.std.proofs.Common.{rules, ◌∙◌}
use Rattle.tlb.proofs.Holding.{put_more}
use Rattle.tlb.proofs.writes.put_all.Goals as goal

pub loop-i-preserved : goal.loop-i-preserved
loop-i-preserved c = record {
  placed = put_more c.args.writes.now c.loop-i.i _ c.loop-i.phys c.put.new.phys c.loop-i-test.true c.put.ensures.placed ∙ c.loop-i.invariant.placed;
  keeps = search rules;
}
