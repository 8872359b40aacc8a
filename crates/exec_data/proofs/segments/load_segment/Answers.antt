use Rattle.mdl_state.specs.Serving.{by_pick}
use Rattle.exec_data.proofs.Loads.{load_packed}
use Rattle.exec_data.proofs.segments.load_segment.Goals as goal

pub returns-clause-run : goal.returns-clause-run
returns-clause-run g c = λ F. load_packed (by_pick g.L.Linear.pick) c.load_segment.result c.args.regs.now c.load_segment.new.regs F c.args.seg c.args.sel
    (g.L.Linear.seen c.args.lin.now) (g.L.Linear.seen c.load_segment.new.lin) c.load_segment.ensures.run
