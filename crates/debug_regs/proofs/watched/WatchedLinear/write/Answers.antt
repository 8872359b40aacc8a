use Rattle.std.proofs.Common.{rules, ap, ◌∙◌}
use Rattle.mdl_state.specs.Serving.{Passed}
use Rattle.mdl_state.specs.Watches.{watching}
use Rattle.mdl_state.specs.WatchLaws.{written_within}
use Rattle.debug_regs.proofs.watched.WatchedLinear.write.Goals as goal

pub returns-in_err-write-clause-done : goal.returns-in_err-write-clause-done
returns-in_err-write-clause-done g c =
    let same = written_within g.L.Linear.pick _ _ c.args.self.now.watch.items c.args.self.now.hits c.args.lin c.args.size c.args.value c.args.who _ c.in_err-write.ensures.done in
    search rules

pub returns-clause-done : goal.returns-clause-done
returns-clause-done g c =
    ap (λ s. (Passed tt, watching (g.L.Linear.seen s.inside) s.watch.items s.hits)) c.note.ensures
    ∙ written_within g.L.Linear.pick _ _ c.args.self.now.watch.items c.args.self.now.hits c.args.lin c.args.size c.args.value c.args.who _ c.in_ok-write.ensures.done
