use Rattle.std.proofs.Common.{rules, ap, ◌∙◌}
use Rattle.mdl_state.specs.Serving.{Passed}
use Rattle.mdl_state.specs.Watches.{watching}
use Rattle.mdl_state.specs.WatchLaws.{read_within}
use Rattle.debug_regs.proofs.watched.WatchedLinear.read.Goals as goal

pub returns-in_err-value-clause-value : goal.returns-in_err-value-clause-value
returns-in_err-value-clause-value g c =
    let same = read_within g.L.Linear.pick _ _ c.args.self.now.watch.items c.args.self.now.hits c.args.lin c.args.size c.args.who _ c.in_err-value.ensures.value in
    search rules

pub returns-clause-value : goal.returns-clause-value
returns-clause-value g c =
    ap (λ s. (Passed c.in_ok-value.value, watching (g.L.Linear.seen s.inside) s.watch.items s.hits)) c.note.ensures
    ∙ read_within g.L.Linear.pick _ _ c.args.self.now.watch.items c.args.self.now.hits c.args.lin c.args.size c.args.who _ c.in_ok-value.ensures.value
