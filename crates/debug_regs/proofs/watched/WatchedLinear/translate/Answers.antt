use Rattle.std.proofs.Common.{rules, ap, ◌∙◌}
use Rattle.mdl_state.specs.Serving.{Passed}
use Rattle.mdl_state.specs.Watches.{watching}
use Rattle.mdl_state.specs.WatchLaws.{translated_within}
use Rattle.debug_regs.proofs.watched.WatchedLinear.translate.Goals as goal

pub returns-in_err-place-clause-place : goal.returns-in_err-place-clause-place
returns-in_err-place-clause-place g c =
    let same = translated_within g.L.Linear.pick _ _ c.args.self.now.watch.items c.args.self.now.hits c.args.lin c.args.size c.args.access _ c.in_err-place.ensures.place in
    search rules

pub returns-clause-place : goal.returns-clause-place
returns-clause-place g c =
    ap (λ s. (Passed c.in_ok-place.place, watching (g.L.Linear.seen s.inside) s.watch.items s.hits)) c.note.ensures
    ∙ translated_within g.L.Linear.pick _ _ c.args.self.now.watch.items c.args.self.now.hits c.args.lin c.args.size c.args.access _ c.in_ok-place.ensures.place
