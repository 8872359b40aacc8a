use Rattle.std.proofs.Common.{length, sym, ◌∙◌}
use Rattle.std.proofs.lemmas.Bool.{eqb-true}
use Rattle.debug_regs.proofs.Watching.{near_beside}
use Rattle.debug_regs.proofs.watched.WatchedLinear.near.Goals as goal

pub returns-then-is_empty : goal.returns-then-is_empty
returns-then-is_empty g c = near_beside g.L.Linear.pick (g.L.Linear.seen c.args.self.now.inside) c.args.self.now.watch.items c.args.self.now.hits c.args.lin c.args.who c.near.result
    (eqb-true (length c.args.self.now.watch.items) 0 (sym c.is_empty.ensures ∙ c.if-is_empty.true)) c.near.ensures
