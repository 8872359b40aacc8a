use Rattle.std.proofs.Common.{ℕ, [], refl, ap, ◌∙◌}
use Rattle.std.specs.FinMap.{empty}
use Rattle.mdl_state.specs.State.{Mem}
use Rattle.mdl_state.specs.Serving.{outcome, by_pick}
use Rattle.mdl_state.specs.Policy.{plain_item}
use Rattle.tlb.proofs.Serving.{serving}
use Rattle.tlb.proofs.machine.Tlb.serve.Goals as goal

pub returns-clause-serve : goal.returns-clause-serve
returns-clause-serve c =
    let m : Mem = record { physical = c.self.inside.phys; paging = c.self.inside.paging; cr3 = c.self.inside.cr3; cache = empty; held = c.self.inside.held; walks = c.self.inside.walks; served = []; watch = []; hits = 0 } in
    ap (λ (walks : ℕ). (outcome c.walk-entry.result, record m { physical = c.walk-entry.new.phys; walks = walks })) c.saturating_add-self-inside.ensures
    ∙ serving m c.args.lin c.args.access c.walk-entry.result c.walk-entry.new.phys c.walk-entry.ensures.walk refl
    ∙ ap (λ (n : Mem). by_pick plain_item n c.args.lin c.args.access) c.self.view_is
