use Rattle.std.proofs.Common.{◌<◌, arith, sym, ap, ◌∙◌}
use Rattle.mdl_state.specs.State.{Mem}
use Rattle.mdl_state.specs.Serving.{by_pick}
use Rattle.mdl_state.specs.Policy.{plain_item}
use Rattle.tlb.proofs.Direct.{ahead_read}
use Rattle.tlb.proofs.machine.Tlb.ahead.Goals as goal

pub returns : goal.returns
returns c =
    let m = c.args.self.now in
    let inside = c.self.inside in
    let some : 0 < inside.direct = omega (arith, c.if-self-eq0.false) in
    ahead_read (by_pick plain_item) m c.self.inside.phys c.args.lin c.eight_in_page.result (ap (λ (k : Mem). k.paging) (sym c.self.view_is) ∙ c.self.invariant.unpaged some) (ap (λ (k : Mem). k.watch) (sym c.self.view_is)) (ap (λ (k : Mem). k.held) (sym c.self.view_is) ∙ c.self.invariant.empty some)
    (ap (λ (k : Mem). k.physical) (sym c.self.view_is)) c.eight_in_page.ensures.within c.eight_in_page.ensures.bytes
