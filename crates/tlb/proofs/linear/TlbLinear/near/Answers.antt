use Rattle.std.proofs.Common.{◌+◌, sym, ap, ◌∙◌, arith}
use Rattle.mdl_state.specs.State.{Mem}
use Rattle.mdl_state.specs.Memory.{byte_at}
use Rattle.mdl_state.specs.Serving.{by_pick}
use Rattle.mdl_state.specs.Policy.{plain_item}
use Rattle.tlb.proofs.Direct.{near_read}
use Rattle.tlb.proofs.linear.TlbLinear.near.Goals as goal

pub returns-then-is_near : goal.returns-then-is_near
returns-then-is_near c = λ i small.
    let m = c.args.self.now in
    let near = c.if-is_near.ensures in
    near_read (by_pick plain_item) m c.args.lin c.args._who c.load_eight.result near.paging (ap (λ (k : Mem). k.watch) (sym c.self.view_is)) near.held (omega (arith, near.low))
    (λ j below. ap (λ (k : Mem). byte_at k.physical (c.args.lin + j)) (sym c.self.view_is) ∙ c.load_eight.ensures j below) i small
