use Rattle.std.proofs.Common.{ap, ◌∙◌}
use Rattle.std.specs.FinMap.{empty}
use Rattle.mdl_state.specs.State.{Mem}
use Rattle.mdl_state.specs.Accesses.{with_a20}
use Rattle.mdl_state.specs.Watches.{watching}
use Rattle.operands.specs.Whole.{whole}
use Rattle.cpu_core.proofs.Arriving.{reset_ready}
use Rattle.cpu_core.proofs.cpu.Cpu.reset.Goals as goal

pub invariant_of-self : goal.invariant_of-self
invariant_of-self g c =
    let inside = c.self.inside in
    reset_ready c.reset_regs-self-inside.result (whole inside.regs inside.flags) c.unpack-self-inside.result c.a20.result (watching (g.L.Linear.seen inside.code.inside.lin) inside.code.watch.items inside.code.hits) (watching (g.L.Linear.seen c.set_a20.new.self.inside.lin) c.set_a20.new.self.watch.items c.set_a20.new.self.hits)
    c.reset_regs-self-inside.ensures c.unpack-self-inside.ensures c.self.invariant
    (c.set_a20.ensures ∙ ap (λ (k : Mem). with_a20 c.a20.result k) (c.load_cr3.ensures ∙ ap (λ (k : Mem). record k { cr3 = 0; cache = empty }) c.set_paging.ensures))
