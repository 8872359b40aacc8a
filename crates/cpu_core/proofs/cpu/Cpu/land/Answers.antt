use Rattle.std.proofs.Common.{sym, subst}
use Rattle.mdl_state.specs.declared.Regs.{Regs}
use Rattle.mdl_state.specs.Watches.{watching}
use Rattle.operands.specs.Whole.{whole}
use Rattle.cpu_core.specs.Plain.{IsReady}
use Rattle.cpu_core.proofs.Arriving.{landed_ready}
use Rattle.cpu_core.proofs.cpu.Cpu.land.Goals as goal

pub invariant_of-self : goal.invariant_of-self
invariant_of-self g c =
    let inside = c.self.inside in
    let m = watching (g.L.Linear.seen inside.code.inside.lin) inside.code.watch.items inside.code.hits in
    subst (λ (r : Regs). IsReady r m) (sym (c.land.ensures inside.flags)) (landed_ready c.args.op c.args.next (whole inside.regs inside.flags) c.args.back m c.self.invariant)
