use Rattle.std.proofs.Common.{◌+◌, ◌%◌, ◌^◌, refl, ap, arith}
use Rattle.mdl_state.specs.declared.Hidden.{Hidden}
use Rattle.cpu_core.proofs.Eights.{eight_at}
use Rattle.cpu_core.proofs.code.Code.eight.Goals as goal

pub returns-in-Some : goal.returns-in-Some
returns-in-Some g c =
    let code = c.segment-code.result in
    eight_at g.L.Linear.pick c.args.regs.now (g.L.Linear.seen c.args.self.now.lin) c.in-Some.word code.base ((code.base + c.args.regs.now.eip) % 2 ^ 32) c.who.result
    (ap (λ (h : Hidden). h.base) c.segment-code.ensures) refl c.who.ensures (omega (arith, ap (λ (h : Hidden). h.limit) c.segment-code.ensures, c.if-regs-code.false)) c.in-Some.ensures
