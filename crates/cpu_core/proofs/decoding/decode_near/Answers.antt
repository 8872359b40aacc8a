use Rattle.std.proofs.Common.{sym}
use Rattle.cpu_core.proofs.Eights.{eight_found}
use Rattle.cpu_core.proofs.decoding.decode_near.Goals as goal

pub returns-in-Some : goal.returns-in-Some
returns-in-Some g c = eight_found g.L.Linear.pick c.args.regs.now (g.L.Linear.seen c.args.code.now.lin) c.in-Some.bytes c.is_wide.result c.decode_eight.new.insn c.decode_eight.result
    (sym c.is_wide.ensures) c.in-Some.ensures c.decode_eight.ensures
