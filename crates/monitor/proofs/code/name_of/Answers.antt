use Rattle.std.proofs.Common.{ℕ, Some, ap}
use Rattle.monitor.proofs.Codes.{whole_named}
use Rattle.monitor.proofs.code.name_of.Goals as goal

pub returns-in-Ok-clause-named : goal.returns-in-Ok-clause-named
returns-in-Ok-clause-named c = whole_named c.args.code.now c.args.big c.args.at c.in-Ok.length c.from.result c.in-Ok.insn c.print.result.bytes _
    c.in-Ok.ensures.ok c.print.ensures.text c.from.ensures (ap (λ (x : ℕ). Some x) c.from-in-Ok.ensures)
