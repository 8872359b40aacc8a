use Rattle.cpu_core.proofs.Eights.{takes_spells}
use Rattle.cpu_core.proofs.decoding.decode_any.Goals as goal

pub returns-in-Ok : goal.returns-in-Ok
returns-in-Ok c = takes_spells (λ s. s.bytes) c.args.big c.new-eight.result c.decode_into.new.fetch c.args.bytes c.in-Ok.count c.decode_into.new.insn c.new-eight.ensures c.if-count-le8.true c.in-Ok.ensures.ok
