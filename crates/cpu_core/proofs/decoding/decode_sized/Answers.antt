use Rattle.cpu_core.proofs.Eights.{takes_spells}
use Rattle.cpu_core.proofs.decoding.decode_sized.Goals as goal

pub returns-in-Some : goal.returns-in-Some
returns-in-Some g c = takes_spells (λ s. s.bytes) c.args.big c.new-eight.result c.decode_frequent.new.fetch c.args.bytes c.in-Some.count c.decode_frequent.new.insn c.new-eight.ensures c.if-count-le8.true c.in-Some.ensures.takes
