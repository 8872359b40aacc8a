use Rattle.std.proofs.Common.{arith}
use Rattle.insn_decode.proofs.Shaped.{second_takes}
use Rattle.insn_decode.proofs.frequent.prefixed.Goals as goal

pub returns-then-opened : goal.returns-then-opened
returns-then-opened g c = λ start given.
    second_takes g.F.Fetch.gives c.args.big c.args.fetch.now c.next.new.self c.args.prefix c.in-Ok.b c.first_prefix-setting.result c.opened.new.insn c.opened.new.count c.opened.new.fetch c.opened.result
    c.if-opened.true c.first_prefix-setting.ensures (omega arith) c.in-Ok.ensures (omega arith) c.opened.ensures.count c.opened.ensures.runs start given
