use Rattle.std.proofs.Common.{arith}
use Rattle.insn_decode.proofs.Named.{one_fits}
use Rattle.insn_decode.proofs.shapes.one_shape.Goals as goal

pub returns : goal.returns
returns c = one_fits c.args.b c.one_at.result (omega arith) c.one_at.ensures
