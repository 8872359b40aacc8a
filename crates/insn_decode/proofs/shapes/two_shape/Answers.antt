use Rattle.std.proofs.Common.{arith}
use Rattle.insn_decode.proofs.Named.{two_fits}
use Rattle.insn_decode.proofs.shapes.two_shape.Goals as goal

pub returns : goal.returns
returns c = two_fits c.args.b c.two_at.result (omega arith) c.two_at.ensures
