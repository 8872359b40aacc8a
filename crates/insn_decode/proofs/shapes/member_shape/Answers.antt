use Rattle.std.proofs.Common.{arith}
use Rattle.insn_decode.proofs.Named.{member_fits}
use Rattle.insn_decode.proofs.shapes.member_shape.Goals as goal

pub returns : goal.returns
returns c = member_fits c.args.group c.args.reg c.member_at.result (omega arith) c.member_at.ensures
