use Rattle.mdl_state.specs.Bytes.{bits_of}
use Rattle.alu_ops.proofs.LogicBounds.{logic_value-lt}
use Rattle.alu_ops.proofs.sums.logic.Goals as goal

pub returns-clause-bound : goal.returns-clause-bound
returns-clause-bound c =
    rw c.bitwise-value.ensures (logic_value-lt c.args.op (bits_of c.args.size) c.args.a c.args.b c.requires.a c.requires.b)
