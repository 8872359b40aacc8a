-- Logic keeps to the operands' bits.
use Rattle.alu_ops.proofs.LogicBounds.{logic_value-lt}

pub ruleset bounds = (logic_value-lt)
