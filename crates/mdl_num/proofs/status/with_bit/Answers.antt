use Rattle.std.proofs.Common.{rules}
use Rattle.mdl_num.proofs.Places.{cleared_and_set}
use Rattle.mdl_num.proofs.status.with_bit.Goals as goal

pub returns : goal.returns
returns c = cleared_and_set c.args.number c.args.bit c.args.on (search rules) (search rules)
