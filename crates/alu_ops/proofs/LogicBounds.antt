-- Logic keeps to the operands' bits.
use Rattle.std.proofs.Common.{ℕ, ◌^◌, ◌<◌, arith}
use Rattle.std.proofs.lemmas.Nat.{and_le_l, or_lt, xor_lt}
use Rattle.mdl_num.specs.Sums.{logic_value}
use Rattle.mdl_num.specs.declared.results.LogicOp.{LogicOp}
use Rattle.mdl_num.specs.declared.results.LogicOp.TheVariants.{And, Or, Xor}

pub logic_value-lt : (op : LogicOp) (k a b : ℕ) → a < 2 ^ k → b < 2 ^ k → logic_value op a b < 2 ^ k
unfolding logic_value
logic_value-lt And k a b p q = omega (arith, and_le_l a b)
logic_value-lt Or k a b p q = or_lt k a b p q
logic_value-lt Xor k a b p q = xor_lt k a b p q
