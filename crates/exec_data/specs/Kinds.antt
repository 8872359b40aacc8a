-- Mnemonics that run alike. Manual, chapter 17.
use Rattle.std.specs.Prelude.{Bool, true, false}
use Rattle.mdl_insn.specs.declared.mnemonics.Op.{Op}
use Rattle.mdl_insn.specs.declared.mnemonics.Op.TheVariants as ops

-- a value put into the first of two operands
abbrev pub is_sum : Op → Bool
is_sum ops.Add = true
is_sum ops.Or = true
is_sum ops.Adc = true
is_sum ops.Sbb = true
is_sum ops.And = true
is_sum ops.Sub = true
is_sum ops.Xor = true
is_sum _ = false

-- the flags of two operands alone
abbrev pub is_comparison : Op → Bool
is_comparison ops.Cmp = true
is_comparison ops.Test = true
is_comparison _ = false

-- a change of one operand
abbrev pub is_change : Op → Bool
is_change ops.Inc = true
is_change ops.Dec = true
is_change ops.Neg = true
is_change ops.Not = true
is_change _ = false

abbrev pub is_shift : Op → Bool
is_shift ops.Rol = true
is_shift ops.Ror = true
is_shift ops.Rcl = true
is_shift ops.Rcr = true
is_shift ops.Shl = true
is_shift ops.Shr = true
is_shift ops.Sar = true
is_shift _ = false

-- a byte by a condition
abbrev pub is_condition : Op → Bool
is_condition (ops.Setcc number) = true
is_condition _ = false
