-- Families of mnemonics within those of the exec crates.
use Rattle.std.specs.Prelude.{Bool, true, false}
use Rattle.mdl_insn.specs.declared.mnemonics.Op.{Op}
use Rattle.mdl_insn.specs.declared.mnemonics.Op.TheVariants as ops

-- the string mnemonics that use a port
abbrev pub is_port_string : Op → Bool
is_port_string ops.Ins = true
is_port_string ops.Outs = true
is_port_string _ = false

-- the data mnemonics of most programs but MOV, whose operands are neither control nor debug registers
abbrev pub is_arithmetic : Op → Bool
is_arithmetic ops.Movzx = true
is_arithmetic ops.Movsx = true
is_arithmetic ops.Add = true
is_arithmetic ops.Or = true
is_arithmetic ops.Adc = true
is_arithmetic ops.Sbb = true
is_arithmetic ops.And = true
is_arithmetic ops.Sub = true
is_arithmetic ops.Xor = true
is_arithmetic ops.Cmp = true
is_arithmetic ops.Test = true
is_arithmetic ops.Inc = true
is_arithmetic ops.Dec = true
is_arithmetic ops.Neg = true
is_arithmetic ops.Not = true
is_arithmetic ops.Shl = true
is_arithmetic ops.Shr = true
is_arithmetic ops.Sar = true
is_arithmetic (ops.Setcc number) = true
is_arithmetic _ = false
