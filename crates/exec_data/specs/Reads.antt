-- Operands that are only read, and the number in the place of such an operand. Manual, chapter 17.
use Rattle.std.specs.Prelude.{ℕ, Bool, true, false, if◌then◌else◌}
use Rattle.mdl_state.specs.declared.Regs.{Regs}
use Rattle.mdl_state.specs.Attempt.{Plan, Done}
use Rattle.mdl_insn.specs.declared.instruction.Insn.{Insn}
use Rattle.mdl_insn.specs.declared.instruction.Operand.{Operand}
use Rattle.mdl_insn.specs.declared.instruction.Operand.TheVariants.{Imm}
use Rattle.mdl_insn.specs.declared.mnemonics.Op.{Op}
use Rattle.mdl_insn.specs.declared.mnemonics.Op.TheVariants as ops
use Rattle.mdl_effect.specs.Operands.{After, follow, is_plain, size_of, value_of, memory_read, with_flags, reading, writing, updating}
use Rattle.mdl_effect.specs.Arithmetic.{flagged, binary}

-- the mnemonics that read their second operand before anything else
abbrev pub reads_second : Op → Bool
reads_second ops.Movzx = true
reads_second ops.Movsx = true
reads_second ops.Bsf = true
reads_second ops.Bsr = true
reads_second ops.Imul = true
reads_second ops.Add = true
reads_second ops.Or = true
reads_second ops.Adc = true
reads_second ops.Sbb = true
reads_second ops.And = true
reads_second ops.Sub = true
reads_second ops.Xor = true
reads_second ops.Cmp = true
reads_second ops.Test = true
reads_second _ = false

-- those that only read their first one; IMUL where it has no second
abbrev pub reads_first : Op → Bool → Bool
reads_first ops.Cmp none = true
reads_first ops.Test none = true
reads_first ops.Mul none = true
reads_first ops.Imul none = none
reads_first ops.Div none = true
reads_first ops.Idiv none = true
reads_first _ none = false

-- the instruction with a number as its first operand
abbrev pub with_first : Insn → ℕ → Insn
with_first insn value = record insn { a = Imm value (size_of insn.a) }

-- and as its second
abbrev pub with_second : Insn → ℕ → Insn
with_second insn value = record insn { b = Imm value (size_of insn.b) }

-- MOV
abbrev pub is_move : Op → Bool
is_move ops.Mov = true
is_move _ = false

-- the number of an operand that is read
unfoldable pub number_plan : Regs → Operand → Plan ℕ
number_plan r operand = if is_plain operand then Done (value_of r operand) else memory_read r operand

-- what MOV does with the number of its source
unfoldable pub moving : Insn → Regs → ℕ → Plan After
moving insn r value = writing r insn.a value

-- what ADD to XOR do with it
unfoldable pub combining : Insn → Regs → ℕ → ℕ → Plan After
combining insn r free b = updating r insn.a (λ a. flagged r free (binary insn.op insn.size a b r.eflags))

-- what CMP and TEST do with it
unfoldable pub comparing : Insn → Regs → ℕ → ℕ → Plan After
comparing insn r free b = reading r insn.a (λ a. follow (with_flags r (binary insn.op insn.size a b r.eflags).status free))

-- and with the number of both
unfoldable pub compared : Insn → Regs → ℕ → ℕ → ℕ → Plan After
compared insn r free b a = follow (with_flags r (binary insn.op insn.size a b r.eflags).status free)
