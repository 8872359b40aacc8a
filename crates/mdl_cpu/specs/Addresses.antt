-- The offset of a memory operand. Manual, chapters 2 and 17.
use Rattle.std.specs.Prelude.{◌<◌, ⊤, ℕ, ◌+◌, ◌*◌, ◌%◌, ◌^◌, ◌==◌, ◌||◌, Bool, if◌then◌else◌, IsTrue, Option, Some, None, slice_index}
use Rattle.mdl_state.specs.declared.Regs.{Regs}
use Rattle.mdl_insn.specs.declared.instruction.Mem.{Mem}
use Rattle.mdl_insn.specs.declared.instruction.Operand.{Operand}
use Rattle.mdl_insn.specs.declared.instruction.Operand.TheVariants.{At}
use Rattle.mdl_insn.specs.declared.instruction.Insn.{Insn}

-- a register that takes part in an address, or 0 where none does
abbrev pub part_of : Regs → Option ℕ → ℕ
part_of r None = 0
part_of r (Some n) = slice_index r.gpr n

-- the least number that is no offset of this address size
abbrev pub offset_bound : Bool → ℕ
offset_bound wide = if wide then 2 ^ 32 else 2 ^ 16

-- base, index times scale, and displacement, modulo the address size
unfoldable pub offset_of : Regs → Mem → ℕ
offset_of r mem = (part_of r mem.base + part_of r mem.index * mem.scale + mem.disp) % offset_bound mem.wide

-- ---- memory operands as instructions have them

-- one of the eight registers, or none
abbrev pub IsPart : Option ℕ → Type 0
IsPart None = ⊤
IsPart (Some n) = n < 8

-- what an index may be multiplied by
abbrev pub is_scale : ℕ → Bool
is_scale n = n == 1 || n == 2 || n == 4 || n == 8

-- base and index are registers, and the scale is one that can be spelt
pub record IsAddress (mem : Mem) : Type 0 where
  pub base : IsPart mem.base
  pub index : IsPart mem.index
  pub scale : IsTrue (is_scale mem.scale)

-- an operand that is memory has such an address
abbrev pub HasAddress : Operand → Type 0
HasAddress (At mem size) = IsAddress mem
HasAddress _ = ⊤

-- so has each operand of an instruction
abbrev pub HasAddresses : Insn → Type 0
HasAddresses insn = HasAddress insn.a × HasAddress insn.b × HasAddress insn.c
