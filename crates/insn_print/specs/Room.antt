-- How much of a text its operands may take.
use Rattle.std.specs.Prelude.{ℕ, ◌+◌, ◌≤◌}
use Rattle.mdl_insn.specs.declared.instruction.Operand.{Operand}
use Rattle.mdl_insn.specs.declared.instruction.Operand.TheVariants.{At, Far}
use Rattle.mdl_insn.specs.declared.instruction.Insn.{Insn}

-- the most that an operand takes, with what joins it to the text before
abbrev pub room_of : Operand → ℕ
room_of (At m size) = 32
room_of (Far selector offset) = 22
room_of _ = 11

-- three operands, of which one is memory
abbrev pub IsPrintable : Insn → Type 0
IsPrintable i = room_of i.a + room_of i.b + room_of i.c ≤ 54
