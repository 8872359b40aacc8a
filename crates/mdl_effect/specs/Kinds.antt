-- What an operand is, by kind. Manual, chapter 17.
use Rattle.std.specs.Prelude.{ℕ, ◌≡◌, ◌<◌, ◌==◌, ◌&&◌, ◌||◌, ◌^◌, nat_lt, not, Bool, true, false, ⊤}
use Rattle.mdl_state.specs.declared.Size.{Size}
use Rattle.mdl_state.specs.declared.Size.TheVariants.{B1, B2}
use Rattle.mdl_state.specs.Bytes.{bound_of}
use Rattle.mdl_state.specs.declared.Seg.TheVariants.{Cs}
use Rattle.mdl_insn.specs.declared.instruction.Operand.{Operand}
use Rattle.mdl_insn.specs.declared.instruction.Operand.TheVariants.{Gpr, Imm, Sreg, At, Rel, Far}

abbrev pub is_gpr : Operand → Bool
is_gpr (Gpr n size) = true
is_gpr _ = false

abbrev pub is_number : Operand → Bool
is_number (Imm value size) = true
is_number _ = false

abbrev pub is_memory : Operand → Bool
is_memory (At mem size) = true
is_memory _ = false

-- a general register or memory
abbrev pub is_place : Operand → Bool
is_place (Gpr n size) = true
is_place (At mem size) = true
is_place _ = false

-- a general register or a number
abbrev pub is_direct : Operand → Bool
is_direct (Gpr n size) = true
is_direct (Imm value size) = true
is_direct _ = false

-- a general register, a number or memory
abbrev pub is_value : Operand → Bool
is_value (Gpr n size) = true
is_value (Imm value size) = true
is_value (At mem size) = true
is_value _ = false

-- a displacement from behind the instruction
abbrev pub is_relative : Operand → Bool
is_relative (Rel displacement) = true
is_relative _ = false

-- what may be pushed: also a segment register
abbrev pub is_pushed : Operand → Bool
is_pushed (Sreg seg) = true
is_pushed a = is_value a

-- what may be popped: also a segment register, but for CS
abbrev pub is_popped : Operand → Bool
is_popped (Sreg Cs) = false
is_popped (Sreg seg) = true
is_popped a = is_place a

-- where a near branch may lead
abbrev pub is_target : Operand → Bool
is_target (Rel displacement) = true
is_target a = is_place a

-- where a far branch may lead
abbrev pub is_far_target : Operand → Bool
is_far_target (Far selector offset) = true
is_far_target a = is_memory a

-- AL, AX or EAX
abbrev pub is_accumulator : Operand → Bool
is_accumulator (Gpr n size) = n == 0
is_accumulator _ = false

-- a selector, and an offset of this size
abbrev pub IsFar : Size → Operand → Type 0
IsFar size (Far selector offset) = (selector < 2 ^ 16) × (offset < bound_of size)
IsFar size _ = ⊤

-- a byte's number, or DX
abbrev pub IsPort : Operand → Type 0
IsPort (Gpr n own) = (own ≡ B2) × (n ≡ 2)
IsPort (Imm value own) = (own ≡ B1) × (value < 2 ^ 8)
IsPort _ = ⊥

-- CR0, CR2 and CR3
abbrev pub is_control_number : ℕ → Bool
is_control_number n = (n == 0) || (n == 2) || (n == 3)

-- DR0 to DR3, DR6 and DR7
abbrev pub is_debug_number : ℕ → Bool
is_debug_number n = nat_lt n 8 && not (n == 4) && not (n == 5)
