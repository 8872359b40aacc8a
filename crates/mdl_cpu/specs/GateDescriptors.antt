-- Gates as descriptors: their types and fields, and the checks of a gate and of the code that it names. Manual,
-- chapters 6, 7, 9 and 17, under CALL and JMP.
use Rattle.std.specs.Prelude.{ℕ, ◌+◌, ◌*◌, ◌/◌, ◌%◌, ◌^◌, ◌==◌, ◌&&◌, ◌||◌, not, nat_lt, Bool, if◌then◌else◌, List, [], ◌∷◌}
use Rattle.mdl_state.specs.declared.Size.{Size}
use Rattle.mdl_state.specs.declared.Size.TheVariants.{B2, B4}
use Rattle.mdl_state.specs.declared.Regs.{Regs}
use Rattle.mdl_state.specs.Bytes.{bit}
use Rattle.mdl_state.specs.Attempt.{Plan, Done, then_plan, checked}
use Rattle.mdl_cpu.specs.declared.Desc.{Desc}
use Rattle.mdl_cpu.specs.Faults.{Row, row, first_of, fault_at, general_protection}
use Rattle.mdl_cpu.specs.Descriptors.{is_null, dpl, is_present, is_code, is_conforming, system_type, is_beyond, descriptor_plan}
use Rattle.mdl_cpu.specs.Loads.{not_present}

-- ---- types

-- a call gate, of the 80286 or of the 80386
abbrev pub is_call_gate : Desc → Bool
is_call_gate g = system_type g == 4 || system_type g == 0xC

abbrev pub is_task_gate : Desc → Bool
is_task_gate g = system_type g == 5

-- an interrupt gate, of the 80286 or of the 80386; it clears IF
abbrev pub is_interrupt_gate : Desc → Bool
is_interrupt_gate g = system_type g == 6 || system_type g == 0xE

abbrev pub is_trap_gate : Desc → Bool
is_trap_gate g = system_type g == 7 || system_type g == 0xF

-- ---- fields

-- the selector of the code, or of a task's TSS: bits 16 to 31 of the low doubleword
abbrev pub gate_selector : Desc → ℕ
gate_selector g = g.low / 2 ^ 16

-- a gate of the 80386, by bit 3 of the type
abbrev pub is_wide_gate : Desc → Bool
is_wide_gate g = bit g.rights 3

-- the size of each number that goes through the gate
abbrev pub gate_size : Desc → Size
gate_size g = if is_wide_gate g then B4 else B2

-- the offset: bits 0 to 15 of the low doubleword, and of the 80386 bits 16 to 31 of the high one
abbrev pub gate_offset : Desc → ℕ
gate_offset g = if is_wide_gate g then g.low % 2 ^ 16 + 2 ^ 16 * (g.high / 2 ^ 16) else g.low % 2 ^ 16

-- the number of parameters of a call gate: bits 0 to 4 of the high doubleword
abbrev pub gate_count : Desc → ℕ
gate_count g = g.high % 2 ^ 5

-- ---- checks

-- a call gate or a task gate that JMP or CALL names, behind the row on its table
abbrev pub gate_rows : ℕ → ℕ → Desc → List Row
gate_rows cpl sel g =
    row (is_beyond cpl sel g) (fault_at 13 sel)
    ∷ row (not (is_present g)) (not_present sel)
    ∷ []

-- the code that a gate names, for CALL and for interrupts, behind the row on its table
abbrev pub target_rows : ℕ → ℕ → Desc → List Row
target_rows cpl sel d =
    row (not (is_code d)) (fault_at 13 sel)
    ∷ row (nat_lt cpl (dpl d)) (fault_at 13 sel)
    ∷ row (not (is_present d)) (not_present sel)
    ∷ []

-- for JMP it may not be of an inner level either
abbrev pub jump_target_rows : ℕ → ℕ → Desc → List Row
jump_target_rows cpl sel d =
    row (not (is_code d)) (fault_at 13 sel)
    ∷ row (nat_lt cpl (dpl d)) (fault_at 13 sel)
    ∷ row (not (is_conforming d) && not (dpl d == cpl)) (fault_at 13 sel)
    ∷ row (not (is_present d)) (not_present sel)
    ∷ []

-- the descriptor of the code that a gate names, tested by these rows
unfoldable pub target_plan : Regs → Desc → (Desc → List Row) → Plan Desc
target_plan r g rows =
    checked (first_of (row (is_null (gate_selector g)) (general_protection 0) ∷ [])) (λ _.
    then_plan (descriptor_plan r (gate_selector g) 13) (λ d.
    checked (first_of (rows d)) (λ _.
    Done d)))

-- the privilege level at which code runs: conforming code at that of who comes to it
abbrev pub level_of : ℕ → Desc → ℕ
level_of cpl d = if is_conforming d then cpl else dpl d
