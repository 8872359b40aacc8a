-- Control and debug registers, the machine status word, and what the coprocessor's bits of CR0 do. Manual,
-- chapters 4, 10, 11, 12 and 17, under MOV to and from special registers, SMSW, LMSW, CLTS, WAIT and ESC.
use Rattle.std.specs.Prelude.{ℕ, ◌%◌, ◌^◌, ◌==◌, ◌&&◌, ◌||◌, not, if◌then◌else◌, List, [], ◌∷◌, ◌++◌, slice_index, slice_set, bit_and}
use Rattle.std.specs.Int.{bit_at}
use Rattle.mdl_state.specs.declared.Regs.{Regs}
use Rattle.mdl_state.specs.declared.Fault.{Fault}
use Rattle.mdl_state.specs.Bytes.{bit}
use Rattle.mdl_state.specs.Attempt.{Plan, Fail}
use Rattle.mdl_num.specs.Flags.{with_bit}
use Rattle.mdl_insn.specs.declared.instruction.Insn.{Insn}
use Rattle.mdl_insn.specs.declared.instruction.Operand.{Operand}
use Rattle.mdl_insn.specs.declared.instruction.Operand.TheVariants.{Creg, Dreg}
use Rattle.mdl_cpu.specs.Faults.{coded_fault, general_protection}
use Rattle.mdl_effect.specs.Operands.{After, follow, no_such, value_of, with_value, reading}
use Rattle.mdl_effect.specs.Moves.{storing_word}
use Rattle.mdl_effect.specs.InterruptEffects.{privileged}

-- the bits of CR0: protection, a coprocessor to be waited for, one that is emulated, a task that was switched
-- to, and paging. Own: Bits of the control registers.
abbrev pub PE : ℕ
PE = 0

abbrev pub MP : ℕ
MP = 1

abbrev pub EM : ℕ
EM = 2

abbrev pub TS : ℕ
TS = 3

abbrev pub PG : ℕ
PG = 31

-- a number with these bits as another number has them
abbrev pub with_bits_of : ℕ → ℕ → List ℕ → ℕ
with_bits_of from n [] = n
with_bits_of from n (place ∷ places) = with_bits_of from (with_bit n place (bit_at from place)) places

-- ---- control registers

abbrev pub control_register : Regs → ℕ → ℕ
control_register r n = if n == 0 then r.cr0 else if n == 2 then r.cr2 else r.cr3

-- CR0 has no other bits, and CR2 and CR3 keep all of theirs
abbrev pub with_control_register : Regs → ℕ → ℕ → Regs
with_control_register r n value =
    if n == 0 then record r { cr0 = with_bits_of value 0 (PE ∷ MP ∷ EM ∷ TS ∷ PG ∷ []) }
    else if n == 2 then record r { cr2 = value }
    else record r { cr3 = value }

-- Own: Paging without protection is a fault.
abbrev pub set_control_plan : ℕ → ℕ → Regs → Plan After
set_control_plan n value r =
    if n == 0 && bit value PG && not (bit value PE) then Fail (general_protection 0)
    else follow (with_control_register r n value)

-- ---- debug registers

abbrev pub debug_register : Regs → ℕ → ℕ
debug_register r n = if n == 6 then r.dr6 else if n == 7 then r.dr7 else slice_index r.dr n

-- DR6 has B0 to B3, BD, BS and BT, and bits 10 to 15 of DR7 are 0. Own: Bits of the debug registers.
abbrev pub with_debug_register : Regs → ℕ → ℕ → Regs
with_debug_register r n value =
    if n == 6 then record r { dr6 = bit_and value 0xE00F }
    else if n == 7 then record r { dr7 = bit_and value 0xFFFF03FF }
    else record r { dr = slice_set r.dr n value }

-- ---- MOV to and from both

abbrev pub special_move_of : Operand → Operand → Regs → Plan After
special_move_of (Creg n) b r = set_control_plan n (value_of r b) r
special_move_of (Dreg n) b r = follow (with_debug_register r n (value_of r b))
special_move_of a (Creg n) r = follow (with_value r a (control_register r n))
special_move_of a (Dreg n) r = follow (with_value r a (debug_register r n))
special_move_of _ _ r = no_such

unfoldable pub special_move_plan : Insn → Regs → Plan After
special_move_plan insn r = privileged r (special_move_of insn.a insn.b r)

-- ---- the machine status word, which is the low word of CR0

-- SMSW
unfoldable pub store_status_word_plan : Insn → Regs → Plan After
store_status_word_plan insn r = storing_word insn r (r.cr0 % 2 ^ 16)

-- LMSW: MP, EM and TS, and PE only where it becomes 1
abbrev pub with_status_word : Regs → ℕ → Regs
with_status_word r word = record r { cr0 = with_bits_of word r.cr0 ((if bit word PE then PE ∷ [] else []) ++ MP ∷ EM ∷ TS ∷ []) }

unfoldable pub load_status_word_plan : Insn → Regs → Plan After
load_status_word_plan insn r = privileged r (reading r insn.a (λ word. follow (with_status_word r word)))

-- CLTS
unfoldable pub clear_task_switched_plan : Regs → Plan After
clear_task_switched_plan r = privileged r (follow (record r { cr0 = with_bit r.cr0 TS 0 }))

-- ---- the coprocessor, which there is none of

abbrev pub no_coprocessor : Fault
no_coprocessor = coded_fault 7 0

-- WAIT
unfoldable pub wait_plan : Regs → Plan After
wait_plan r = if bit r.cr0 MP && bit r.cr0 TS then Fail no_coprocessor else follow r

-- ESC, of which a memory operand is neither tested nor read
unfoldable pub escape_plan : Regs → Plan After
escape_plan r = if bit r.cr0 EM || bit r.cr0 TS then Fail no_coprocessor else follow r
