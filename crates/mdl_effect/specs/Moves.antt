-- Moves, extensions, addresses, far pointers, bounds and segment registers. Manual, chapters 3 and 17.
use Rattle.std.specs.Prelude.{ℕ, ◌+◌, ◌-◌, ◌%◌, ◌^◌, ◌&&◌, nat_le, int_le, Bool, if◌then◌else◌, Some, unwrap_or}
use Rattle.mdl_state.specs.declared.Size.{Size}
use Rattle.mdl_state.specs.declared.Size.TheVariants.{B1, B2, B4}
use Rattle.mdl_state.specs.declared.Seg.{Seg}
use Rattle.mdl_state.specs.declared.Seg.TheVariants.{Ss, Ds}
use Rattle.mdl_state.specs.declared.Next.{Next}
use Rattle.mdl_state.specs.declared.Next.TheVariants.{Follow, HoldAll}
use Rattle.mdl_state.specs.declared.Regs.{Regs}
use Rattle.mdl_state.specs.declared.Fault.{Fault}
use Rattle.mdl_state.specs.Bytes.{bytes_of, bound_of}
use Rattle.mdl_state.specs.Registers.{reg_of, with_reg, seg_of}
use Rattle.mdl_state.specs.Attempt.{Plan, Done, Fail, then_plan}
use Rattle.mdl_num.specs.Sizes.{half_of, signed_of, complement_in}
use Rattle.mdl_insn.specs.declared.instruction.Insn.{Insn}
use Rattle.mdl_insn.specs.declared.instruction.Operand.{Operand}
use Rattle.mdl_insn.specs.declared.instruction.Operand.TheVariants.{Gpr, Sreg, At}
use Rattle.mdl_cpu.specs.Addresses.{part_of, offset_bound, offset_of}
use Rattle.mdl_cpu.specs.Loads.{load_plan}
use Rattle.mdl_effect.specs.Operands.{After, NoPort, follow, no_such, memory_write, is_plain, is_nothing, size_of, value_of, with_value, reading, writing, updating}
use Rattle.mdl_cpu.specs.Access.{load_from}
use Rattle.mdl_cpu.specs.Stack.{pop_plan}

-- ---- moves and extensions

-- a number of one size with its sign carried on to another
abbrev pub sign_extended : Size → Size → ℕ → ℕ
sign_extended from to value = complement_in (bound_of to) (signed_of from value)

unfoldable pub move_plan : Insn → Regs → Plan After
move_plan insn r = reading r insn.b (λ value. writing r insn.a value)

unfoldable pub sign_extend_plan : Insn → Regs → Plan After
sign_extend_plan insn r = reading r insn.b (λ value. writing r insn.a (sign_extended (size_of insn.b) insn.size value))

-- what follows a load of a segment register: that of SS holds every interrupt and debug trap back
abbrev pub after_load : Seg → Next
after_load Ss = HoldAll
after_load _ = Follow

-- MOV to a segment register
unfoldable pub load_segment_plan : Seg → Insn → Regs → Plan After
load_segment_plan seg insn r = reading r insn.b (λ sel. then_plan (load_plan r seg sel) (λ q. Done (record { regs = q; next = after_load seg; access = NoPort })))

-- a register set in the size of the instruction
abbrev pub with_sized : Regs → Operand → Size → ℕ → Regs
with_sized r (Gpr n own) size value = with_reg r n size value
with_sized r _ size value = r

-- a word stored: a doubleword register is zero extended, and memory gets a word. Own: Words into doubleword registers.
abbrev pub storing_word : Insn → Regs → ℕ → Plan After
storing_word insn r word =
    if is_plain insn.a then follow (with_sized r insn.a insn.size word)
    else then_plan (memory_write r insn.a word) (λ _. follow r)

-- MOV from a segment register
unfoldable pub store_segment_plan : Seg → Insn → Regs → Plan After
store_segment_plan seg insn r = storing_word insn r (seg_of r seg).sel

abbrev pub segment_move : Operand → Operand → Insn → Regs → Plan After
segment_move (Sreg seg) b insn r = load_segment_plan seg insn r
segment_move a (Sreg seg) insn r = store_segment_plan seg insn r
segment_move _ _ insn r = move_plan insn r

abbrev pub mov_plan : Insn → Regs → Plan After
mov_plan insn r = if is_plain insn.a && is_plain insn.b then move_plan insn r else segment_move insn.a insn.b insn r

-- ---- addresses, pointers and bounds

-- LEA: the offset, cut or zero extended to the operand size; nothing is checked
abbrev pub lea_of : Operand → Insn → Regs → Plan After
lea_of (At mem size) insn r = follow (with_value r insn.a (offset_of r mem % bound_of insn.size))
lea_of _ insn r = no_such

unfoldable pub lea_plan : Insn → Regs → Plan After
lea_plan insn r = lea_of insn.b insn r

-- XLAT: the byte at BX or EBX and AL
unfoldable pub xlat_plan : Insn → Regs → Plan After
xlat_plan insn r = then_plan (load_from r (unwrap_or insn.over Ds) ((part_of r (Some 3) + reg_of r 0 B1) % offset_bound insn.wide) B1)
    (λ value. follow (with_reg r 0 B1 value))

-- LES to LGS: the offset, the selector behind it, and the load come before the register
abbrev pub pointer_of : Seg → Operand → Insn → Regs → Plan After
pointer_of seg (At mem size) insn r = then_plan (load_from r mem.seg (offset_of r mem) insn.size) (λ offset.
    then_plan (load_from r mem.seg (offset_of r mem + bytes_of insn.size) B2) (λ sel.
    then_plan (load_plan r seg sel) (λ q. follow (with_value q insn.a offset))))
pointer_of seg _ insn r = no_such

unfoldable pub pointer_plan : Seg → Insn → Regs → Plan After
pointer_plan seg insn r = pointer_of seg insn.b insn r

abbrev pub bound_fault : Fault
bound_fault = record { vector = 5; code = 0; addr = 0 }

-- a signed index between two bounds, both of them inclusive
abbrev pub is_between : Size → ℕ → ℕ → ℕ → Bool
is_between size index lower upper = int_le (signed_of size lower) (signed_of size index) && int_le (signed_of size index) (signed_of size upper)

-- BOUND: the lower bound, and the upper one behind it
abbrev pub bound_within : Operand → Insn → Regs → Plan After
bound_within (At mem size) insn r = then_plan (load_from r mem.seg (offset_of r mem) insn.size) (λ lower.
    then_plan (load_from r mem.seg (offset_of r mem + bytes_of insn.size) insn.size) (λ upper.
    if is_between insn.size (value_of r insn.a) lower upper then follow r else Fail bound_fault))
bound_within _ insn r = no_such

unfoldable pub bound_plan : Insn → Regs → Plan After
bound_plan insn r = bound_within insn.b insn r

-- POP of a segment register reads the operand size, of which the low word is the selector
abbrev pub pop_of : Operand → Insn → Regs → Plan After
pop_of (Sreg seg) insn r = then_plan (pop_plan r insn.size) (λ popped.
    then_plan (load_plan popped.1 seg (popped.0 % 2 ^ 16)) (λ q. Done (record { regs = q; next = after_load seg; access = NoPort })))
pop_of _ insn r = no_such

unfoldable pub pop_segment_plan : Insn → Regs → Plan After
pop_segment_plan insn r = pop_of insn.a insn r

-- each operand gets the number of the other; with no operands nothing happens
unfoldable pub exchange_plan : Insn → Regs → Plan After
exchange_plan insn r =
    if is_nothing insn.a then follow r
    else reading r insn.b (λ b. updating r insn.a (λ a. record { value = b; regs = with_value r insn.b a }))

-- the size of half the bits
abbrev pub half_size : Size → Size
half_size B4 = B2
half_size _ = B1

-- CBW and CWDE: the low half of the accumulator, with its sign carried on
unfoldable pub widen_plan : Insn → Regs → Plan After
widen_plan insn r = follow (with_reg r 0 insn.size (sign_extended (half_size insn.size) insn.size (reg_of r 0 (half_size insn.size))))

-- CWD and CDQ: the sign of the accumulator in each bit of DX or EDX
unfoldable pub sign_plan : Insn → Regs → Plan After
sign_plan insn r = follow (with_reg r 2 insn.size (if nat_le (half_of insn.size) (reg_of r 0 insn.size) then bound_of insn.size - 1 else 0))
