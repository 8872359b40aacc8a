-- The registers of the descriptor tables. Manual, chapters 4, 5, 9 and 17, under LGDT, LIDT, SGDT and SIDT.
use Rattle.std.specs.Prelude.{ℕ, ◌+◌, ◌%◌, ◌^◌}
use Rattle.mdl_state.specs.declared.Size.{Size}
use Rattle.mdl_state.specs.declared.Size.TheVariants.{B2, B4}
use Rattle.mdl_state.specs.declared.Regs.{Regs}
use Rattle.mdl_state.specs.Attempt.{Plan, Done, then_plan}
use Rattle.mdl_insn.specs.declared.instruction.Insn.{Insn}
use Rattle.mdl_insn.specs.declared.instruction.Operand.{Operand}
use Rattle.mdl_insn.specs.declared.instruction.Operand.TheVariants.{At}
use Rattle.mdl_cpu.specs.Addresses.{offset_of}
use Rattle.mdl_cpu.specs.Access.{load_from, store_to}
use Rattle.mdl_effect.specs.Operands.{After, follow, no_such}
use Rattle.mdl_effect.specs.InterruptEffects.{privileged}

-- what is read: the limit, a word, and behind it the base, a doubleword with either operand size
unfoldable pub table_read : Regs → Operand → Plan (ℕ × ℕ)
table_read r (At mem size) = then_plan (load_from r mem.seg (offset_of r mem) B2) (λ limit.
    then_plan (load_from r mem.seg (offset_of r mem + 2) B4) (λ base. Done (limit, base)))
table_read r _ = no_such

-- the same written
unfoldable pub table_write : Regs → Operand → ℕ → ℕ → Plan (Unit {0})
table_write r (At mem size) limit base = then_plan (store_to r mem.seg (offset_of r mem) B2 limit) (λ _.
    store_to r mem.seg (offset_of r mem + 2) B4 base)
table_write r _ limit base = no_such

-- the base that is loaded: with an operand size of 16 bits the low 24 bits. Own: Bases of the descriptor tables.
abbrev pub base_in : Size → ℕ → ℕ
base_in B4 base = base
base_in _ base = base % 2 ^ 24

unfoldable pub load_gdt_plan : Insn → Regs → Plan After
load_gdt_plan insn r = privileged r (then_plan (table_read r insn.a) (λ table.
    follow (record r { gdt_limit = table.0; gdt_base = base_in insn.size table.1 })))

unfoldable pub load_idt_plan : Insn → Regs → Plan After
load_idt_plan insn r = privileged r (then_plan (table_read r insn.a) (λ table.
    follow (record r { idt_limit = table.0; idt_base = base_in insn.size table.1 })))

-- SGDT and SIDT store the whole base with either operand size
unfoldable pub store_gdt_plan : Insn → Regs → Plan After
store_gdt_plan insn r = then_plan (table_write r insn.a r.gdt_limit r.gdt_base) (λ _. follow r)

unfoldable pub store_idt_plan : Insn → Regs → Plan After
store_idt_plan insn r = then_plan (table_write r insn.a r.idt_limit r.idt_base) (λ _. follow r)
