-- Operands of instructions, as plans read and write them. Manual, chapter 17.
use Rattle.std.specs.Prelude.{⊤, ℕ, ◌+◌, ◌-◌, ◌%◌, Bool, true, false, if◌then◌else◌}
use Rattle.mdl_state.specs.declared.Size.{Size}
use Rattle.mdl_state.specs.declared.Size.TheVariants.{B1, B2, B4}
use Rattle.mdl_state.specs.declared.Seg.{Seg}
use Rattle.mdl_state.specs.declared.Access.TheVariants.{Write}
use Rattle.mdl_state.specs.declared.Regs.{Regs}
use Rattle.mdl_state.specs.declared.Next.{Next}
use Rattle.mdl_state.specs.declared.Next.TheVariants.{Follow, Soft, Task}
use Rattle.mdl_state.specs.Bytes.{bound_of}
use Rattle.mdl_state.specs.Registers.{reg_of, with_reg}
use Rattle.mdl_state.specs.Attempt.{Plan, Done, Fail, Translate, Get, Hold, then_plan, checked}
use Rattle.mdl_num.specs.declared.status.Status.{Status}
use Rattle.mdl_num.specs.Flags.{flags_after}
use Rattle.mdl_insn.specs.declared.instruction.Operand.{Operand}
use Rattle.mdl_insn.specs.declared.instruction.Operand.TheVariants.{Nothing, Gpr, Sreg, Imm, At}
use Rattle.mdl_cpu.specs.Addresses.{offset_of}
use Rattle.mdl_cpu.specs.Segments.{who_of}
use Rattle.mdl_cpu.specs.Access.{legal, load_from, store_to}
use Rattle.mdl_cpu.specs.SystemFlags as system

-- the one port that an instruction reads or writes, behind all else that it does
pub data PortUse : Type 0 where
  NoPort : PortUse
  Reads : ℕ → Size → PortUse
  Writes : ℕ → Size → ℕ → PortUse

-- what an instruction leaves: the registers, what follows, and the port that it uses
pub record After : Type 0 where
  pub regs : Regs
  pub next : Next
  pub access : PortUse

-- neither a software interrupt nor a task switch follows
abbrev pub IsOrdinary : Next → Type 0
IsOrdinary (Soft vector) = ⊥
IsOrdinary (Task trap) = ⊥
IsOrdinary _ = ⊤

-- the instruction goes on behind itself
abbrev pub follow : Regs → Plan After
follow r = Done (record { regs = r; next = Follow; access = NoPort })

-- what stands where no instruction of the mnemonic has such an operand
abbrev pub no_such : {A : Type 0} → Plan A
no_such = Fail (record { vector = 6; code = 0; addr = 0 })

-- a general register, a number, or nothing
abbrev pub is_plain : Operand → Bool
is_plain Nothing = true
is_plain (Gpr n size) = true
is_plain (Imm value size) = true
is_plain _ = false

abbrev pub is_nothing : Operand → Bool
is_nothing Nothing = true
is_nothing _ = false

-- a segment register
abbrev pub is_segment : Operand → Bool
is_segment (Sreg seg) = true
is_segment _ = false

abbrev pub size_of : Operand → Size
size_of (Gpr n size) = size
size_of (Imm value size) = size
size_of (At mem size) = size
size_of _ = B1

-- the number of a register or of an immediate
abbrev pub value_of : Regs → Operand → ℕ
value_of r (Gpr n size) = reg_of r n size
value_of r (Imm value size) = value
value_of r _ = 0

-- the size of a count and of an index, by the address size
abbrev pub address_size : Bool → Size
address_size wide = if wide then B4 else B2

-- CX or ECX
abbrev pub count_of : Regs → Bool → ℕ
count_of r wide = reg_of r 1 (address_size wide)

-- one less, modulo the address size
abbrev pub counted_down : Regs → Bool → Regs
counted_down r wide = with_reg r 1 (address_size wide) ((count_of r wide + (bound_of (address_size wide) - 1)) % bound_of (address_size wide))

-- DF, by which strings go downwards
abbrev pub DF : ℕ
DF = system.DF

-- a register set
abbrev pub with_value : Regs → Operand → ℕ → Regs
with_value r (Gpr n size) value = with_reg r n size value
with_value r _ value = r

-- EFLAGS after an operation; what it leaves undefined is that of the number `free`
abbrev pub with_flags : Regs → Status → ℕ → Regs
with_flags r status free = record r { eflags = flags_after status r.eflags free }

-- ---- memory

-- what an operation makes: a number, and the registers beside it
pub record Made : Type 0 where
  pub value : ℕ
  pub regs : Regs

-- a number of a segment that is read and then written, translated once, for writing
abbrev pub change_in : Regs → Seg → ℕ → Size → (ℕ → Made) → Plan After
change_in r seg offset size make = checked (legal r seg offset size true) (λ at.
    Translate at size (Write (who_of r)) (λ place. Get place size (λ value.
    Hold place size (make value).value (follow (make value).regs))))

unfoldable pub memory_read : Regs → Operand → Plan ℕ
memory_read r (At mem size) = load_from r mem.seg (offset_of r mem) size
memory_read r _ = no_such

unfoldable pub memory_write : Regs → Operand → ℕ → Plan (Unit {0})
memory_write r (At mem size) value = store_to r mem.seg (offset_of r mem) size value
memory_write r _ value = no_such

unfoldable pub memory_change : Regs → Operand → (ℕ → Made) → Plan After
memory_change r (At mem size) make = change_in r mem.seg (offset_of r mem) size make
memory_change r _ make = no_such

-- ---- operands

-- an operand that is read
abbrev pub reading : Regs → Operand → (ℕ → Plan After) → Plan After
reading r operand k = if is_plain operand then k (value_of r operand) else then_plan (memory_read r operand) k

-- an operand that is written
abbrev pub writing : Regs → Operand → ℕ → Plan After
writing r operand value =
    if is_plain operand then follow (with_value r operand value)
    else then_plan (memory_write r operand value) (λ _. follow r)

-- an operand that is read and then written
abbrev pub updating : Regs → Operand → (ℕ → Made) → Plan After
updating r operand make =
    if is_plain operand then follow (with_value (make (value_of r operand)).regs operand (make (value_of r operand)).value)
    else memory_change r operand make
