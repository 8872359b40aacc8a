-- The registers whose status flags are kept apart, and what an instruction leaves. Manual, chapter 2.
use Rattle.std.specs.Prelude.{◌≡◌, ℕ, Result, Ok, Err, true}
use Rattle.mdl_state.specs.declared.Regs.{Regs}
use Rattle.mdl_state.specs.declared.Size.{Size}
use Rattle.mdl_state.specs.declared.Fault.{Fault}
use Rattle.mdl_state.specs.declared.Next.{Next}
use Rattle.mdl_state.specs.declared.Next.TheVariants.{Follow}
use Rattle.mdl_state.specs.Attempt.{Plan, Fail}
use Rattle.mdl_state.specs.Serving.{Outcome, Passed, Failed}
use Rattle.mdl_insn.specs.declared.instruction.Operand.{Operand}
use Rattle.mdl_effect.specs.Operands.{After, PortUse, NoPort, follow, is_plain}
use Rattle.mdl_effect.specs.Forms.{IsOf, IsWithin}
use Rattle.lazy_flags.specs.Keeper.{with_status}

-- the registers with the kept status flags in EFLAGS
abbrev pub whole : Regs → ℕ → Regs
whole r flags = record r { eflags = with_status r.eflags flags }

-- what comes of an instruction: these registers, or the fault
abbrev pub after : Result (Unit {0}) Fault → Regs → Outcome After
after (Ok _) r = Passed (record { regs = r; next = Follow; access = NoPort })
after (Err fault) r = Failed fault

-- the same of an instruction that says what follows
abbrev pub ran : Result Next Fault → Regs → Outcome After
ran (Ok next) r = Passed (record { regs = r; next = next; access = NoPort })
ran (Err fault) r = Failed fault

-- the same of an instruction that may use a port
abbrev pub ran_at : Result Next Fault → PortUse → Regs → Outcome After
ran_at (Ok next) access r = Passed (record { regs = r; next = next; access = access })
ran_at (Err fault) access r = Failed fault

-- the same as a plan
abbrev pub done : Result (Unit {0}) Fault → Regs → Plan After
done (Ok _) r = follow r
done (Err fault) r = Fail fault

-- each register but the general ones is as it was
pub record KeepsOther (old new : Regs) : Type 0 where
  pub eip : new.eip ≡ old.eip
  pub eflags : new.eflags ≡ old.eflags
  pub seg : new.seg ≡ old.seg
  pub ldtr : new.ldtr ≡ old.ldtr
  pub tr : new.tr ≡ old.tr
  pub gdt_base : new.gdt_base ≡ old.gdt_base
  pub gdt_limit : new.gdt_limit ≡ old.gdt_limit
  pub idt_base : new.idt_base ≡ old.idt_base
  pub idt_limit : new.idt_limit ≡ old.idt_limit
  pub cr0 : new.cr0 ≡ old.cr0
  pub cr2 : new.cr2 ≡ old.cr2
  pub cr3 : new.cr3 ≡ old.cr3
  pub dr : new.dr ≡ old.dr
  pub dr6 : new.dr6 ≡ old.dr6
  pub dr7 : new.dr7 ≡ old.dr7
  pub cpl : new.cpl ≡ old.cpl

-- a register or a number of this size, or nothing
abbrev pub IsPlainOf : Size → Operand → Type 0
IsPlainOf size operand = (is_plain operand ≡ true) × IsOf size operand

-- a register or a number of no more bytes, or nothing
abbrev pub IsPlainWithin : Size → Operand → Type 0
IsPlainWithin size operand = (is_plain operand ≡ true) × IsWithin size operand
