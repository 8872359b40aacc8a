-- Software interrupts, the flags as a whole, the interrupt flag, and the halt. Manual, chapters 6, 8, 9, 15 and 17,
-- under INT, PUSHF, POPF, CLI, STI and HLT.
use Rattle.std.specs.Prelude.{ℕ, ◌%◌, ◌==◌, not, true, false, if◌then◌else◌, List, [], ◌∷◌}
use Rattle.mdl_state.specs.declared.Regs.{Regs}
use Rattle.mdl_state.specs.declared.Next.TheVariants as next
use Rattle.mdl_state.specs.Bytes.{bound_of}
use Rattle.mdl_state.specs.Attempt.{Plan, Done, Fail, then_plan, checked}
use Rattle.mdl_num.specs.declared.status.TheConstants.{OF}
use Rattle.mdl_num.specs.Flags.{is_set}
use Rattle.mdl_insn.specs.declared.instruction.Insn.{Insn}
use Rattle.mdl_cpu.specs.Faults.{Row, row, first_of, general_protection}
use Rattle.mdl_cpu.specs.SystemFlags.{IF, taken_flags, with_flags_from}
use Rattle.mdl_cpu.specs.Visibility.{iopl_allows}
use Rattle.mdl_cpu.specs.Virtual.{sensitive_rows}
use Rattle.mdl_cpu.specs.Stack.{pop_plan}
use Rattle.mdl_effect.specs.Operands.{After, NoPort, follow}
use Rattle.mdl_effect.specs.FlagEffects.{with_flag}
use Rattle.mdl_effect.specs.StackEffects.{pushing}

-- at privilege level 0, and else a general protection fault
abbrev pub privileged : Regs → Plan After → Plan After
privileged r plan = if r.cpl == 0 then plan else Fail (general_protection 0)

-- CLI and STI need a level of at most IOPL; V86 runs at level 3, and so needs an IOPL of 3
abbrev pub io_rows : Regs → List Row
io_rows r = row (not (iopl_allows r)) (general_protection 0) ∷ []

abbrev pub with_io_rights : Regs → Plan After → Plan After
with_io_rights r plan = checked (first_of (io_rows r)) (λ _. plan)

-- in V86 where IOPL is 3, and in each other mode
abbrev pub sensitive : Regs → Plan After → Plan After
sensitive r plan = checked (first_of (sensitive_rows r)) (λ _. plan)

-- ---- INT n, INT 3 and INTO: the interrupt follows, and the registers are as they were

-- INT 3
unfoldable pub interrupt_plan : ℕ → Regs → Plan After
interrupt_plan vector r = Done (record { regs = r; next = next.Soft vector; access = NoPort })

-- INT n, which alone of the three is sensitive
unfoldable pub numbered_interrupt_plan : ℕ → Regs → Plan After
numbered_interrupt_plan vector r = sensitive r (interrupt_plan vector r)

-- INTO, where OF is 1
unfoldable pub overflow_plan : Regs → Plan After
overflow_plan r = if is_set r.eflags OF then interrupt_plan 4 r else follow r

-- ---- the flags

-- PUSHF and PUSHFD: FLAGS or EFLAGS as it stands. Own: PUSHFD pushes every flag.
unfoldable pub push_flags_plan : Insn → Regs → Plan After
push_flags_plan insn r = sensitive r (pushing r insn.size (r.eflags % bound_of insn.size))

-- POPF and POPFD: RF and VM stay, and so do IOPL and IF where the level may not change them
unfoldable pub pop_flags_plan : Insn → Regs → Plan After
pop_flags_plan insn r = sensitive r (then_plan (pop_plan r insn.size) (λ popped.
    follow (record popped.1 { eflags = with_flags_from popped.0 (taken_flags r) r.eflags })))

-- CLI
unfoldable pub clear_interrupts_plan : Regs → Plan After
clear_interrupts_plan r = with_io_rights r (follow (with_flag r IF false))

-- STI: the interrupt line is held back for one instruction more, also where IF was 1
unfoldable pub set_interrupts_plan : Regs → Plan After
set_interrupts_plan r = with_io_rights r (Done (record { regs = with_flag r IF true; next = next.HoldIntr; access = NoPort }))

-- ---- HLT

unfoldable pub halt_plan : Regs → Plan After
halt_plan r = privileged r (Done (record { regs = r; next = next.Halt; access = NoPort }))
