-- Which instructions are those of the system, and what each of them does. Manual, chapters 4 to 12, 15 and 17.
use Rattle.std.specs.Prelude.{ℕ, ◌&&◌, ◌||◌, Bool, true, false}
use Rattle.mdl_state.specs.declared.Regs.{Regs}
use Rattle.mdl_state.specs.Attempt.{Plan}
use Rattle.mdl_insn.specs.declared.instruction.Insn.{Insn}
use Rattle.mdl_insn.specs.declared.mnemonics.Op.{Op}
use Rattle.mdl_insn.specs.declared.mnemonics.Op.TheVariants as ops
use Rattle.mdl_effect.specs.Operands.{After, no_such, value_of}
use Rattle.mdl_effect.specs.DataEffects.{is_special}
use Rattle.mdl_effect.specs.InterruptEffects.{interrupt_plan, numbered_interrupt_plan, overflow_plan, push_flags_plan, pop_flags_plan, clear_interrupts_plan, set_interrupts_plan, halt_plan}
use Rattle.mdl_effect.specs.PortEffects.{in_plan, out_plan}
use Rattle.mdl_effect.specs.TableEffects.{load_gdt_plan, load_idt_plan, store_gdt_plan, store_idt_plan}
use Rattle.mdl_effect.specs.ProtectionEffects.{is_protected_only, protected_plan}
use Rattle.mdl_effect.specs.ControlEffects.{special_move_plan, store_status_word_plan, load_status_word_plan, clear_task_switched_plan, wait_plan, escape_plan}

-- the mnemonics of the system that every mode has
abbrev pub is_system : Op → Bool
is_system ops.Int = true
is_system ops.Int3 = true
is_system ops.Into = true
is_system ops.Pushf = true
is_system ops.Popf = true
is_system ops.Cli = true
is_system ops.Sti = true
is_system ops.Hlt = true
is_system ops.InPort = true
is_system ops.OutPort = true
is_system ops.Lgdt = true
is_system ops.Lidt = true
is_system ops.Sgdt = true
is_system ops.Sidt = true
is_system ops.Smsw = true
is_system ops.Lmsw = true
is_system ops.Clts = true
is_system ops.Wait = true
is_system ops.Esc = true
is_system _ = false

abbrev pub is_mov : Op → Bool
is_mov ops.Mov = true
is_mov _ = false

-- MOV to or from a control or debug register
abbrev pub is_special_move : Insn → Bool
is_special_move insn = is_mov insn.op && (is_special insn.a || is_special insn.b)

abbrev pub runs_system : Insn → Bool
runs_system insn = is_system insn.op || is_protected_only insn.op || is_special_move insn

-- what they do; `back` is the EIP behind the instruction
abbrev pub system_by : Op → Insn → Regs → Plan After
system_by ops.Int insn r = numbered_interrupt_plan (value_of r insn.a) r
system_by ops.Int3 insn r = interrupt_plan 3 r
system_by ops.Into insn r = overflow_plan r
system_by ops.Pushf insn r = push_flags_plan insn r
system_by ops.Popf insn r = pop_flags_plan insn r
system_by ops.Cli insn r = clear_interrupts_plan r
system_by ops.Sti insn r = set_interrupts_plan r
system_by ops.Hlt insn r = halt_plan r
system_by ops.InPort insn r = in_plan insn r
system_by ops.OutPort insn r = out_plan insn r
system_by ops.Lgdt insn r = load_gdt_plan insn r
system_by ops.Lidt insn r = load_idt_plan insn r
system_by ops.Sgdt insn r = store_gdt_plan insn r
system_by ops.Sidt insn r = store_idt_plan insn r
system_by ops.Smsw insn r = store_status_word_plan insn r
system_by ops.Lmsw insn r = load_status_word_plan insn r
system_by ops.Clts insn r = clear_task_switched_plan r
system_by ops.Wait insn r = wait_plan r
system_by ops.Esc insn r = escape_plan r
system_by ops.Mov insn r = special_move_plan insn r
system_by ops.Arpl insn r = protected_plan ops.Arpl insn r
system_by ops.Lar insn r = protected_plan ops.Lar insn r
system_by ops.Lsl insn r = protected_plan ops.Lsl insn r
system_by ops.Verr insn r = protected_plan ops.Verr insn r
system_by ops.Verw insn r = protected_plan ops.Verw insn r
system_by ops.Sldt insn r = protected_plan ops.Sldt insn r
system_by ops.Str insn r = protected_plan ops.Str insn r
system_by ops.Lldt insn r = protected_plan ops.Lldt insn r
system_by ops.Ltr insn r = protected_plan ops.Ltr insn r
system_by _ insn r = no_such

unfoldable pub system_effect : Insn → Regs → ℕ → Plan After
system_effect insn r back = system_by insn.op insn r
