-- The instructions that only protected mode has. Manual, chapters 5, 6, 7, 14, 15 and 17, under ARPL, LAR, LSL, VERR,
-- VERW, SLDT, STR, LLDT and LTR.
use Rattle.std.specs.Prelude.{ℕ, Bool, true, false, if◌then◌else◌, Option, Some, None}
use Rattle.mdl_state.specs.declared.Regs.{Regs}
use Rattle.mdl_state.specs.Attempt.{Plan, Fail, then_plan}
use Rattle.mdl_num.specs.declared.status.TheConstants.{ZF}
use Rattle.mdl_insn.specs.declared.instruction.Insn.{Insn}
use Rattle.mdl_insn.specs.declared.instruction.Operand.{Operand}
use Rattle.mdl_insn.specs.declared.mnemonics.Op.{Op}
use Rattle.mdl_insn.specs.declared.mnemonics.Op.TheVariants as ops
use Rattle.mdl_cpu.specs.Segments.{is_protected}
use Rattle.mdl_cpu.specs.Faults.{undefined_opcode}
use Rattle.mdl_cpu.specs.Loads.{load_ldt_plan, load_task_plan}
use Rattle.mdl_cpu.specs.Visibility.{arpl, lar, lsl, verr, verw}
use Rattle.mdl_effect.specs.Operands.{After, Made, follow, no_such, value_of, with_value, reading, updating}
use Rattle.mdl_effect.specs.Moves.{storing_word}
use Rattle.mdl_effect.specs.FlagEffects.{with_flag}
use Rattle.mdl_effect.specs.InterruptEffects.{privileged}

-- ---- what a program may see

-- ZF says that there is a number, which is then that of the register
abbrev pub with_shown : Regs → Operand → Option ℕ → Regs
with_shown r a None = with_flag r ZF false
with_shown r a (Some number) = with_value (with_flag r ZF true) a number

-- LAR and LSL: the rights and the limit of the segment of a selector
unfoldable pub lar_plan : Insn → Regs → Plan After
lar_plan insn r = reading r insn.b (λ sel. then_plan (lar r sel insn.size) (λ shown. follow (with_shown r insn.a shown)))

unfoldable pub lsl_plan : Insn → Regs → Plan After
lsl_plan insn r = reading r insn.b (λ sel. then_plan (lsl r sel insn.size) (λ shown. follow (with_shown r insn.a shown)))

-- VERR and VERW: ZF says that the segment can be read, or written
unfoldable pub verr_plan : Insn → Regs → Plan After
verr_plan insn r = reading r insn.a (λ sel. then_plan (verr r sel) (λ good. follow (with_flag r ZF good)))

unfoldable pub verw_plan : Insn → Regs → Plan After
verw_plan insn r = reading r insn.a (λ sel. then_plan (verw r sel) (λ good. follow (with_flag r ZF good)))

-- ARPL: ZF says that the RPL was raised; memory is opened for writing and written, also where it was not
abbrev pub raised : Regs → ℕ → Option ℕ → Made
raised r dest None = record { value = dest; regs = with_flag r ZF false }
raised r dest (Some selector) = record { value = selector; regs = with_flag r ZF true }

unfoldable pub arpl_plan : Insn → Regs → Plan After
arpl_plan insn r = updating r insn.a (λ dest. raised r dest (arpl dest (value_of r insn.b)))

-- ---- LDTR and TR

-- SLDT and STR store the selector, at every level
unfoldable pub sldt_plan : Insn → Regs → Plan After
sldt_plan insn r = storing_word insn r r.ldtr.sel

unfoldable pub str_plan : Insn → Regs → Plan After
str_plan insn r = storing_word insn r r.tr.sel

-- LLDT and LTR load them at level 0
unfoldable pub lldt_plan : Insn → Regs → Plan After
lldt_plan insn r = privileged r (reading r insn.a (λ sel. then_plan (load_ldt_plan r sel) follow))

unfoldable pub ltr_plan : Insn → Regs → Plan After
ltr_plan insn r = privileged r (reading r insn.a (λ sel. then_plan (load_task_plan r sel) follow))

-- ---- by mnemonic

abbrev pub is_protected_only : Op → Bool
is_protected_only ops.Arpl = true
is_protected_only ops.Lar = true
is_protected_only ops.Lsl = true
is_protected_only ops.Verr = true
is_protected_only ops.Verw = true
is_protected_only ops.Sldt = true
is_protected_only ops.Str = true
is_protected_only ops.Lldt = true
is_protected_only ops.Ltr = true
is_protected_only _ = false

-- what they do in protected mode
abbrev pub protected_by : Op → Insn → Regs → Plan After
protected_by ops.Arpl insn r = arpl_plan insn r
protected_by ops.Lar insn r = lar_plan insn r
protected_by ops.Lsl insn r = lsl_plan insn r
protected_by ops.Verr insn r = verr_plan insn r
protected_by ops.Verw insn r = verw_plan insn r
protected_by ops.Sldt insn r = sldt_plan insn r
protected_by ops.Str insn r = str_plan insn r
protected_by ops.Lldt insn r = lldt_plan insn r
protected_by ops.Ltr insn r = ltr_plan insn r
protected_by _ insn r = no_such

-- to real mode and V86 they are not defined
abbrev pub protected_plan : Op → Insn → Regs → Plan After
protected_plan op insn r = if is_protected r then protected_by op insn r else Fail undefined_opcode
