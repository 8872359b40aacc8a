-- Which instructions are those of near flow, the stack and the flags, and what each of them does. Manual,
-- chapters 3 and 17.
use Rattle.std.specs.Prelude.{ℕ, ◌&&◌, not, Bool, true, false}
use Rattle.mdl_state.specs.declared.Regs.{Regs}
use Rattle.mdl_state.specs.Attempt.{Plan}
use Rattle.mdl_num.specs.declared.status.TheConstants.{CF, ZF}
use Rattle.mdl_num.specs.Flags.{is_set}
use Rattle.mdl_insn.specs.declared.instruction.Insn.{Insn}
use Rattle.mdl_insn.specs.declared.mnemonics.Op.{Op}
use Rattle.mdl_insn.specs.declared.mnemonics.Op.TheVariants as ops
use Rattle.mdl_effect.specs.Operands.{After, no_such, is_segment, DF}
use Rattle.mdl_effect.specs.StackEffects.{push_operand_plan, pop_operand_plan, pusha_plan, popa_plan, enter_plan, leave_plan}
use Rattle.mdl_effect.specs.Jumps.{jump_plan, jump_if_plan, call_plan, return_plan, loop_plan, jump_if_none_plan}
use Rattle.mdl_effect.specs.FlagEffects.{flag_plan, flags_to_ah_plan, ah_to_flags_plan}

-- the mnemonics of near flow, the stack and the flags
abbrev pub is_flow : Op → Bool
is_flow ops.Jmp = true
is_flow (ops.Jcc number) = true
is_flow ops.Call = true
is_flow ops.Ret = true
is_flow ops.Loop = true
is_flow ops.Loope = true
is_flow ops.Loopne = true
is_flow ops.Jcxz = true
is_flow ops.Push = true
is_flow ops.Pop = true
is_flow ops.Pusha = true
is_flow ops.Popa = true
is_flow ops.Enter = true
is_flow ops.Leave = true
is_flow ops.Clc = true
is_flow ops.Stc = true
is_flow ops.Cmc = true
is_flow ops.Cld = true
is_flow ops.Std = true
is_flow ops.Lahf = true
is_flow ops.Sahf = true
is_flow _ = false

abbrev pub is_pop : Op → Bool
is_pop ops.Pop = true
is_pop _ = false

-- near jumps and calls, loops, the stack but for a POP of a segment register, and the flags
abbrev pub runs_flow : Insn → Bool
runs_flow insn = is_flow insn.op && not (is_pop insn.op && is_segment insn.a)

-- what they do; `back` is the EIP behind the instruction
abbrev pub flow_by : Op → Insn → Regs → ℕ → Plan After
flow_by ops.Jmp insn r back = jump_plan insn r back
flow_by (ops.Jcc number) insn r back = jump_if_plan number insn r back
flow_by ops.Call insn r back = call_plan insn r back
flow_by ops.Ret insn r back = return_plan insn r
flow_by ops.Loop insn r back = loop_plan true insn r back
flow_by ops.Loope insn r back = loop_plan (is_set r.eflags ZF) insn r back
flow_by ops.Loopne insn r back = loop_plan (not (is_set r.eflags ZF)) insn r back
flow_by ops.Jcxz insn r back = jump_if_none_plan insn r back
flow_by ops.Push insn r back = push_operand_plan insn r
flow_by ops.Pop insn r back = pop_operand_plan insn r
flow_by ops.Pusha insn r back = pusha_plan insn r
flow_by ops.Popa insn r back = popa_plan insn r
flow_by ops.Enter insn r back = enter_plan insn r
flow_by ops.Leave insn r back = leave_plan insn r
flow_by ops.Clc insn r back = flag_plan CF false r
flow_by ops.Stc insn r back = flag_plan CF true r
flow_by ops.Cmc insn r back = flag_plan CF (not (is_set r.eflags CF)) r
flow_by ops.Cld insn r back = flag_plan DF false r
flow_by ops.Std insn r back = flag_plan DF true r
flow_by ops.Lahf insn r back = flags_to_ah_plan r
flow_by ops.Sahf insn r back = ah_to_flags_plan r
flow_by _ insn r back = no_such

unfoldable pub flow_effect : Insn → Regs → ℕ → Plan After
flow_effect insn r back = flow_by insn.op insn r back
