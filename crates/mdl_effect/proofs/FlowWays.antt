-- Each way through the plan of an instruction of near flow, the stack and the flags.
use Rattle.std.proofs.Common.{◌≡◌, ℕ, zero, suc, ◌+◌, ◌==◌, ◌&&◌, Bool, true, false, List, [], ◌∷◌, refl}
use Rattle.std.specs.Prelude.{not, if◌then◌else◌}
use Rattle.mdl_state.specs.declared.Size.{Size}
use Rattle.mdl_state.specs.declared.Size.TheVariants.{B1}
use Rattle.mdl_state.specs.declared.Seg.TheVariants.{Ss}
use Rattle.mdl_state.specs.declared.Regs.{Regs}
use Rattle.mdl_state.specs.Registers.{reg_of}
use Rattle.mdl_num.specs.Flags.{is_set}
use Rattle.mdl_num.specs.declared.status.TheConstants.{CF, ZF}
use Rattle.mdl_insn.specs.declared.instruction.Insn.{Insn}
use Rattle.mdl_insn.specs.declared.instruction.Operand.{Operand}
use Rattle.mdl_insn.specs.declared.instruction.Operand.TheVariants.{Gpr, Sreg, Imm, At, Rel}
use Rattle.mdl_insn.specs.declared.mnemonics.Op.{Op}
use Rattle.mdl_insn.specs.declared.mnemonics.Op.TheVariants as ops
use Rattle.mdl_cpu.specs.Stack.{stack_top}
use Rattle.mdl_cpu.specs.Steady.{Steady}
use Rattle.mdl_effect.specs.Operands.{is_segment}
use Rattle.mdl_effect.specs.StackEffects.{pushing, push_of, push_operand_plan, pop_operand_plan, push_all, pusha_plan, popped_into, pop_all, popa_plan, copy_frames, push_frames, allowing_top, enter_plan, leave_plan}
use Rattle.mdl_effect.specs.Jumps.{branching, jump_plan, jump_if_plan, call_plan, return_plan, loop_plan, jump_if_none_plan}
use Rattle.mdl_effect.specs.FlagEffects.{flag_plan, flags_to_ah_plan, ah_to_flags_plan}
use Rattle.mdl_effect.specs.FlowEffects.{is_flow, is_pop, runs_flow, flow_by, flow_effect}
use Rattle.mdl_effect.specs.Kinds.{is_relative, is_target, is_pushed, is_popped}
use Rattle.mdl_effect.specs.Forms.{IsFormedAs, IsFormed}
use Rattle.mdl_effect.specs.Ways.{Leaves, IsComplete}
use Rattle.mdl_effect.proofs.Registers.{stays, then_stays, reg_stays, carry_stays, direction_stays, ah_stays}
use Rattle.mdl_effect.proofs.Operations.{follows, Ways, passes, then_way, either_way, is_read, legal_way, load_then, push_way, push_then, pop_then, reads, writes, lands, targets}

relative_target : (a : Operand) → is_relative a ≡ true → is_target a ≡ true
relative_target (Rel displacement) e = refl
relative_target _ e = absurd cc

popped_read : (a : Operand) → is_popped a ≡ true → is_segment a ≡ false → is_read a ≡ true
popped_read (Gpr n size) e s = refl
popped_read (At mem size) e s = refl
popped_read (Sreg seg) e s = absurd cc
popped_read _ e s = absurd cc

-- ---- the stack

pushes : (r : Regs) (size : Size) (value : ℕ) → Ways (Leaves r) (pushing r size value)
pushes r size value = push_then r r _ _ _ (stays r) (λ _ h. follows h)

push_of_way : (a : Operand) (insn : Insn) (r : Regs) → is_pushed a ≡ true → Ways (Leaves r) (push_of a insn r)
push_of_way (Sreg seg) insn r e = pushes r insn.size _
push_of_way (Gpr n size) insn r e = reads r (Gpr n size) _ refl (λ value. pushes r insn.size value)
push_of_way (Imm number size) insn r e = reads r (Imm number size) _ refl (λ value. pushes r insn.size value)
push_of_way (At mem size) insn r e = reads r (At mem size) _ refl (λ value. pushes r insn.size value)
push_of_way _ insn r e = absurd cc

pushes_all : (o r : Regs) (size : Size) (values : List ℕ) → Steady o r → Ways (Steady o) (push_all r size values)
pushes_all o r size [] h = passes h
pushes_all o r size (value ∷ more) h = push_then o r _ _ _ h (λ q k. pushes_all o q size more k)

either_regs : (c : Bool) (o p q : Regs) → Steady o p → Steady o q → Steady o (if c then p else q)
either_regs true o p q h k = h
either_regs false o p q h k = k

popped_stays : (o : Regs) (n : ℕ) (size : Size) (popped : ℕ × Regs) → Steady o popped.1 → Steady o (popped_into n size popped)
popped_stays o n size popped h = either_regs (n == 4) o _ _ h (then_stays h (reg_stays popped.1 n size popped.0))

pops_all : (o r : Regs) (size : Size) (numbers : List ℕ) → Steady o r → Ways (Steady o) (pop_all r size numbers)
pops_all o r size [] h = passes h
pops_all o r size (n ∷ more) h = pop_then o r _ _ h (λ popped k. pops_all o (popped_into n size popped) size more (popped_stays o n size popped k))

copies : (o old r : Regs) (size : Size) (n count : ℕ) → Steady o r → Ways (Steady o) (copy_frames old r size n count)
copies o old r size n zero h = passes h
copies o old r size n (suc count) h = load_then _ _ _ _ _ (λ value. push_then o r _ _ _ h (λ q k. copies o old q size (n + 1) count k))

frames : (o old r : Regs) (size : Size) (frame count : ℕ) → Steady o r → Ways (Steady o) (push_frames old r size frame count)
frames o old r size frame zero h = passes h
frames o old r size frame (suc between) h = then_way (copies o old r size 1 between h) (λ q k. push_way o q size frame k)

allows_top : (o r : Regs) → Steady o r → Ways (Leaves o) (allowing_top r)
allows_top o r h = legal_way r Ss (stack_top r) B1 true _ (λ _. follows h)

-- ---- the instructions

module _ (insn : Insn) (r : Regs) where
  push_operand_way : is_pushed insn.a ≡ true → Ways (Leaves r) (push_operand_plan insn r)
  unfolding push_operand_plan
  push_operand_way a = push_of_way insn.a insn r a

  pop_operand_way : is_read insn.a ≡ true → Ways (Leaves r) (pop_operand_plan insn r)
  unfolding pop_operand_plan
  pop_operand_way a = pop_then r r _ _ (stays r) (λ popped h. writes _ insn.a _ a h)

  pusha_way : Ways (Leaves r) (pusha_plan insn r)
  unfolding pusha_plan
  pusha_way = then_way (pushes_all r r insn.size (reg_of r 0 insn.size ∷ reg_of r 1 insn.size ∷ reg_of r 2 insn.size ∷ reg_of r 3 insn.size
      ∷ reg_of r 4 insn.size ∷ reg_of r 5 insn.size ∷ reg_of r 6 insn.size ∷ reg_of r 7 insn.size ∷ []) (stays r)) (λ _ h. follows h)

  popa_way : Ways (Leaves r) (popa_plan insn r)
  unfolding popa_plan
  popa_way = then_way (pops_all r r insn.size (7 ∷ 6 ∷ 5 ∷ 4 ∷ 3 ∷ 2 ∷ 1 ∷ 0 ∷ []) (stays r)) (λ _ h. follows h)

  enter_way : Ways (Leaves r) (enter_plan insn r)
  unfolding enter_plan
  enter_way = push_then r r _ _ _ (stays r) (λ q h.
      then_way (frames r r q insn.size _ _ h) (λ s k.
      allows_top r _ (then_stays (then_stays k (reg_stays s 4 _ _)) (reg_stays _ 5 insn.size _))))

  leave_way : Ways (Leaves r) (leave_plan insn r)
  unfolding leave_plan
  leave_way = pop_then r _ _ _ (reg_stays r 4 _ _) (λ popped h. follows (then_stays h (reg_stays popped.1 5 insn.size popped.0)))

  jump_way : (back : ℕ) → is_target insn.a ≡ true → Ways (Leaves r) (jump_plan insn r back)
  unfolding jump_plan
  jump_way back a = targets _ insn.a insn.size back _ a (λ eip. lands r r r eip (stays r))

  branches : (q : Regs) (taken : Bool) (back : ℕ) → is_target insn.a ≡ true → Steady r q → Ways (Leaves r) (branching taken insn q back)
  branches q taken back a h = either_way _ (targets _ insn.a insn.size back _ a (λ eip. lands r q q eip h)) (follows h)

  jump_if_way : (number back : ℕ) → is_relative insn.a ≡ true → Ways (Leaves r) (jump_if_plan number insn r back)
  unfolding jump_if_plan
  jump_if_way number back a = branches r _ back (relative_target insn.a a) (stays r)

  call_way : (back : ℕ) → is_target insn.a ≡ true → Ways (Leaves r) (call_plan insn r back)
  unfolding call_plan
  call_way back a = targets _ insn.a insn.size back _ a (λ eip. push_then r r _ _ _ (stays r) (λ q h. lands r q q eip h))

  return_way : Ways (Leaves r) (return_plan insn r)
  unfolding return_plan
  return_way = pop_then r r _ _ (stays r) (λ popped h. lands r popped.1 _ popped.0 (then_stays h (reg_stays popped.1 4 _ _)))

  loop_way : (also : Bool) (back : ℕ) → is_relative insn.a ≡ true → Ways (Leaves r) (loop_plan also insn r back)
  unfolding loop_plan
  loop_way also back a = branches _ _ back (relative_target insn.a a) (reg_stays r 1 _ _)

  jump_if_none_way : (back : ℕ) → is_relative insn.a ≡ true → Ways (Leaves r) (jump_if_none_plan insn r back)
  unfolding jump_if_none_plan
  jump_if_none_way back a = branches r _ back (relative_target insn.a a) (stays r)

carry_way : (on : Bool) (r : Regs) → Ways (Leaves r) (flag_plan CF on r)
unfolding flag_plan
carry_way on r = follows (carry_stays r on)

direction_way : (on : Bool) (r : Regs) → Ways (Leaves r) (flag_plan 10 on r)
unfolding flag_plan
direction_way on r = follows (direction_stays r on)

to_ah_way : (r : Regs) → Ways (Leaves r) (flags_to_ah_plan r)
unfolding flags_to_ah_plan
to_ah_way r = follows (reg_stays r 4 B1 _)

from_ah_way : (r : Regs) → Ways (Leaves r) (ah_to_flags_plan r)
unfolding ah_to_flags_plan
from_ah_way r = follows (ah_stays r (reg_of r 4 B1))

-- ---- by mnemonic

flow_way : (op : Op) (insn : Insn) (r : Regs) (back : ℕ) → IsFormedAs op insn → is_flow op ≡ true → (is_pop op ≡ true → is_segment insn.a ≡ false) → Ways (Leaves r) (flow_by op insn r back)
flow_way ops.Jmp insn r back f e s = jump_way insn r back f.1.0.0
flow_way (ops.Jcc number) insn r back f e s = jump_if_way insn r number back f.1.1.0
flow_way ops.Call insn r back f e s = call_way insn r back f.1.0.0
flow_way ops.Ret insn r back f e s = return_way insn r
flow_way ops.Loop insn r back f e s = loop_way insn r true back f.1.0
flow_way ops.Loope insn r back f e s = loop_way insn r (is_set r.eflags ZF) back f.1.0
flow_way ops.Loopne insn r back f e s = loop_way insn r (not (is_set r.eflags ZF)) back f.1.0
flow_way ops.Jcxz insn r back f e s = jump_if_none_way insn r back f.1.0
flow_way ops.Push insn r back f e s = push_operand_way insn r f.1.0.0
flow_way ops.Pop insn r back f e s = pop_operand_way insn r (popped_read insn.a f.1.0.0 (s refl))
flow_way ops.Pusha insn r back f e s = pusha_way insn r
flow_way ops.Popa insn r back f e s = popa_way insn r
flow_way ops.Enter insn r back f e s = enter_way insn r
flow_way ops.Leave insn r back f e s = leave_way insn r
flow_way ops.Clc insn r back f e s = carry_way false r
flow_way ops.Stc insn r back f e s = carry_way true r
flow_way ops.Cmc insn r back f e s = carry_way (not (is_set r.eflags CF)) r
flow_way ops.Cld insn r back f e s = direction_way false r
flow_way ops.Std insn r back f e s = direction_way true r
flow_way ops.Lahf insn r back f e s = to_ah_way r
flow_way ops.Sahf insn r back f e s = from_ah_way r
flow_way _ insn r back f e s = absurd cc

first_part : (a b : Bool) → (a && b) ≡ true → a ≡ true
first_part true b e = refl
first_part false b e = absurd cc

no_segment : (a b c : Bool) → (a && not (b && c)) ≡ true → b ≡ true → c ≡ false
no_segment true true true e h = absurd cc
no_segment true true false e h = refl
no_segment true false c e h = absurd cc
no_segment false b c e h = absurd cc

pub flow_complete : (insn : Insn) (r : Regs) (back : ℕ) → IsFormed insn → runs_flow insn ≡ true → IsComplete r (flow_effect insn r back)
unfolding flow_effect
flow_complete insn r back f e = (flow_way insn.op insn r back f (first_part _ _ e) (no_segment (is_flow insn.op) (is_pop insn.op) (is_segment insn.a) e)).ends
