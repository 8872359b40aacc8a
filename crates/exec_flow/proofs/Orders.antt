-- What PUSH pushes, and lists of registers by their first.
use Rattle.std.proofs.Common.{◌≡◌, ℕ, ◌-◌, ◌<◌, true, false, List, [], ◌∷◌, length, take, drop, get_or, refl, sym, ap, arith}
use Rattle.std.proofs.Math.Seq.{take-length}
use Rattle.mdl_state.specs.declared.Size.{Size}
use Rattle.mdl_state.specs.declared.Regs.{Regs}
use Rattle.mdl_state.specs.Registers.{reg_of}
use Rattle.mdl_state.specs.Attempt.{then_plan}
use Rattle.mdl_insn.specs.declared.instruction.Insn.{Insn}
use Rattle.mdl_insn.specs.declared.instruction.Operand.{Operand}
use Rattle.mdl_insn.specs.declared.instruction.Operand.TheVariants.{Sreg}
use Rattle.mdl_effect.specs.Operands.{is_segment, reading}
use Rattle.mdl_cpu.specs.Stack.{push_plan, pop_plan}
use Rattle.mdl_effect.specs.StackEffects.{pushing, push_of, push_operand_plan, push_all, popped_into, pop_all}
use Rattle.exec_flow.specs.Stacked.{selector_of, numbers_of}

segment_pushed : (a : Operand) (insn : Insn) (r : Regs) → is_segment a ≡ true → push_of a insn r ≡ pushing r insn.size (selector_of r a)
segment_pushed (Sreg seg) insn r e = refl
segment_pushed _ insn r e = absurd cc

number_pushed : (a : Operand) (insn : Insn) (r : Regs) → is_segment a ≡ false → push_of a insn r ≡ reading r a (λ value. pushing r insn.size value)
number_pushed (Sreg seg) insn r e = absurd cc
number_pushed _ insn r e = refl

pub push_segment : (insn : Insn) (r : Regs) → is_segment insn.a ≡ true → push_operand_plan insn r ≡ pushing r insn.size (selector_of r insn.a)
unfolding push_operand_plan
push_segment insn r e = segment_pushed insn.a insn r e

pub push_number : (insn : Insn) (r : Regs) → is_segment insn.a ≡ false → push_operand_plan insn r ≡ reading r insn.a (λ value. pushing r insn.size value)
unfolding push_operand_plan
push_number insn r e = number_pushed insn.a insn r e

pub ruleset pushes = (push_segment, push_number)

others : (n : ℕ) (ns : List ℕ) → take (length (n ∷ ns) - 1) ns ≡ ns
others n ns = let e : length (n ∷ ns) - 1 ≡ length ns = omega arith in rw e (take-length ns)

pub push_first : (old r : Regs) (size : Size) (ns : List ℕ) → 0 < length ns → push_all r size (numbers_of old size ns)
    ≡ then_plan (push_plan r size (reg_of old (get_or ns 0 0) size)) (λ q. push_all q size (numbers_of old size (take (length ns - 1) (drop 1 ns))))
push_first old r size [] some = absurd (omega arith)
push_first old r size (n ∷ ns) some = ap (λ (ms : List ℕ). then_plan (push_plan r size (reg_of old n size)) (λ q. push_all q size (numbers_of old size ms))) (sym (others n ns))

pub pop_first : (r : Regs) (size : Size) (ns : List ℕ) → 0 < length ns → pop_all r size ns
    ≡ then_plan (pop_plan r size) (λ popped. pop_all (popped_into (get_or ns 0 0) size popped) size (take (length ns - 1) (drop 1 ns)))
pop_first r size [] some = absurd (omega arith)
pop_first r size (n ∷ ns) some = ap (λ (ms : List ℕ). then_plan (pop_plan r size) (λ popped. pop_all (popped_into n size popped) size ms)) (sym (others n ns))

pub ruleset orders = (push_first, pop_first)
