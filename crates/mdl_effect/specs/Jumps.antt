-- What the near jumps, calls and loops do. Manual, chapters 3 and 17.
use Rattle.std.specs.Prelude.{ℕ, ◌+◌, ◌%◌, ◌==◌, ◌&&◌, nat_le, not, Bool, if◌then◌else◌}
use Rattle.mdl_state.specs.declared.Size.{Size}
use Rattle.mdl_state.specs.declared.Seg.TheVariants.{Cs}
use Rattle.mdl_state.specs.declared.Regs.{Regs}
use Rattle.mdl_state.specs.declared.Next.TheVariants as next
use Rattle.mdl_state.specs.Bytes.{bound_of}
use Rattle.mdl_state.specs.Registers.{seg_of}
use Rattle.mdl_state.specs.Attempt.{Plan, Done, Fail, then_plan}
use Rattle.mdl_insn.specs.declared.instruction.Insn.{Insn}
use Rattle.mdl_insn.specs.declared.instruction.Operand.{Operand}
use Rattle.mdl_insn.specs.declared.instruction.Operand.TheVariants.{Rel}
use Rattle.mdl_effect.specs.Operands.{After, NoPort, follow, count_of, counted_down, value_of, reading}
use Rattle.mdl_effect.specs.Conditions.{condition}
use Rattle.mdl_cpu.specs.Faults.{general_protection}
use Rattle.mdl_cpu.specs.Stack.{with_top, above_top, push_plan, pop_plan}

-- ---- jumps

-- EIP set in these registers, unless it lies past the limit of CS
abbrev pub landing : Regs → Regs → ℕ → Plan After
landing r moved eip = if nat_le eip (seg_of r Cs).limit then Done (record { regs = record moved { eip = eip }; next = next.Landed; access = NoPort }) else Fail (general_protection 0)

-- where a branch leads: so far from behind the instruction, cut to the operand size, or to a number
abbrev pub target_by : Operand → Size → Regs → ℕ → (ℕ → Plan After) → Plan After
target_by (Rel displacement) size r back k = k ((back + displacement) % bound_of size)
target_by a size r back k = reading r a k

-- JMP
unfoldable pub jump_plan : Insn → Regs → ℕ → Plan After
jump_plan insn r back = target_by insn.a insn.size r back (λ eip. landing r r eip)

-- a branch from these registers where a condition holds
abbrev pub branching : Bool → Insn → Regs → ℕ → Plan After
branching taken insn r back = if taken then target_by insn.a insn.size r back (λ eip. landing r r eip) else follow r

-- Jcc
unfoldable pub jump_if_plan : ℕ → Insn → Regs → ℕ → Plan After
jump_if_plan number insn r back = branching (condition number r.eflags) insn r back

-- ---- calls

-- CALL: the EIP behind the instruction is pushed before the new one is tested
unfoldable pub call_plan : Insn → Regs → ℕ → Plan After
call_plan insn r back = target_by insn.a insn.size r back (λ eip.
    then_plan (push_plan r insn.size (back % bound_of insn.size)) (λ q. landing q q eip))

-- RET: EIP is popped and tested, and then so many bytes more are taken off the stack
unfoldable pub return_plan : Insn → Regs → Plan After
return_plan insn r = then_plan (pop_plan r insn.size) (λ popped.
    landing popped.1 (with_top popped.1 (above_top popped.1 (value_of r insn.a))) popped.0)

-- ---- loops

-- LOOP, LOOPE and LOOPNE: the count falls first, and no flag changes
unfoldable pub loop_plan : Bool → Insn → Regs → ℕ → Plan After
loop_plan also insn r back = branching (not (count_of (counted_down r insn.wide) insn.wide == 0) && also) insn (counted_down r insn.wide) back

-- JCXZ and JECXZ
unfoldable pub jump_if_none_plan : Insn → Regs → ℕ → Plan After
jump_if_none_plan insn r back = branching (count_of r insn.wide == 0) insn r back
