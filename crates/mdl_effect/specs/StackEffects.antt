-- What the instructions of the stack do. Manual, chapter 17, under PUSH, PUSHA, POP, POPA, ENTER and LEAVE.
use Rattle.std.specs.Prelude.{ℕ, zero, suc, ◌+◌, ◌-◌, ◌*◌, ◌%◌, ◌==◌, true, if◌then◌else◌, List, [], ◌∷◌}
use Rattle.mdl_state.specs.declared.Size.{Size}
use Rattle.mdl_state.specs.declared.Size.TheVariants.{B1}
use Rattle.mdl_state.specs.declared.Seg.TheVariants.{Ss}
use Rattle.mdl_state.specs.declared.Regs.{Regs}
use Rattle.mdl_state.specs.Bytes.{bytes_of, bound_of}
use Rattle.mdl_state.specs.Registers.{reg_of, with_reg, seg_of}
use Rattle.mdl_state.specs.Attempt.{Plan, Done, then_plan, checked}
use Rattle.mdl_insn.specs.declared.instruction.Insn.{Insn}
use Rattle.mdl_insn.specs.declared.instruction.Operand.{Operand}
use Rattle.mdl_insn.specs.declared.instruction.Operand.TheVariants.{Sreg}
use Rattle.mdl_effect.specs.Operands.{After, follow, value_of, reading, writing}
use Rattle.mdl_cpu.specs.Access.{legal, load_from}
use Rattle.mdl_cpu.specs.Stack.{stack_size, stack_top, with_top, below_top, push_plan, pop_plan}

-- ---- PUSH and POP

-- a number onto the stack, and no more
abbrev pub pushing : Regs → Size → ℕ → Plan After
pushing r size value = then_plan (push_plan r size value) follow

-- a segment register in the size of the instruction, or another operand. The stack pointer is pushed as it was.
abbrev pub push_of : Operand → Insn → Regs → Plan After
push_of (Sreg seg) insn r = pushing r insn.size (seg_of r seg).sel
push_of a insn r = reading r a (λ value. pushing r insn.size value)

unfoldable pub push_operand_plan : Insn → Regs → Plan After
push_operand_plan insn r = push_of insn.a insn r

-- The stack is read first, and the address of an operand in memory is that by the new stack pointer.
unfoldable pub pop_operand_plan : Insn → Regs → Plan After
pop_operand_plan insn r = then_plan (pop_plan r insn.size) (λ popped. writing popped.1 insn.a popped.0)

-- ---- PUSHA and POPA

abbrev pub push_all : Regs → Size → List ℕ → Plan Regs
push_all r size [] = Done r
push_all r size (value ∷ more) = then_plan (push_plan r size value) (λ q. push_all q size more)

-- the eight registers as they stand before the first is pushed, the accumulator first
unfoldable pub pusha_plan : Insn → Regs → Plan After
pusha_plan insn r = then_plan (push_all r insn.size (reg_of r 0 insn.size ∷ reg_of r 1 insn.size ∷ reg_of r 2 insn.size ∷ reg_of r 3 insn.size
    ∷ reg_of r 4 insn.size ∷ reg_of r 5 insn.size ∷ reg_of r 6 insn.size ∷ reg_of r 7 insn.size ∷ [])) follow

-- a number that is popped into a register; the stack pointer's is dropped. Own: The slot that POPA skips.
abbrev pub popped_into : ℕ → Size → ℕ × Regs → Regs
popped_into n size popped = if n == 4 then popped.1 else with_reg popped.1 n size popped.0

abbrev pub pop_all : Regs → Size → List ℕ → Plan Regs
pop_all r size [] = Done r
pop_all r size (n ∷ more) = then_plan (pop_plan r size) (λ popped. pop_all (popped_into n size popped) size more)

-- the eight registers, the last that PUSHA pushes first
unfoldable pub popa_plan : Insn → Regs → Plan After
popa_plan insn r = then_plan (pop_all r insn.size (7 ∷ 6 ∷ 5 ∷ 4 ∷ 3 ∷ 2 ∷ 1 ∷ 0 ∷ [])) follow

-- ---- ENTER and LEAVE. Own: The frame of ENTER.

-- the frame pointer less so many numbers, modulo the size of the stack pointer
abbrev pub below_frame : Regs → Size → ℕ → ℕ
below_frame r size count = (reg_of r 5 (stack_size r) + (bound_of (stack_size r) - bytes_of size * count)) % bound_of (stack_size r)

-- the frame pointers of so many outer levels, from that of number `n` below the old one on
abbrev pub copy_frames : Regs → Regs → Size → ℕ → ℕ → Plan Regs
copy_frames old r size n zero = Done r
copy_frames old r size n (suc count) = then_plan (load_from r Ss (below_frame old size n) size) (λ value.
    then_plan (push_plan r size value) (λ q. copy_frames old q size (n + 1) count))

-- of a level above 0 the frames of the levels between, and then the new one
abbrev pub push_frames : Regs → Regs → Size → ℕ → ℕ → Plan Regs
push_frames old r size frame zero = Done r
push_frames old r size frame (suc between) = then_plan (copy_frames old r size 1 between) (λ q. push_plan q size frame)

-- the frame pointer set, and so many bytes left free below the top
abbrev pub framed : Regs → Size → ℕ → ℕ → Regs
framed r size frame bytes = with_reg (with_top r (below_top r bytes)) 5 size frame

-- the byte at the new top must be one that the stack segment allows to be written
abbrev pub allowing_top : Regs → Plan After
allowing_top r = checked (legal r Ss (stack_top r) B1 true) (λ _. follow r)

-- ENTER: the frame pointer is pushed, and becomes the stack pointer that is then; the level is taken modulo 32.
-- The new stack pointer is tested last.
unfoldable pub enter_plan : Insn → Regs → Plan After
enter_plan insn r = then_plan (push_plan r insn.size (reg_of r 5 insn.size)) (λ q.
    then_plan (push_frames r q insn.size (reg_of q 4 insn.size) (value_of r insn.b % 32)) (λ s.
    allowing_top (framed s insn.size (reg_of q 4 insn.size) (value_of r insn.a))))

-- LEAVE: the stack pointer is set to the frame pointer, which is then popped
unfoldable pub leave_plan : Insn → Regs → Plan After
leave_plan insn r = then_plan (pop_plan (with_top r (reg_of r 5 (stack_size r))) insn.size) (λ popped. follow (with_reg popped.1 5 insn.size popped.0))
