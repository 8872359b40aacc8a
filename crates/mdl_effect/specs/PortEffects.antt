-- What IN and OUT do. Manual, chapters 8 and 17. The port has to be permitted, and it is used behind all else.
use Rattle.mdl_state.specs.declared.Regs.{Regs}
use Rattle.mdl_state.specs.declared.Next.TheVariants.{Follow}
use Rattle.mdl_state.specs.Registers.{reg_of, with_reg}
use Rattle.mdl_state.specs.Attempt.{Plan, Done, Input, then_plan}
use Rattle.mdl_insn.specs.declared.instruction.Insn.{Insn}
use Rattle.mdl_cpu.specs.Virtual.{port_plan}
use Rattle.mdl_effect.specs.Operands.{After, Reads, Writes, value_of}

-- IN: the port of the second operand is read into AL, AX or EAX
unfoldable pub in_plan : Insn → Regs → Plan After
in_plan insn r = then_plan (port_plan r (value_of r insn.b) insn.size) (λ _. Input (value_of r insn.b) insn.size (λ value.
    Done (record { regs = with_reg r 0 insn.size value; next = Follow; access = Reads (value_of r insn.b) insn.size })))

-- OUT: AL, AX or EAX is written to the port of the first operand
unfoldable pub out_plan : Insn → Regs → Plan After
out_plan insn r = then_plan (port_plan r (value_of r insn.a) insn.size) (λ _.
    Done (record { regs = r; next = Follow; access = Writes (value_of r insn.a) insn.size (reg_of r 0 insn.size) }))
