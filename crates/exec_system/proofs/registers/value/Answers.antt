use Rattle.std.proofs.Common.{◌≡◌, subst}
use Rattle.mdl_state.specs.declared.Regs.{Regs}
use Rattle.mdl_effect.specs.Operands.{value_of}
use Rattle.operands.proofs.Modes.{whole_own}
use Rattle.exec_system.proofs.registers.value.Goals as goal

pub returns-clause-value : goal.returns-clause-value
returns-clause-value c = subst (λ (q : Regs). c.value.result ≡ value_of q c.args.operand.now) (whole_own c.args.regs.now) (c.value.ensures.value c.args.regs.now.eflags)
