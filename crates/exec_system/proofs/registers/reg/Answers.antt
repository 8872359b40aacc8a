use Rattle.std.proofs.Common.{◌≡◌, subst}
use Rattle.mdl_state.specs.declared.Regs.{Regs}
use Rattle.mdl_state.specs.Registers.{reg_of}
use Rattle.operands.proofs.Modes.{whole_own}
use Rattle.exec_system.proofs.registers.reg.Goals as goal

pub returns-clause-value : goal.returns-clause-value
returns-clause-value c = subst (λ (q : Regs). c.reg.result ≡ reg_of q c.args.n c.args.size) (whole_own c.args.regs.now) (c.reg.ensures.value c.args.regs.now.eflags)
