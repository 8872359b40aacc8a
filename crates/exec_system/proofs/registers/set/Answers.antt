use Rattle.mdl_state.specs.declared.Regs.{Regs}
use Rattle.mdl_effect.specs.Operands.{with_value}
use Rattle.exec_system.proofs.WholeOwn.{settled}
use Rattle.exec_system.proofs.registers.set.Goals as goal

pub returns : goal.returns
returns c = settled c.args.regs.now c.set.new.regs (λ (q : Regs). with_value q c.args.operand.now c.args.value)
    c.set.ensures.kept.eflags (c.set.ensures.value c.args.regs.now.eflags)
