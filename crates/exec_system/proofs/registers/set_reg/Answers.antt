use Rattle.mdl_state.specs.declared.Regs.{Regs}
use Rattle.mdl_state.specs.Registers.{with_reg}
use Rattle.exec_system.proofs.WholeOwn.{settled}
use Rattle.exec_system.proofs.registers.set_reg.Goals as goal

pub returns : goal.returns
returns c = settled c.args.regs.now c.set_reg.new.regs (λ (q : Regs). with_reg q c.args.n c.args.size c.args.value)
    c.set_reg.ensures.kept.eflags (c.set_reg.ensures.value c.args.regs.now.eflags)
