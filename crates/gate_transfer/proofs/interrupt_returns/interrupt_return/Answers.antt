use Rattle.mdl_state.specs.Serving.{by_pick}
use Rattle.mdl_cpu.specs.Returns.{interrupt_return_plan}
use Rattle.mdl_cpu.proofs.TransferLaws.{iret_sound}
use Rattle.gate_transfer.proofs.Leaving.{made_sound}
use Rattle.gate_transfer.proofs.interrupt_returns.interrupt_return.Goals as goal

pub returns-clause-sound : goal.returns-clause-sound
returns-clause-sound g c =
    let old = c.args.regs.now in
    made_sound (by_pick g.L.Linear.pick) (interrupt_return_plan old c.args.size) old c.return_by_mode.new.regs (g.L.Linear.seen c.args.lin.now) (g.L.Linear.seen c.return_by_mode.new.lin)
    c.in_ok-outcome.outcome (iret_sound old c.args.size) c.in_ok-outcome.ensures.run
