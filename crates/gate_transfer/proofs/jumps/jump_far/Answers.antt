use Rattle.mdl_state.specs.Serving.{by_pick}
use Rattle.mdl_cpu.specs.Transfers.{jump_far_plan}
use Rattle.mdl_cpu.proofs.TransferLaws.{jump_sound}
use Rattle.gate_transfer.proofs.Leaving.{made_sound}
use Rattle.gate_transfer.proofs.jumps.jump_far.Goals as goal

pub returns-clause-sound : goal.returns-clause-sound
returns-clause-sound g c =
    let old = c.args.regs.now in
    made_sound (by_pick g.L.Linear.pick) (jump_far_plan old c.args.sel c.args.off c.args.size) old c.jump.new.regs (g.L.Linear.seen c.args.lin.now) (g.L.Linear.seen c.jump.new.lin)
    c.in_ok-outcome.outcome (jump_sound old c.args.sel c.args.off c.args.size) c.in_ok-outcome.ensures.run
