use Rattle.mdl_state.specs.Serving.{by_pick}
use Rattle.mdl_cpu.specs.Returns.{return_far_plan}
use Rattle.mdl_cpu.proofs.TransferLaws.{return_sound}
use Rattle.gate_transfer.proofs.Leaving.{returned_sound}
use Rattle.gate_transfer.proofs.returns.return_far.Goals as goal

pub returns-clause-sound : goal.returns-clause-sound
returns-clause-sound g c =
    let old = c.args.regs.now in
    returned_sound (by_pick g.L.Linear.pick) (return_far_plan old c.args.size c.args.drop) old c.return_by_mode.new.regs (g.L.Linear.seen c.args.lin.now) (g.L.Linear.seen c.return_by_mode.new.lin)
    c.in_ok-return_by_mode.field-0 (return_sound old c.args.size c.args.drop) c.in_ok-return_by_mode.ensures.run
