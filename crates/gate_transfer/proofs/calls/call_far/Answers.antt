use Rattle.mdl_state.specs.Serving.{by_pick}
use Rattle.mdl_cpu.specs.Transfers.{call_far_plan}
use Rattle.mdl_cpu.proofs.TransferLaws.{call_sound}
use Rattle.gate_transfer.proofs.Leaving.{made_sound}
use Rattle.gate_transfer.proofs.calls.call_far.Goals as goal

pub returns-clause-sound : goal.returns-clause-sound
returns-clause-sound g c =
    let old = c.args.regs.now in
    made_sound (by_pick g.L.Linear.pick) (call_far_plan old c.args.sel c.args.off c.args.size c.args.back) old c.call.new.regs (g.L.Linear.seen c.args.lin.now) (g.L.Linear.seen c.call.new.lin)
    c.in_ok-outcome.outcome (call_sound old c.args.sel c.args.off c.args.size c.args.back) c.in_ok-outcome.ensures.run
