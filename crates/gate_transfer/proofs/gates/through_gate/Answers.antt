use Rattle.mdl_state.specs.Serving.{by_pick}
use Rattle.mdl_cpu.specs.Gates.{gate_way_plan}
use Rattle.mdl_cpu.proofs.TransferLaws.{way_sound}
use Rattle.gate_transfer.proofs.Leaving.{made_sound, leaves_watch}
use Rattle.gate_transfer.proofs.gates.through_gate.Goals as goal

pub returns-in-Ok-clause-sound : goal.returns-in-Ok-clause-sound
returns-in-Ok-clause-sound g c =
    let old = c.args.regs.now in
    made_sound (by_pick g.L.Linear.pick) (gate_way_plan c.args.cause old) old c.try_enter.new.regs (g.L.Linear.seen c.args.lin.now) (g.L.Linear.seen c.try_enter.new.lin)
    c.in-Ok.outcome (way_sound c.args.cause old) c.in-Ok.ensures.run

pub returns-in-Ok-clause-watch : goal.returns-in-Ok-clause-watch
returns-in-Ok-clause-watch g c =
    leaves_watch g.L.Linear.pick (gate_way_plan c.args.cause c.args.regs.now) c.try_enter.new.regs (g.L.Linear.seen c.args.lin.now) (g.L.Linear.seen c.try_enter.new.lin) c.try_enter.result c.try_enter.ensures.run

pub returns-in-Err-clause-watch : goal.returns-in-Err-clause-watch
returns-in-Err-clause-watch g c =
    leaves_watch g.L.Linear.pick (gate_way_plan c.args.cause c.args.regs.now) c.try_enter.new.regs (g.L.Linear.seen c.args.lin.now) (g.L.Linear.seen c.try_enter.new.lin) c.try_enter.result c.try_enter.ensures.run
