use Rattle.mdl_state.specs.Serving.{by_pick}
use Rattle.task_switch.proofs.Pushes.{pushed_stays}
use Rattle.task_switch.proofs.new_task.push_code.Goals as goal

pub returns-in-Some-clause-steady : goal.returns-in-Some-clause-steady
returns-in-Some-clause-steady g c =
    let seen = g.L.Linear.seen in
    pushed_stays (by_pick g.L.Linear.pick) c.args.regs.now c.push.new.regs c.code_size.result c.in-Some.code (seen c.args.lin.now) (seen c.push.new.lin) c.push.result
    c.push.ensures.run c.push.ensures.unchanged
