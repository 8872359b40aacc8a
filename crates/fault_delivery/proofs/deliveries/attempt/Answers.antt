use Rattle.fault_delivery.proofs.Attempts.{enters}
use Rattle.fault_delivery.proofs.deliveries.attempt.Goals as goal

-- src/deliveries.rt:86:46
pub enter_task-requires-clause-mode : goal.enter_task-requires-clause-mode
enter_task-requires-clause-mode g c = (enters g.L.Linear.pick c.args.cause c.args.regs.now c.through_gate.new.regs (g.L.Linear.seen c.args.lin.now) (g.L.Linear.seen c.through_gate.new.lin) (g.L.Linear.seen c.commit.new.self)
    c.in-Ok.way c.in-Switch.selector c.in-Ok.ensures.run c.in-Switch.is c.through_gate.ensures.sound c.through_gate.ensures.keeps c.commit.ensures.keeps c.requires.ready).mode

-- src/deliveries.rt:86:46
pub enter_task-requires-clause-sound : goal.enter_task-requires-clause-sound
enter_task-requires-clause-sound g c = (enters g.L.Linear.pick c.args.cause c.args.regs.now c.through_gate.new.regs (g.L.Linear.seen c.args.lin.now) (g.L.Linear.seen c.through_gate.new.lin) (g.L.Linear.seen c.commit.new.self)
    c.in-Ok.way c.in-Switch.selector c.in-Ok.ensures.run c.in-Switch.is c.through_gate.ensures.sound c.through_gate.ensures.keeps c.commit.ensures.keeps c.requires.ready).sound

-- src/deliveries.rt:86:46
pub enter_task-requires-clause-tables : goal.enter_task-requires-clause-tables
enter_task-requires-clause-tables g c = (enters g.L.Linear.pick c.args.cause c.args.regs.now c.through_gate.new.regs (g.L.Linear.seen c.args.lin.now) (g.L.Linear.seen c.through_gate.new.lin) (g.L.Linear.seen c.commit.new.self)
    c.in-Ok.way c.in-Switch.selector c.in-Ok.ensures.run c.in-Switch.is c.through_gate.ensures.sound c.through_gate.ensures.keeps c.commit.ensures.keeps c.requires.ready).tables
