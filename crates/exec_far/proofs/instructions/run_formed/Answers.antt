use Rattle.exec_far.proofs.Leaving.{still_agrees, task_mode}
use Rattle.exec_far.proofs.instructions.run_formed.Goals as goal

pub enter_task-requires-clause-mode : goal.enter_task-requires-clause-mode
enter_task-requires-clause-mode g c = task_mode c.args.regs.now c.transfer.new.regs c.in-Ok.far.outcome c.in-Switch.task c.in-Ok.ensures.real c.in-Switch.is c.transfer.ensures.stays

pub enter_task-requires-clause-tables : goal.enter_task-requires-clause-tables
enter_task-requires-clause-tables g c = still_agrees c.args.regs.now c.transfer.new.regs (g.L.Linear.seen c.args.lin.now) (g.L.Linear.seen c.transfer.new.lin) (g.L.Linear.seen c.commit.new.self)
    c.transfer.ensures.stays c.transfer.ensures.keeps c.commit.ensures.keeps c.requires.tables
