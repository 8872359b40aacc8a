use Rattle.task_switch.proofs.FirstRegisters.{agree_after, sound_after}
use Rattle.task_switch.proofs.switches.enter.Goals as goal

pub returns-in-Ok-clause-tables : goal.returns-in-Ok-clause-tables
returns-in-Ok-clause-tables g c =
    let seen = g.L.Linear.seen in
    agree_after c.args.regs.now c.begin.new.regs c.load_task.new.regs c.args.request c.args.task.now
    (seen c.args.lin.now) (seen c.set_directory.new.lin) (seen c.load_task.new.lin) (seen c.commit.new.self)
    c.requires.tables c.begin.ensures c.set_directory.ensures.paging c.set_directory.ensures.cr3 c.load_task.ensures.keeps c.commit.ensures.keeps c.load_task.ensures.steady

pub returns-in-Ok-clause-sound : goal.returns-in-Ok-clause-sound
returns-in-Ok-clause-sound g c = λ protected.
    sound_after c.args.regs.now c.begin.new.regs c.load_task.new.regs c.args.request c.args.task.now c.begin.ensures c.load_task.ensures.steady protected

pub returns-in-Err-clause-tables : goal.returns-in-Err-clause-tables
returns-in-Err-clause-tables g c =
    let seen = g.L.Linear.seen in
    agree_after c.args.regs.now c.begin.new.regs c.load_task.new.regs c.args.request c.args.task.now
    (seen c.args.lin.now) (seen c.set_directory.new.lin) (seen c.load_task.new.lin) (seen c.discard.new.self)
    c.requires.tables c.begin.ensures c.set_directory.ensures.paging c.set_directory.ensures.cr3 c.load_task.ensures.keeps c.discard.ensures.keeps c.load_task.ensures.steady

pub returns-in-Err-clause-sound : goal.returns-in-Err-clause-sound
returns-in-Err-clause-sound g c = λ protected.
    sound_after c.args.regs.now c.begin.new.regs c.load_task.new.regs c.args.request c.args.task.now c.begin.ensures c.load_task.ensures.steady protected
