use Rattle.mdl_state.specs.Serving.{by_pick}
use Rattle.lazy_flags.specs.Keeper.{with_status}
use Rattle.operands.specs.Whole.{whole}
use Rattle.exec_data.proofs.Readings.{second_ran, second_refused}
use Rattle.exec_data.proofs.reads.run_second.Goals as goal

pub returns-in-Ok-clause-run : goal.returns-in-Ok-clause-run
returns-in-Ok-clause-run g c =
    second_ran (by_pick g.L.Linear.pick) c.args.insn.now c.in-Ok.value c.run_formed.result (whole c.args.regs.now c.args.flags.now) (whole c.run_formed.new.regs c.run_formed.new.flags)
    (with_status c.run_formed.new.regs.eflags c.run_formed.new.flags) (g.L.Linear.seen c.args.lin.now) (g.L.Linear.seen c.read.new.lin)
    c.requires.reads c.requires.b (c.in-Ok.ensures.run c.args.flags.now) (rw c.with_second.ensures at c.run_formed.ensures.plan)

pub returns-in-Err-clause-run : goal.returns-in-Err-clause-run
returns-in-Err-clause-run g c =
    second_refused (by_pick g.L.Linear.pick) c.args.insn.now c.in-Err.fault (whole c.args.regs.now c.args.flags.now) (with_status c.args.regs.now.eflags c.args.flags.now)
    (g.L.Linear.seen c.args.lin.now) (g.L.Linear.seen c.read.new.lin) c.requires.reads c.requires.b (c.in-Err.ensures.run c.args.flags.now)
