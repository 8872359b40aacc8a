use Rattle.std.proofs.Common.{◌+◌, arith}
use Rattle.pc_machine.proofs.Bursts.{next_rises, split_next_at, split_past}
use Rattle.pc_machine.proofs.running.steps_before_next.Goals as goal

pub overflow_sub-next : goal.overflow_sub-next
overflow_sub-next c = omega (arith, next_rises (c.args.count + 1) (c.args.count + 1) c.args.events.now c.args.at c.requires.split (omega arith))

pub returns-then-at-events-clause-some : goal.returns-then-at-events-clause-some
returns-then-at-events-clause-some c = omega (arith, c.min.ensures, next_rises (c.args.count + 1) (c.args.count + 1) c.args.events.now c.args.at c.requires.split (omega arith))

pub returns-then-at-events-clause-split : goal.returns-then-at-events-clause-split
returns-then-at-events-clause-split c =
    let rises = next_rises (c.args.count + 1) (c.args.count + 1) c.args.events.now c.args.at c.requires.split (omega arith) in
    split_next_at (c.args.count + 1) (c.args.count + 1) (c.args.count + c.min.result) c.args.events.now c.args.at c.requires.split (omega arith) (omega (arith, c.min.ensures, rises))

pub returns-clause-split : goal.returns-clause-split
returns-clause-split c = split_past (c.args.count + 1) (c.args.count + 1) (c.args.count + c.args.most) c.args.events.now c.args.at c.requires.split (omega arith)
