use Rattle.std.proofs.Common.{◌<◌, ◌%◌, ◌^◌, ◌∙◌, ap, sym, rules}
use Rattle.mdl_num.specs.Shifts.{double_shifted}
use Rattle.bit_ops.proofs.Moves.{double_left, double_right}
use Rattle.bit_ops.proofs.shifts.double_moved.Goals as goal

pub returns-in-B4-clause-value : goal.returns-in-B4-clause-value
unfolding double_shifted
returns-in-B4-clause-value c =
    let dest : c.args.dest < 2 ^ 32 = search rules in
    let reach = sym (double_left c.args.dest c.args.source c.args.by c.requires.by dest) in
    let value = rw c.in-B4.is at c.low-in-B4.ensures.value in
    rw (c.in-B4.is, c.if-left-2.true) (value ∙ ap (λ m. m % 2 ^ 32) reach)

pub returns-in-B4-2-clause-value : goal.returns-in-B4-2-clause-value
unfolding double_shifted
returns-in-B4-2-clause-value c =
    let reach = sym (double_right c.args.dest c.args.source c.args.by c.requires.by) in
    let value = rw c.in-B4-2.is at c.low-in-B4-2.ensures.value in
    rw (c.in-B4-2.is, c.if-left-2.false) (value ∙ reach)
