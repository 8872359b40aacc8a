use Rattle.mdl_num.specs.Rotates.{turned}
use Rattle.bit_ops.proofs.Turns.{turned_word, turned-lt}
use Rattle.bit_ops.proofs.rotates.turn.Goals as goal

pub returns-clause-value : goal.returns-clause-value
unfolding turned
returns-clause-value c =
    turned_word c.args.string c.args.width c.args.by c.requires.string c.requires.by c.requires.width

pub returns-clause-bound : goal.returns-clause-bound
returns-clause-bound c =
    rw (turned_word c.args.string c.args.width c.args.by c.requires.string c.requires.by c.requires.width)
    (turned-lt c.args.string c.args.width c.args.by c.requires.string c.requires.by)
