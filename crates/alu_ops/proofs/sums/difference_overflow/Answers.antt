use Rattle.std.proofs.Common.{refl, rules}
use Rattle.std.specs.Int.{from_bool}
use Rattle.mdl_num.specs.Sums.{difference_overflows}
use Rattle.alu_ops.proofs.SignedWords.{difference_in_word}
use Rattle.alu_ops.proofs.sums.difference_overflow.Goals as goal

pub returns : goal.returns
unfolding difference_overflows
returns c =
    let a = c.signed.ensures in
    let b = c.signed-2.ensures in
    let word = difference_in_word c.signed.result c.signed-2.result (from_bool c.args.borrow) a.least a.most b.least b.most (search rules) in
    rw (c.fits.ensures, word, a.value, b.value) refl
