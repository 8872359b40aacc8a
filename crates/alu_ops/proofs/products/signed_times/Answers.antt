use Rattle.alu_ops.proofs.SignedWords.{product_in_word, product-abs}
use Rattle.alu_ops.proofs.products.signed_times.Goals as goal

pub returns-clause-within : goal.returns-clause-within
returns-clause-within c =
    let a = c.signed.ensures in
    let b = c.signed-2.ensures in
    let word = product_in_word c.signed.result c.signed-2.result a.least a.most b.least b.most in
    rw (word, a.value, b.value) (product-abs c.args.size c.args.a c.args.b c.requires.a c.requires.b)
