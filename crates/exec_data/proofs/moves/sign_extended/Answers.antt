use Rattle.std.proofs.Common.{rules, FitsSigned, w64}
use Rattle.std.proofs.lemmas.Int.{to_z-of_z}
use Rattle.exec_data.proofs.Extensions.{signed_fits}
use Rattle.exec_data.proofs.moves.sign_extended.Goals as goal

pub word-requires : goal.word-requires
word-requires c =
    let whole : FitsSigned w64 c.signed.result = search rules in
    rw (to_z-of_z w64 c.signed.result whole, c.signed.ensures.value)
    (signed_fits c.args.from c.args.to c.args.value c.requires.value c.requires.sizes)
