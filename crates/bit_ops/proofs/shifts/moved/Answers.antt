use Rattle.std.proofs.Common.{rules, FitsSigned, w64}
use Rattle.std.proofs.lemmas.Int.{to_z-of_z}
use Rattle.std.specs.Int.{int_shr}
use Rattle.bit_ops.proofs.Moves.{shr_fits, shr_in_word}
use Rattle.bit_ops.proofs.shifts.moved.Goals as goal

pub word-requires : goal.word-requires
word-requires c =
    let z = c.signed.result in
    let whole : FitsSigned w64 z = search rules in
    rw (to_z-of_z w64 z whole, to_z-of_z w64 (int_shr z c.args.by) (shr_in_word z c.args.by whole), c.signed.ensures.value)
    (shr_fits c.args.size c.args.a c.args.by c.requires.a)
