use Rattle.std.proofs.Common.{rules, sym, ◌∙◌, refl, FitsSigned, w64}
use Rattle.std.proofs.lemmas.Int.{to_z-of_z, rem_is}
use Rattle.mdl_num.specs.Products.{idiv_result, signed_wide, joined}
use Rattle.alu_ops.proofs.Divisions.{refused, taken, remainder_fits}
use Rattle.alu_ops.proofs.products.idiv.Goals as goal

pub returns-in_default : goal.returns-in_default
unfolding idiv_result
returns-in_default c =
    let x = c.signed_dividend-dividend.ensures in
    let d = c.signed-divisor.ensures.value in
    let j = c.join.ensures.value in
    let fx : FitsSigned w64 c.signed_dividend-dividend.result = search rules in
    let fd : FitsSigned w64 c.signed-divisor.result = search rules in
    let cannot = rw (d, x, j) at (rw (to_z-of_z w64 c.signed_dividend-dividend.result fx, to_z-of_z w64 c.signed-divisor.result fd) at c.in_default.ensures) in
    rw (refused c.args.size (signed_wide c.args.size (joined c.args.size c.args.high c.args.low)) c.args.by c.requires.by cannot) refl

pub word-requires-2 : goal.word-requires-2
word-requires-2 c =
    let x = c.signed_dividend-dividend.result in
    let d = c.signed-divisor.result in
    let fx : FitsSigned w64 x = search rules in
    let fd : FitsSigned w64 d = search rules in
    let e = rw (to_z-of_z w64 x fx, to_z-of_z w64 d fd) at c.in-Some.ensures in
    let nonzero = rw c.signed-divisor.ensures.value at e.0.0 in
    rw (rem_is w64 x d fx fd, c.signed-divisor.ensures.value) (remainder_fits c.args.size x c.args.by c.requires.by nonzero)

pub returns : goal.returns
unfolding idiv_result
returns c =
    let x = c.signed_dividend-dividend.result in
    let d = c.signed-divisor.result in
    let divisor = c.signed-divisor.ensures.value in
    let dividend = c.signed_dividend-dividend.ensures in
    let halves = c.join.ensures.value in
    let fx : FitsSigned w64 x = search rules in
    let fd : FitsSigned w64 d = search rules in
    let fq : FitsSigned w64 c.in-Some.quotient = search rules in
    let e = rw (to_z-of_z w64 x fx, to_z-of_z w64 d fd) at c.in-Some.ensures in
    let nonzero = rw divisor at e.0.0 in
    let quotient = rw (divisor, dividend, halves) at e.1 in
    let first = rw (to_z-of_z w64 c.in-Some.quotient fq, quotient) at c.word.ensures.value in
    let second = rw (rem_is w64 x d fx fd, divisor, dividend, halves) at c.word-2.ensures.value in
    let fit = rw (to_z-of_z w64 c.in-Some.quotient fq, quotient) at c.fits.ensures in
    let answered = taken c.args.size c.args.by _ nonzero (sym fit ∙ c.if-not-fits.false) in
    rw (answered, first, second) refl
