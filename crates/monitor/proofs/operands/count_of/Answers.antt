use Rattle.std.proofs.Common.{◌≡◌, arith, ap, sym, ◌∙◌, subst, inl, inr}
use Rattle.std.specs.Fmt.{decimal}
use Rattle.mdl_text.specs.CommandLine.{IsCount}
use Rattle.monitor.proofs.Numbers.{count_utf8, count_parsed}
use Rattle.monitor.proofs.operands.count_of.Goals as goal

pub returns-in_default-clause-none : goal.returns-in_default-clause-none
returns-in_default-clause-none c = λ n is. c.in_default.ensures.cases.0 (count_utf8 c.args.least c.args.most n c.args.text.now (omega (arith, c.ranges.most)) is)

pub returns-in_default-parse-clause-none : goal.returns-in_default-parse-clause-none
returns-in_default-parse-clause-none c = λ n is.
    c.in_default-parse.not-Ok n
    (count_parsed c.args.least c.args.most n c.in-Ok.digits.now c.parse.result (omega (arith, c.ranges.most)) c.parse.ensures.value.0
    (subst (IsCount c.args.least c.args.most n) (sym c.in-Ok.ensures.cases.0) is))

pub returns-then-number-least-clause-none : goal.returns-then-number-least-clause-none
returns-then-number-least-clause-none c = λ n is.
    let p = count_parsed c.args.least c.args.most n c.in-Ok.digits.now c.parse.result (omega (arith, c.ranges.most)) c.parse.ensures.value.0
    (subst (IsCount c.args.least c.args.most n) (sym c.in-Ok.ensures.cases.0) is) in
    let same : c.in-Ok-parse.number ≡ n = (let q = c.in-Ok-parse.is in cc) in
    let least = is.least_is in
    let most = is.most_is in
    elim c.then-number-least.either [ inl below ↦ omega (arith, same, least, below) | inr above ↦ omega (arith, same, most, above) ]

pub returns-then-not-is_decimal-clause-none : goal.returns-then-not-is_decimal-clause-none
returns-then-not-is_decimal-clause-none c = λ n is.
    let p = count_parsed c.args.least c.args.most n c.in-Ok.digits.now c.parse.result (omega (arith, c.ranges.most)) c.parse.ensures.value.0
    (subst (IsCount c.args.least c.args.most n) (sym c.in-Ok.ensures.cases.0) is) in
    let same : n ≡ c.in-Ok-parse.number = (let q = c.in-Ok-parse.is in cc) in
    let no = c.if-not-is_decimal.ensures.1 (c.in-Ok.ensures.cases.0 ∙ is.written ∙ ap decimal same) in
    cc
