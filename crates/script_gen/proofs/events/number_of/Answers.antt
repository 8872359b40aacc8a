use Rattle.std.proofs.Common.{◌≡◌, ℕ, ◌<◌, ◌^◌, List, Result, Ok, arith, subst, sym, ◌∙◌}
use Rattle.std.proofs.lemmas.Fmt.{parse-decimal, IsAscii-decimal}
use Rattle.std.proofs.lemmas.Str.{IsUtf8-from_ascii}
use Rattle.std.specs.Fmt.{decimal}
use Rattle.std.specs.Str.{IsUtf8}
use Rattle.std.specs.Str.Parse.{ParsesUnsigned}
use Rattle.script_gen.proofs.events.number_of.Goals as goal

is_text : (bytes : List ℕ) (n : ℕ) → n < 2 ^ 64 → bytes ≡ decimal n → IsUtf8 bytes
is_text bytes n fits same = subst IsUtf8 (sym same) (IsUtf8-from_ascii (decimal n) (IsAscii-decimal n (omega (arith, fits))))

-- a number in decimal is parsed as that number
parsed : {E : Type 0} (bytes : List ℕ) (r : Result ℕ E) → ParsesUnsigned 64 10 bytes r → (n : ℕ) → n < 2 ^ 64 → bytes ≡ decimal n → r ≡ Ok n
parsed bytes r parses n fits same = parse-decimal 64 n bytes r (omega (arith, fits)) (omega (arith, fits)) same parses

pub returns-in_default-clause-none : goal.returns-in_default-clause-none
returns-in_default-clause-none c = λ n most same. c.in_default.ensures.cases.0 (is_text c.args.text.now n (omega (arith, most, c.ranges.most)) same)

pub returns-in_default-parse-clause-none : goal.returns-in_default-parse-clause-none
returns-in_default-parse-clause-none c = λ n most same.
    c.in_default-parse.not-Ok n (parsed c.in-Ok.text.now c.parse.result c.parse.ensures.value.0 n (omega (arith, most, c.ranges.most)) (c.in-Ok.ensures.cases.0 ∙ same))

pub returns-then-number-most-clause-none : goal.returns-then-number-most-clause-none
returns-then-number-most-clause-none c = λ n most same.
    let p = parsed c.in-Ok.text.now c.parse.result c.parse.ensures.value.0 n (omega (arith, most, c.ranges.most)) (c.in-Ok.ensures.cases.0 ∙ same) in
    let is : c.in-Ok-parse.number ≡ n = (let q = c.in-Ok-parse.is in cc) in
    omega (arith, c.if-number-most.true, is, most)

pub returns-then-not-is_decimal-clause-none : goal.returns-then-not-is_decimal-clause-none
returns-then-not-is_decimal-clause-none c = λ n most same.
    let text : c.in-Ok.text.now ≡ decimal n = c.in-Ok.ensures.cases.0 ∙ same in
    let p = parsed c.in-Ok.text.now c.parse.result c.parse.ensures.value.0 n (omega (arith, most, c.ranges.most)) text in
    let is : n ≡ c.in-Ok-parse.number = (let q = c.in-Ok-parse.is in cc) in
    let no = c.if-not-is_decimal.ensures.1 (subst (λ (k : ℕ). c.in-Ok.text.now ≡ decimal k) is text) in cc
