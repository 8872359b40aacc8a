use Rattle.std.proofs.Common.{ℕ, ◌<◌, arith, subst, sym, ap, ◌∙◌}
use Rattle.std.specs.Char.{digit_value}
use Rattle.std.proofs.lemmas.Int.Digits.{digits_more, digits_value_more}
use Rattle.monitor.proofs.Numbers.{digit_in, eight_digits}
use Rattle.monitor.proofs.operands.address_of.Goals as goal

pub returns-in_err-digit-clause-none : goal.returns-in_err-digit-clause-none
returns-in_err-digit-clause-none c = rw c.from_residual.ensures
    (λ at is. c.in_err-digit.ensures.value (subst (λ (b : ℕ). digit_value b < 16) (sym c.from.ensures) (digit_in c.args.text.now c.loop-byte.byte-index is.digits.1 c.loop-byte-test.true)))

pub overflow_mul-at : goal.overflow_mul-at
overflow_mul-at c =
    let most = eight_digits c.args.text.now c.loop-byte.byte-index c.loop-byte-test.true (omega (arith, c.if-text-gt-ADDRESS_DIGITS.false)) c.loop-byte.invariant.digits in
    omega (arith, most, c.loop-byte.invariant.value)

pub overflow_add-at : goal.overflow_add-at
overflow_add-at c =
    let most = eight_digits c.args.text.now c.loop-byte.byte-index c.loop-byte-test.true (omega (arith, c.if-text-gt-ADDRESS_DIGITS.false)) c.loop-byte.invariant.digits in
    omega (arith, most, c.loop-byte.invariant.value, c.in_ok-digit.ensures.value.0, c.in_ok-digit.ensures.value.1)

pub loop-byte-preserved : goal.loop-byte-preserved
loop-byte-preserved c =
    let digit = subst (λ (b : ℕ). digit_value b < 16) c.from.ensures c.in_ok-digit.ensures.value.0 in
    let value = c.in_ok-digit.ensures.value.1 ∙ ap digit_value c.from.ensures in
    let more = digits_value_more 16 c.args.text.now c.loop-byte.byte-index c.loop-byte-test.true in
    record {
      digits = digits_more 16 c.args.text.now c.loop-byte.byte-index c.loop-byte-test.true c.loop-byte.invariant.digits digit;
      value = omega (arith, more, value, c.loop-byte.invariant.value);
    }
