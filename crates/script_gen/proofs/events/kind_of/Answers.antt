use Rattle.std.proofs.Common.{arith}
use Rattle.script_gen.proofs.NotStated.{no_byte, no_count, not_zero}
use Rattle.script_gen.proofs.events.kind_of.Goals as goal

pub returns-in_err-byte-clause-none : goal.returns-in_err-byte-clause-none
returns-in_err-byte-clause-none c = rw c.from_residual.ensures
    (no_byte c.args.text.now c.in-Some.digits.now
    (λ e. let said = c.if-is_text.ensures.1 e in cc)
    (λ e. let said = c.if-is_text-2.ensures.1 e in cc)
    c.in-Some.ensures.some c.in_err-byte.ensures.none)

pub returns-then-count-lt-LEAST_PULSES-clause-none : goal.returns-then-count-lt-LEAST_PULSES-clause-none
returns-then-count-lt-LEAST_PULSES-clause-none c =
    no_count c.args.text.now c.in_ok-behind.field-0.now
    (λ e. let said = c.if-is_text.ensures.1 e in cc)
    (λ e. let said = c.if-is_text-2.ensures.1 e in cc)
    c.in_ok-behind.ensures.some
    (not_zero c.in_ok-behind.field-0.now c.in_ok-count.count c.in_ok-count.ensures.some.0 (omega (arith, c.if-count-lt-LEAST_PULSES.true)))
