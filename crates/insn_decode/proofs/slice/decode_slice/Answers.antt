use Rattle.insn_decode.proofs.Fronts.{takes_front, undefined_front, long_front, short_front}
use Rattle.insn_decode.proofs.Only.{only_ok, only_undefined, only_long, only_short}
use Rattle.insn_decode.proofs.slice.decode_slice.Goals as goal

pub returns-in-Ok-clause-ok : goal.returns-in-Ok-clause-ok
returns-in-Ok-clause-ok c = takes_front (λ s. s.rest.now) c.args.big _ c.in-Ok.found.0 c.in-Ok.found.1 _ c.in-Ok.ensures.ok

pub returns-in-Err-Undefined-clause-err : goal.returns-in-Err-Undefined-clause-err
returns-in-Err-Undefined-clause-err c = undefined_front (λ s. s.rest.now) c.args.big _ _ (rw c.in-Err-Undefined.field-0-is at c.in-Err-Undefined.ensures.err)

pub returns-in-Err-TooLong-clause-err : goal.returns-in-Err-TooLong-clause-err
returns-in-Err-TooLong-clause-err c = long_front (λ s. s.rest.now) c.args.big _ _ (rw c.in-Err-TooLong.field-0-is at c.in-Err-TooLong.ensures.err)

pub returns-in-Err-Fetch-clause-err : goal.returns-in-Err-Fetch-clause-err
returns-in-Err-Fetch-clause-err c = short_front (λ s. s.rest.now) c.args.big _ _ _ (rw c.in-Err-Fetch.field-0-is at c.in-Err-Fetch.ensures.err)

pub returns-in-Ok-clause-only : goal.returns-in-Ok-clause-only
returns-in-Ok-clause-only c = λ n i le inside h. only_ok c.args.bytes.now c.args.big i c.in-Ok.found.0 n c.in-Ok.found.1 inside h (takes_front (λ s. s.rest.now) c.args.big _ c.in-Ok.found.0 c.in-Ok.found.1 _ c.in-Ok.ensures.ok)

pub returns-in-Err-Undefined-clause-only : goal.returns-in-Err-Undefined-clause-only
returns-in-Err-Undefined-clause-only c = λ n i le inside h. absurd (only_undefined c.args.bytes.now c.args.big i n inside h (undefined_front (λ s. s.rest.now) c.args.big _ _ (rw c.in-Err-Undefined.field-0-is at c.in-Err-Undefined.ensures.err)))

pub returns-in-Err-TooLong-clause-only : goal.returns-in-Err-TooLong-clause-only
returns-in-Err-TooLong-clause-only c = λ n i le inside h. absurd (only_long c.args.bytes.now c.args.big i n le h (long_front (λ s. s.rest.now) c.args.big _ _ (rw c.in-Err-TooLong.field-0-is at c.in-Err-TooLong.ensures.err)))

pub returns-in-Err-Fetch-clause-only : goal.returns-in-Err-Fetch-clause-only
returns-in-Err-Fetch-clause-only c = λ n i le inside h. absurd (only_short c.args.bytes.now c.args.big i n inside h (short_front (λ s. s.rest.now) c.args.big _ _ _ (rw c.in-Err-Fetch.field-0-is at c.in-Err-Fetch.ensures.err)))
