use Rattle.std.proofs.Common.{OnErr, Result, Ok, Err, rules, arith, ◌∙◌}
use Rattle.std.proofs.lemmas.List.{take_rest}
use Rattle.host_io.specs.declared.host.OutSlot.TheVariants.{Report}
use Rattle.reports.proofs.Listings.{more_lines, cut_lines, all_lines, last_lines}
use Rattle.reports.proofs.listing.write_listing.Goals as goal

-- what holds anyway holds at an error
on_err : {T E : Type 0} (r : Result T E) (P : Type 0) → P → OnErr r P
on_err (Ok x) P p = tt
on_err (Err e) P p = p

pub returns-then-at-bytes-clause-ok : goal.returns-then-at-bytes-clause-ok
returns-then-at-bytes-clause-ok g c =
    last_lines c.args.bytes.now c.args.from c.args.count c.args.big c.loop-line._line c.loop-line.at _ _ c.loop-line.invariant.listed c.if-at-bytes.true (omega (arith, c.loop-line-test.true))

pub returns-in_err-write_all-clause-err : goal.returns-in_err-write_all-clause-err
returns-in_err-write_all-clause-err g c = on_err c.from_residual.result _
    (cut_lines c.args.bytes.now c.args.from c.args.count c.args.big c.loop-line._line c.loop-line.at c.line_at-line.result.covered (g.H.Host.took c.args.host.now Report) (g.H.Host.took c.loop-line.host Report) (g.H.Host.took c.write_all.new.host Report)
    c.line_at-line.result.text.items c.loop-line.invariant.listed c.if-at-bytes.false c.loop-line-test.true (rw (take_rest c.args.bytes.now c.loop-line.at) at c.line_at-line.ensures) (rw c.as_slice.ensures.value at c.in_err-write_all.ensures.err))

pub loop-line-preserved : goal.loop-line-preserved
loop-line-preserved g c =
    let i = c.loop-line.invariant in
    let e = c.in_ok-write_all.ensures in
    record {
      listed = more_lines c.args.bytes.now c.args.from c.args.big c.loop-line._line c.loop-line.at c.line_at-line.result.covered (g.H.Host.took c.args.host.now Report) (g.H.Host.took c.loop-line.host Report) (g.H.Host.took c.write_all.new.host Report)
          c.line_at-line.result.text.items i.listed c.if-at-bytes.false (rw (take_rest c.args.bytes.now c.loop-line.at) at c.line_at-line.ensures) (rw c.as_slice.ensures.value at e.ok);
      outputs = λ other n. e.outputs other n ∙ i.outputs other n;
      paths = λ slot. e.paths slot ∙ i.paths slot;
      left = λ slot. e.left slot ∙ i.left slot;
      counts = search rules;
      promise = e.promise ∙ i.promise;
    }

pub returns-clause-ok : goal.returns-clause-ok
returns-clause-ok g c = all_lines c.args.bytes.now c.args.from c.args.count c.args.big c.loop-line._line c.loop-line.at _ _ c.loop-line.invariant.listed (omega (arith, c.loop-line-test.false, c.loop-line.auto._line-end))
