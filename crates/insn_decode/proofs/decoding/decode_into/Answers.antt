use Rattle.std.proofs.Common.{arith, rules, tests, ◌≡◌, sym, subst, refl, ℕ, false, []}
use Rattle.mdl_insn.specs.Prefixes.{is_prefix, setting}
use Rattle.insn_decode.proofs.Ending.{Prefixed, prefixed_none, ends_ok, ends_err, ends_cut, ends_long, step_none, prefixed_more}
use Rattle.insn_decode.proofs.decoding.decode_into.Goals as goal

pub returns-in-Err-clause-err : goal.returns-in-Err-clause-err
returns-in-Err-clause-err g c =
    ends_cut g.F.Fetch.gives c.args.big c.args.fetch.now c.args.fetch.now 0 (setting c.args.big []) c.in-Err.fault c.next.new.self (prefixed_none g.F.Fetch.gives c.args.big c.args.fetch.now (setting c.args.big []) refl) (omega arith) c.in-Err.ensures

pub returns-in-Ok-plain-clause-ok : goal.returns-in-Ok-plain-clause-ok
returns-in-Ok-plain-clause-ok g c =
    ends_ok g.F.Fetch.gives c.args.big c.args.fetch.now c.args.fetch.now c.next.new.self 0 c.in-Ok.b (setting c.args.big []) c.plain.new.insn c.plain.new.count c.plain.new.fetch (prefixed_none g.F.Fetch.gives c.args.big c.args.fetch.now (setting c.args.big []) refl) c.in-Ok.ensures (omega arith) (omega (arith, c.in-Ok-plain.ensures.count)) c.in-Ok-plain.ensures.runs

pub returns-in-Err-plain-clause-err : goal.returns-in-Err-plain-clause-err
returns-in-Err-plain-clause-err g c =
    let none : is_prefix c.in-Ok.b ≡ false = search (rules, tests) in
    ends_err g.F.Fetch.gives c.args.big c.args.fetch.now c.args.fetch.now c.next.new.self 0 c.in-Ok.b (setting c.args.big []) c.in-Err-plain.cause c.plain.new.count c.plain.new.fetch (prefixed_none g.F.Fetch.gives c.args.big c.args.fetch.now (setting c.args.big []) refl) c.in-Ok.ensures (omega arith) none (omega arith) c.in-Err-plain.ensures.runs

pub loop-taken-init : goal.loop-taken-init
loop-taken-init g c =
    prefixed_more g.F.Fetch.gives c.args.big c.args.fetch.now c.args.fetch.now c.next.new.self 0 c.in-Ok.b (setting c.args.big []) c.first_prefix-s.result (prefixed_none g.F.Fetch.gives c.args.big c.args.fetch.now (setting c.args.big []) refl) c.in-Ok.ensures (omega arith) (sym c.first_prefix-s.ensures)

pub returns-in-Err-next-clause-err : goal.returns-in-Err-next-clause-err
returns-in-Err-next-clause-err g c =
    ends_cut g.F.Fetch.gives c.args.big c.args.fetch.now c.loop-taken.fetch c.loop-taken.taken c.loop-taken.s c.in-Err-next.fault c.next-in-loop-taken.new.self c.loop-taken.invariant (omega arith) c.in-Err-next.ensures

pub loop-taken-preserved : goal.loop-taken-preserved
loop-taken-preserved g c =
    prefixed_more g.F.Fetch.gives c.args.big c.args.fetch.now c.loop-taken.fetch c.next-in-loop-taken.new.self c.loop-taken.taken c.in-Ok-next.b c.loop-taken.s c.in-Some.next c.loop-taken.invariant c.in-Ok-next.ensures (omega arith) (sym c.in-Some.ensures)

pub returns-clause-err : goal.returns-clause-err
returns-clause-err g c =
    let e : c.loop-taken.taken ≡ 15 = omega arith in
    ends_long g.F.Fetch.gives c.args.big c.args.fetch.now c.loop-taken.fetch c.loop-taken.s
    (subst (λ (n : ℕ). Prefixed g.F.Fetch.gives c.args.big c.args.fetch.now c.loop-taken.fetch n c.loop-taken.s) e c.loop-taken.invariant)

pub returns-in-Ok-row-clause-ok : goal.returns-in-Ok-row-clause-ok
returns-in-Ok-row-clause-ok g c =
    ends_ok g.F.Fetch.gives c.args.big c.args.fetch.now c.loop-taken.fetch c.next-in-loop-taken.new.self c.loop-taken.taken c.in-Ok-next.b c.loop-taken.s c.row.new.insn c.row.new.count c.row.new.fetch c.loop-taken.invariant c.in-Ok-next.ensures (omega arith) (omega (arith, c.in-Ok-row.ensures.count)) c.in-Ok-row.ensures.runs

pub returns-in-Err-row-clause-err : goal.returns-in-Err-row-clause-err
returns-in-Err-row-clause-err g c =
    ends_err g.F.Fetch.gives c.args.big c.args.fetch.now c.loop-taken.fetch c.next-in-loop-taken.new.self c.loop-taken.taken c.in-Ok-next.b c.loop-taken.s c.in-Err-row.cause c.row.new.count c.row.new.fetch c.loop-taken.invariant c.in-Ok-next.ensures (omega arith) (step_none c.args.big c.loop-taken.s c.in-Ok-next.b (sym c.in-None.ensures)) (omega arith) c.in-Err-row.ensures.runs
