use Rattle.insn_decode.proofs.Ending.{Prefixed}
use Rattle.insn_decode.proofs.decoding.decode_into.Given as goal

abbrev pub invariant-loop-taken : goal.invariant-loop-taken
invariant-loop-taken g l = Prefixed g.F.Fetch.gives l.big l.fn.fetch l.fetch l.taken l.s
