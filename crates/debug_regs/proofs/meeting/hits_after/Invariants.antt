use Rattle.std.proofs.Common.{◌≡◌, drop}
use Rattle.mdl_state.specs.Watches.{hits_after}
use Rattle.debug_regs.proofs.meeting.hits_after.Given as goal

abbrev pub invariant-loop-one : goal.invariant-loop-one
invariant-loop-one l = hits_after (drop l.one-index l.watch) l.lin l.size l.access l.all ≡ hits_after l.fn.watch l.fn.lin l.fn.size l.fn.access l.fn.hits
