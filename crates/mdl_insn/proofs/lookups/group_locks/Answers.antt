use Rattle.std.proofs.Common.{arith}
use Rattle.mdl_insn.proofs.Tables.{at-locks}
use Rattle.mdl_insn.proofs.lookups.group_locks.Goals as goal

pub returns : goal.returns
returns c = at-locks c.args.group c.lock_at.result (omega arith) c.lock_at.ensures
