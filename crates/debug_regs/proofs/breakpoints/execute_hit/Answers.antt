use Rattle.debug_regs.proofs.Enabled.{execution_by}
use Rattle.debug_regs.proofs.breakpoints.execute_hit.Goals as goal

pub returns : goal.returns
returns c = execution_by c.args.regs.now c.args.lin _ _ _ _ c.with_execution-third.ensures c.with_execution-second.ensures c.with_execution-first.ensures c.with_execution.ensures
