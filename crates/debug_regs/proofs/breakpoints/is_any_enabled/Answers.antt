use Rattle.std.proofs.Common.{◌≡◌, ℕ}
use Rattle.mdl_cpu.specs.Breakpoints.{execution_hits}
use Rattle.debug_regs.proofs.Enabled.{no_data, no_hits, none_enabled}
use Rattle.debug_regs.proofs.breakpoints.is_any_enabled.Goals as goal

pub returns-clause-data : goal.returns-clause-data
returns-clause-data c = none_enabled _ (no_data c.args.regs.now)

pub returns-clause-execution : goal.returns-clause-execution
returns-clause-execution c = none_enabled {P = (lin : ℕ) → execution_hits c.args.regs.now lin ≡ 0} _ (λ e lin. no_hits c.args.regs.now lin e)
