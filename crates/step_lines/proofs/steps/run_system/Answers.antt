use Rattle.std.proofs.Common.{rules}
use Rattle.step_lines.proofs.Packed.{packed}
use Rattle.step_lines.proofs.steps.run_system.Goals as goal

pub returns-in_err-next-clause-run : goal.returns-in_err-next-clause-run
returns-in_err-next-clause-run g c = let h = c.run.ensures.run in (h.0, h.1, h.2, search (rules, packed))

pub returns-clause-run : goal.returns-clause-run
returns-clause-run g c = let h = c.run.ensures.run in (h.0, h.1, h.2, search (rules, packed))
