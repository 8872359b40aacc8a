use Rattle.std.proofs.Common.{sym, ap, ◌∙◌}
use Rattle.cpu_core.specs.Passing.{later}
use Rattle.cpu_core.proofs.cpu.Cpu.idle.Goals as goal

pub returns-then-is_idle-clause-idle : goal.returns-then-is_idle-clause-idle
returns-then-is_idle-clause-idle g c = sym c.row-next.ensures ∙ c.if-is_idle.ensures.idle

pub returns-then-is_idle-clause-passed : goal.returns-then-is_idle-clause-passed
returns-then-is_idle-clause-passed g c = ap (later c.args.steps) c.self.view_is
