use Rattle.std.proofs.Common.{rules, refl}
use Rattle.mdl_effect.specs.Operands.{NoPort}
use Rattle.mdl_step.proofs.EffectLaws.{effects}
use Rattle.step_lines.proofs.Ran.{no_port}
use Rattle.step_lines.proofs.steps.execute.Goals as goal

pub returns-in-Data-clause-run : goal.returns-in-Data-clause-run
returns-in-Data-clause-run g c = (0, NoPort, refl, search (rules, effects, no_port))

pub returns-in-Flow-clause-run : goal.returns-in-Flow-clause-run
returns-in-Flow-clause-run g c = (0, NoPort, refl, search (rules, effects, no_port))
