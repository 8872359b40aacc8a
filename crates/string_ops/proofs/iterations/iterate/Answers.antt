use Rattle.std.proofs.Common.{rules}
use Rattle.mdl_effect.specs.StringEffects.{iterate_plan}
use Rattle.string_ops.proofs.iterations.iterate.Goals as goal

pub returns-in-Ins-clause-run : goal.returns-in-Ins-clause-run
unfolding iterate_plan
returns-in-Ins-clause-run g c = let h = c.input_string.ensures.run in (h.0, h.1, h.2, search rules)

pub returns-in-Outs-clause-run : goal.returns-in-Outs-clause-run
unfolding iterate_plan
returns-in-Outs-clause-run g c = let h = c.output_string.ensures.run in (h.0, h.1, h.2, search rules)
