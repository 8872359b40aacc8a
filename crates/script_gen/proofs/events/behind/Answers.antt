use Rattle.std.proofs.Common.{rules}
use Rattle.std.proofs.lemmas.Bool.Decides.{Decides-eqb}
use Rattle.std.proofs.lemmas.Slice.Eq.{strip_prefix_is}
use Rattle.script_gen.proofs.events.behind.Goals as goal

pub returns-clause-some : goal.returns-clause-some
returns-clause-some c = let is = strip_prefix_is Decides-eqb c.args.text.now c.args.word.now c.strip_prefix.result c.strip_prefix.ensures.cases in search rules

pub returns-clause-none : goal.returns-clause-none
returns-clause-none c = let is = strip_prefix_is Decides-eqb c.args.text.now c.args.word.now c.strip_prefix.result c.strip_prefix.ensures.cases in search rules
