use Rattle.std.proofs.Common.{◌∙◌, sym, ap, subst, codes}
use Rattle.command_words.specs.Jobs.{number_at}
use Rattle.command_words.specs.Parses.{HasDemo}
use Rattle.command_words.proofs.words.demo_job.Goals as goal

pub number_of-requires : goal.number_of-requires
number_of-requires c = subst HasDemo (sym c.in_ok-matches.ensures.ok.rows) c.in_ok-matches.ensures.values

pub returns-clause-ok : goal.returns-clause-ok
returns-clause-ok c = record {
  taken = record { named = c.requires; faultless = c.in_ok-matches.ensures.ok.faultless };
  given = sym (ap (number_at (codes "number")) c.in_ok-matches.ensures.ok.rows) ∙ c.number_of.ensures;
}
