use Rattle.clap.proofs.WalkLemmas.{both}
use Rattle.command_words.proofs.commands.parse.Goals as goal

pub returns-in-Ok-clause-ok : goal.returns-in-Ok-clause-ok
returns-in-Ok-clause-ok c = record {
  faultless = c.in-Ok.ensures.kinds c.requires;
  rows = (c.in-Ok.ensures.matches (both _ _ c.requires).0).0;
}
