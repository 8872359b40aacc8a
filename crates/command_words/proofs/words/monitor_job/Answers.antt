use Rattle.std.proofs.Common.{sym, subst, List, codes}
use Rattle.clap.specs.Simple.{matches_of}
use Rattle.clap.specs.Walk.{Row}
use Rattle.command_words.specs.Commands.{monitor_app}
use Rattle.command_words.specs.Jobs.{GivesMachine, machine_of, texts}
use Rattle.command_words.specs.Parses.{HasMachine}
use Rattle.command_words.proofs.Numbers.{within}
use Rattle.command_words.proofs.words.monitor_job.Goals as goal

pub machine-requires : goal.machine-requires
machine-requires c = subst HasMachine (sym c.in_ok-matches.ensures.ok.rows) c.in_ok-matches.ensures.values

pub returns-clause-ok : goal.returns-clause-ok
returns-clause-ok c = record {
  taken = record { named = c.requires; faultless = c.in_ok-matches.ensures.ok.faultless };
  given = subst (λ (l : List Row). GivesMachine l (machine_of c.machine.result)) c.in_ok-matches.ensures.ok.rows c.machine.ensures.gives;
}

pub returns-clause-limits : goal.returns-clause-limits
returns-clause-limits c =
    within 1 64 _ (codes "ram") (matches_of monitor_app (texts c.args.words.now)) c.in_ok-matches.ensures.values.ram (returns-clause-ok c).given.ram
