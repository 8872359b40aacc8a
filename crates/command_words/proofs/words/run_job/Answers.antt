use Rattle.std.proofs.Common.{◌∙◌, sym, ap, subst, List, codes}
use Rattle.clap.specs.Simple.{matches_of}
use Rattle.clap.specs.Walk.{Row, first_of}
use Rattle.command_words.specs.Commands.{run_app}
use Rattle.command_words.specs.Jobs.{GivesMachine, machine_of, number_at, texts}
use Rattle.command_words.specs.Parses.{HasMachine, HasNumber}
use Rattle.command_words.proofs.Numbers.{within}
use Rattle.command_words.proofs.words.run_job.Goals as goal

pub machine-requires : goal.machine-requires
machine-requires c = subst HasMachine (sym c.in_ok-matches.ensures.ok.rows) c.in_ok-matches.ensures.values.machine

pub steps_of-requires : goal.steps_of-requires
steps_of-requires c = subst (HasNumber 0 1000000000000000 (codes "steps")) (sym c.in_ok-matches.ensures.ok.rows) c.in_ok-matches.ensures.values.steps

pub returns-clause-ok : goal.returns-clause-ok
returns-clause-ok c =
    let rows = c.in_ok-matches.ensures.ok.rows in
    record {
      taken = record { named = c.requires; faultless = c.in_ok-matches.ensures.ok.faultless };
      machine = subst (λ (l : List Row). GivesMachine l (machine_of c.machine.result)) rows c.machine.ensures.gives;
      steps = sym (ap (number_at (codes "steps")) rows) ∙ c.steps_of.ensures;
      mem = sym (ap (first_of (codes "mem")) rows) ∙ sym c.path_at.ensures;
      save = sym (ap (first_of (codes "save")) rows) ∙ sym c.path_at-2.ensures;
    }

pub returns-clause-limits : goal.returns-clause-limits
returns-clause-limits c =
    let rows = matches_of run_app (texts c.args.words.now) in
    let is = returns-clause-ok c in
    let has = c.in_ok-matches.ensures.values in
    (within 1 64 _ (codes "ram") rows has.machine.ram is.machine.ram, (within 0 1000000000000000 _ (codes "steps") rows has.steps is.steps).1)
