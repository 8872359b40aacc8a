use Rattle.std.proofs.Common.{◌∙◌, sym, ap, subst, arith, codes}
use Rattle.clap.specs.Simple.{matches_of}
use Rattle.clap.specs.Walk.{first_of}
use Rattle.command_words.specs.Commands.{dis_app}
use Rattle.command_words.specs.Jobs.{flag_at, number_at, texts}
use Rattle.command_words.specs.Parses.{HasNumber, HasText, IsFlag}
use Rattle.command_words.proofs.Numbers.{widened, within}
use Rattle.command_words.proofs.words.dis_job.Goals as goal

pub rom_of-requires : goal.rom_of-requires
rom_of-requires c = subst (HasText (codes "rom")) (sym c.in_ok-matches.ensures.ok.rows) c.in_ok-matches.ensures.values.rom

pub number_of-requires : goal.number_of-requires
number_of-requires c = subst (HasNumber 0 4294967295 (codes "from")) (sym c.in_ok-matches.ensures.ok.rows)
    (widened 0 262143 0 4294967295 _ _ (omega arith) (omega arith) c.in_ok-matches.ensures.values.from)

pub number_of-requires-2 : goal.number_of-requires-2
number_of-requires-2 c = subst (HasNumber 0 4294967295 (codes "count")) (sym c.in_ok-matches.ensures.ok.rows)
    (widened 1 65536 0 4294967295 _ _ (omega arith) (omega arith) c.in_ok-matches.ensures.values.count)

pub big_of-requires : goal.big_of-requires
big_of-requires c = subst (IsFlag (codes "big")) (sym c.in_ok-matches.ensures.ok.rows) c.in_ok-matches.ensures.values.big

pub returns-clause-ok : goal.returns-clause-ok
returns-clause-ok c =
    let rows = c.in_ok-matches.ensures.ok.rows in
    record {
      taken = record { named = c.requires; faultless = c.in_ok-matches.ensures.ok.faultless };
      rom = sym (ap (first_of (codes "rom")) rows) ∙ c.rom_of.ensures;
      from = sym (ap (number_at (codes "from")) rows) ∙ c.number_of.ensures;
      count = sym (ap (number_at (codes "count")) rows) ∙ c.number_of-2.ensures;
      big = sym (ap (flag_at (codes "big")) rows) ∙ c.big_of.ensures;
    }

pub returns-clause-limits : goal.returns-clause-limits
returns-clause-limits c =
    let rows = matches_of dis_app (texts c.args.words.now) in
    let is = returns-clause-ok c in
    let has = c.in_ok-matches.ensures.values in
    let from = within 0 262143 _ (codes "from") rows has.from is.from in
    let count = within 1 65536 _ (codes "count") rows has.count is.count in
    (from.1, count.0, count.1)
