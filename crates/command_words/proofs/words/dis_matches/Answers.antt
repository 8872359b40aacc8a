use Rattle.std.proofs.Common.{◌≡◌, ◌∙◌, ap, subst, IfOk, Err}
use Rattle.std.proofs.lemmas.Result.{IfOk-weaker}
use Rattle.clap.specs.Built.{IsParsedFrom}
use Rattle.clap.specs.Faults.{is_simple_and_free}
use Rattle.clap.specs.Simple.{App, matches_of}
use Rattle.clap.proofs.WalkLemmas.{IfOk-both}
use Rattle.command_words.specs.Commands.{dis_app}
use Rattle.command_words.specs.declared.jobs.Refused.TheVariants.{Usage}
use Rattle.command_words.specs.Jobs.{texts}
use Rattle.command_words.specs.Parses.{IsParsedBy, IsUnfit, HasDis}
use Rattle.command_words.proofs.Kept.{dis_has, dis_is_free}
use Rattle.command_words.proofs.words.dis_matches.Goals as goal

pub parse-requires : goal.parse-requires
parse-requires c = ap is_simple_and_free c.in_ok-command.ensures ∙ dis_is_free

pub returns-clause-ok : goal.returns-clause-ok
returns-clause-ok c = subst (λ (a : App). IfOk c.parse.result (IsParsedBy a (texts c.args.words.now))) c.in_ok-command.ensures c.parse.ensures.ok

pub returns-clause-values : goal.returns-clause-values
returns-clause-values c =
    let words = texts c.args.words.now in let from = c.in_ok-command.command in let same = c.in_ok-command.ensures in
    IfOk-weaker c.parse.result (λ m. IsParsedBy dis_app words m × IsParsedFrom from m) (λ m. HasDis (matches_of dis_app words))
    (λ m h. dis_has from m h.1 (matches_of dis_app words) h.0.rows same)
    (IfOk-both c.parse.result (IsParsedBy dis_app words) (IsParsedFrom from) (returns-clause-ok c) c.parse.ensures.parsed)

pub returns-clause-usage : goal.returns-clause-usage
returns-clause-usage c = subst (λ (a : App). c.parse.result ≡ Err Usage → IsUnfit a (texts c.args.words.now)) c.in_ok-command.ensures c.parse.ensures.usage
