use Rattle.std.proofs.Common.{◌≡◌, ap₂, subst, IfOk}
use Rattle.clap.specs.Simple.{App, app_of, with_rule}
use Rattle.command_words.proofs.commands.demo_command.Goals as goal

pub returns : goal.returns
returns c =
    subst (λ (a : App). IfOk c.with_arg.result (λ r. app_of r ≡ a)) (ap₂ with_rule c.new.ensures.app c.number_arg.ensures.rule) c.with_arg.ensures
