use Rattle.std.proofs.Common.{◌≡◌, ◌∙◌, ap₂, subst, IfOk}
use Rattle.clap.specs.Simple.{App, app_of, with_rule}
use Rattle.command_words.proofs.commands.run_command.Goals as goal

pub returns : goal.returns
returns c =
    let steps = c.in_ok-command.ensures ∙ ap₂ with_rule c.in_ok-machine_command.ensures c.steps_arg.ensures.rule in
    let mem = c.in_ok-command-2.ensures ∙ ap₂ with_rule steps c.path_arg.ensures.rule in
    subst (λ (a : App). IfOk c.with_arg-3.result (λ r. app_of r ≡ a)) (ap₂ with_rule mem c.path_arg-2.ensures.rule) c.with_arg-3.ensures
