use Rattle.std.proofs.Common.{◌≡◌, ◌∙◌, ap₂, subst, IfOk}
use Rattle.clap.specs.Simple.{App, app_of, with_rule}
use Rattle.command_words.proofs.commands.dis_command.Goals as goal

pub returns : goal.returns
returns c =
    let rom = c.in_ok-command.ensures ∙ ap₂ with_rule c.new.ensures.app c.rom_arg.ensures.rule in
    let from = c.in_ok-command-2.ensures ∙ ap₂ with_rule rom c.from_arg.ensures.rule in
    let count = c.in_ok-command-3.ensures ∙ ap₂ with_rule from c.count_arg.ensures.rule in
    subst (λ (a : App). IfOk c.with_arg-4.result (λ r. app_of r ≡ a)) (ap₂ with_rule count c.big_arg.ensures.rule) c.with_arg-4.ensures
