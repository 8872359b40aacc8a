use Rattle.std.proofs.Common.{◌≡◌, ◌∙◌, ap₂, subst, IfOk}
use Rattle.clap.specs.Simple.{App, app_of, with_rule}
use Rattle.command_words.proofs.commands.machine_command.Goals as goal

pub returns : goal.returns
returns c =
    let rom = c.in_ok-command.ensures ∙ ap₂ with_rule c.new.ensures.app c.rom_arg.ensures.rule in
    let disk = c.in_ok-command-2.ensures ∙ ap₂ with_rule rom c.path_arg.ensures.rule in
    let script = c.in_ok-command-3.ensures ∙ ap₂ with_rule disk c.path_arg-2.ensures.rule in
    subst (λ (a : App). IfOk c.with_arg-4.result (λ r. app_of r ≡ a)) (ap₂ with_rule script c.ram_arg.ensures.rule) c.with_arg-4.ensures
