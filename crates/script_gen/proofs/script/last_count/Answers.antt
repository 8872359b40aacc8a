use Rattle.std.proofs.Common.{sym, ap, ◌∙◌}
use Rattle.mdl_text.specs.ScriptLaws.{count_after, count_after-push}
use Rattle.script_gen.proofs.script.last_count.Goals as goal

pub returns-in-Some : goal.returns-in-Some
returns-in-Some c = sym (ap (count_after 0) c.in-Some.ensures.cases.0 ∙ count_after-push 0 c.in-Some.field-0-1.now c.in-Some.last.now)
