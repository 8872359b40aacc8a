use Rattle.mdl_text.specs.ScriptLaws.{none_bad}
use Rattle.mdl_text.proofs.script_laws.a_script_has_no_bad_line.Goals as goal

pub returns : goal.returns
returns c = λ bytes events n. none_bad bytes events n
