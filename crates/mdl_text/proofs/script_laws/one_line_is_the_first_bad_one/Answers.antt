use Rattle.mdl_text.specs.ScriptLaws.{one_first_bad}
use Rattle.mdl_text.proofs.script_laws.one_line_is_the_first_bad_one.Goals as goal

pub returns : goal.returns
returns c = λ bytes m n. one_first_bad bytes m n
