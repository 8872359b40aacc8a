use Rattle.mdl_text.proofs.CommandLines.{one_command}
use Rattle.mdl_text.proofs.command_laws.a_line_is_one_command.Goals as goal

pub returns : goal.returns
returns c = λ line one other is are. one_command line one other is are
