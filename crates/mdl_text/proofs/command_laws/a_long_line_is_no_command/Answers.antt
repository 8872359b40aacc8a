use Rattle.mdl_text.proofs.CommandLines.{line_length}
use Rattle.mdl_text.proofs.command_laws.a_long_line_is_no_command.Goals as goal

pub returns : goal.returns
returns c = λ line command is. line_length line command is
