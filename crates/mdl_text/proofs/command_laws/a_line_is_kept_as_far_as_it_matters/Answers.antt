use Rattle.mdl_text.proofs.CommandInputs.{kept_asks, kept_pieces}
use Rattle.mdl_text.proofs.command_laws.a_line_is_kept_as_far_as_it_matters.Goals as goal

pub returns-clause-asks : goal.returns-clause-asks
returns-clause-asks c = λ line command. kept_asks line command

pub returns-clause-pieces : goal.returns-clause-pieces
returns-clause-pieces c = λ line more. kept_pieces line more
