use Rattle.mdl_text.proofs.CommandInputs.{one_cut}
use Rattle.mdl_text.proofs.command_laws.an_input_is_cut_in_one_way.Goals as goal

pub returns : goal.returns
returns c = λ input lines others last end one other. one_cut input lines others last end one other
