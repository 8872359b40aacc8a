use Rattle.mdl_effect.proofs.FormLaws.{spelt_formed}
use Rattle.mdl_effect.proofs.laws.operands_have_the_form_of_their_mnemonic.Goals as goal

pub returns : goal.returns
returns c = spelt_formed
