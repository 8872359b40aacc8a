use Rattle.mdl_state.specs.Rules.{picked_follows}
use Rattle.mdl_state.proofs.laws.a_rule_is_some_choice.Goals as goal

-- src/laws.rt:20:1
pub returns : goal.returns
returns g c = λ pick policy meets given plan m. picked_follows pick policy meets given plan m
