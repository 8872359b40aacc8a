use Rattle.mdl_cpu.proofs.ChoiceLaws.{deliver_by_gate_follows}
use Rattle.fault_delivery.proofs.laws.a_delivery_is_some_choice.Goals as goal

-- src/laws.rt:32:1
pub returns : goal.returns
returns c = λ pick policy meets cause r m. deliver_by_gate_follows pick policy meets cause r m
