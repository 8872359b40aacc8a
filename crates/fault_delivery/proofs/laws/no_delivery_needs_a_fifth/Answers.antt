use Rattle.mdl_cpu.proofs.SwitchLaws.{no_fifth_by_gate, again_by_gate}
use Rattle.fault_delivery.proofs.Arriving.{always_arrives}
use Rattle.fault_delivery.proofs.laws.no_delivery_needs_a_fifth.Goals as goal

-- src/laws.rt:17:1
pub returns-clause-same : goal.returns-clause-same
returns-clause-same c = λ serve raises n cause r m. no_fifth_by_gate serve raises n cause r m

-- src/laws.rt:17:1
pub returns-clause-again : goal.returns-clause-again
returns-clause-again c = λ serve raises cause r m. again_by_gate serve raises cause r m

-- src/laws.rt:17:1
pub returns-clause-step : goal.returns-clause-step
returns-clause-step c = λ serve raises serves cause r m. always_arrives serve raises serves cause r m
