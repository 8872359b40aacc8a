use Rattle.mdl_cpu.proofs.ServingLaws.{by_pick_raises, by_list_raises}
use Rattle.mdl_cpu.proofs.DeliveryLaws.{no_fifth, again, always_arrives}
use Rattle.mdl_cpu.proofs.laws.no_delivery_needs_a_fifth.Goals as goal

-- src/laws.rt:27:1
pub returns-clause-same : goal.returns-clause-same
returns-clause-same c = λ serve raises n cause r m. no_fifth serve raises n cause r m

-- src/laws.rt:27:1
pub returns-clause-again : goal.returns-clause-again
returns-clause-again c = λ serve raises cause r m. again serve raises cause r m

-- src/laws.rt:27:1
pub returns-clause-step : goal.returns-clause-step
returns-clause-step c = λ serve raises serves cause r m. always_arrives serve raises serves cause r m

-- src/laws.rt:27:1
pub returns-clause-rules : goal.returns-clause-rules
returns-clause-rules c = λ pick. by_pick_raises pick

-- src/laws.rt:27:1
pub returns-clause-lists : goal.returns-clause-lists
returns-clause-lists c = λ policy. by_list_raises policy
