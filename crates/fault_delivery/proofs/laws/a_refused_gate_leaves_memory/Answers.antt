use Rattle.fault_delivery.proofs.Restarts.{gate_restarts}
use Rattle.fault_delivery.proofs.laws.a_refused_gate_leaves_memory.Goals as goal

-- src/laws.rt:42:1
pub returns : goal.returns
returns c = λ serve marks cause r m f. gate_restarts serve marks cause r m f
