use Rattle.mdl_cpu.proofs.DeliveryLaws.{once_restarts}
use Rattle.mdl_cpu.proofs.laws.a_refused_delivery_leaves_memory.Goals as goal

-- src/laws.rt:44:1
pub returns : goal.returns
returns c = λ serve marks cause r m f. once_restarts serve marks cause r m f
