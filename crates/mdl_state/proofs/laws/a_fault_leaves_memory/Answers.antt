use Rattle.mdl_state.specs.Restart.{restart}
use Rattle.mdl_state.proofs.laws.a_fault_leaves_memory.Goals as goal

-- src/laws.rt:28:1
pub returns-clause-fault : goal.returns-clause-fault
returns-clause-fault g c = λ serve marks given plan m failed. restart serve marks given plan m failed
