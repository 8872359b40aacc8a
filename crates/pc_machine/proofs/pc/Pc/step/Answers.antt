use Rattle.std.proofs.Common.{sym}
use Rattle.mdl_state.specs.PolicyLaws.{plain_item_meets}
use Rattle.mdl_step.specs.Computer.{run_policy}
use Rattle.pc_machine.proofs.Settling.{still}
use Rattle.pc_machine.proofs.pc.Pc.step.Goals as goal

pub invariant_of-self : goal.invariant_of-self
invariant_of-self c = let step = c.step.ensures in record {
  a20 = step.a20;
  asks = still c.self.inside.cpu c.step.new.self c.self.invariant.asks (step.made run_policy plain_item_meets);
}

pub returns-clause-made : goal.returns-clause-made
returns-clause-made c = rw (sym c.self.view_is) (c.step.ensures.made run_policy plain_item_meets)
