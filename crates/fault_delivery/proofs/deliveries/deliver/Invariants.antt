use Rattle.std.proofs.Common.{◌≡◌, false, []}
use Rattle.mdl_state.specs.Serving.{by_pick}
use Rattle.mdl_state.specs.Accesses.{KeepsPhysical}
use Rattle.mdl_cpu.specs.Segments.{has_protection}
use Rattle.mdl_cpu.specs.Steady.{Agree, IsSound, Steady}
use Rattle.mdl_cpu.specs.DoubleFault.{class_of}
use Rattle.mdl_cpu.specs.TaskDeliveries.{deliver_by_gate}
use Rattle.mdl_cpu.specs.Deliveries.{KeepsWatch}
use Rattle.mdl_cpu.proofs.DeliveryLaws.{rank_of}
use Rattle.fault_delivery.specs.Arrivals.{CanDeliver}
use Rattle.fault_delivery.proofs.deliveries.deliver.Given as goal

-- what is left to deliver comes to the same as the whole
abbrev pub invariant-loop-trap : goal.invariant-loop-trap
invariant-loop-trap g l =
    let serve = by_pick g.L.Linear.pick in
    let seen = g.L.Linear.seen in
    record {
      run : deliver_by_gate serve l.next l.regs (seen l.lin) ≡ deliver_by_gate serve l.fn.cause l.fn.regs (seen l.fn.lin);
      ready : CanDeliver l.regs (seen l.lin);
      held : (seen l.lin).held ≡ [];
      sound : IsSound l.fn.regs → IsSound l.regs;
      tables : Agree l.fn.regs (seen l.fn.lin) → Agree l.regs (seen l.lin);
      keeps : KeepsPhysical (seen l.fn.lin).physical (seen l.lin).physical;
      watch : KeepsWatch (seen l.fn.lin) (seen l.lin);
      real : has_protection l.fn.regs ≡ false → Steady l.fn.regs l.regs;
    }

abbrev pub decreases-loop-trap : goal.decreases-loop-trap
decreases-loop-trap g l = rank_of (class_of l.next)
