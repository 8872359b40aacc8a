-- What a delivery needs, and what it answers.
use Rattle.std.specs.Prelude.{◌≡◌, true}
use Rattle.mdl_state.specs.declared.Regs.{Regs}
use Rattle.mdl_state.specs.declared.Activity.TheVariants.{Running}
use Rattle.mdl_state.specs.State.{Mem}
use Rattle.mdl_cpu.specs.Segments.{has_protection}
use Rattle.mdl_cpu.specs.Steady.{Agree, IsSound}
use Rattle.mdl_cpu.specs.Delivery.{Arrival, shut_down}
use Rattle.fault_delivery.specs.declared.deliveries.Delivered.{Delivered}
use Rattle.fault_delivery.specs.declared.deliveries.Delivered.TheVariants.{Done, Shutdown}

-- Where gates count, the registers are sound, and memory pages as they say. In real mode nothing is asked.
pub record CanDeliver (r : Regs) (m : Mem) : Type 0 where
  pub sound : has_protection r ≡ true → IsSound r
  pub tables : has_protection r ≡ true → Agree r m

-- where the processor arrives, with the registers that are left
abbrev pub arrival : Delivered → Regs → Arrival
arrival (Done trap) r = record { regs = r; activity = Running; trap = trap }
arrival Shutdown r = shut_down r
