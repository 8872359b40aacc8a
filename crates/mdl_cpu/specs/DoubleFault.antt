-- Which two exceptions make a double fault, and when the processor shuts down. Manual, chapter 9, under
-- Interrupt 8.
use Rattle.std.specs.Prelude.{ℕ, ◌==◌, ◌&&◌, ◌||◌, nat_le, if◌then◌else◌, Option, Some, None}
use Rattle.mdl_state.specs.declared.Fault.{Fault}
use Rattle.mdl_cpu.specs.declared.Cause.{Cause}
use Rattle.mdl_cpu.specs.declared.Class.{Class}
use Rattle.mdl_cpu.specs.declared.Class.TheVariants.{Benign, Contributory, PageFault, DoubleFault}
use Rattle.mdl_cpu.specs.Gates.{double_fault}

-- the class of a fault: vectors 0 and 10 to 13 are contributory
abbrev pub class_of_fault : ℕ → Class
class_of_fault vector =
    if vector == 8 then DoubleFault
    else if vector == 14 then PageFault
    else if vector == 0 || (nat_le 10 vector && nat_le vector 13) then Contributory
    else Benign

-- Interrupts, NMIs and traps are benign, whatever their vector. Own: Interrupts are benign.
abbrev pub class_of : Cause → Class
class_of cause = if cause.fault then class_of_fault cause.vector else Benign

-- the fault that is delivered where one arises while another cause is delivered; None where the processor shuts down
abbrev pub by_class : Class → Class → Fault → Option Fault
by_class Benign _ second = Some second
by_class Contributory Contributory second = Some double_fault
by_class Contributory _ second = Some second
by_class PageFault Contributory second = Some double_fault
by_class PageFault PageFault second = Some double_fault
by_class PageFault _ second = Some second
by_class DoubleFault _ second = None

unfoldable pub combine : Cause → Fault → Option Fault
combine first second = by_class (class_of first) (class_of_fault second.vector) second
