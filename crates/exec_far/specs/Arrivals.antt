-- Where a far instruction leaves the processor. Manual, chapters 6 and 7.
use Rattle.std.specs.Prelude.{◌≡◌, ⊤, ◌⊎◌, Result, Ok, Err}
use Rattle.mdl_state.specs.declared.Regs.{Regs}
use Rattle.mdl_state.specs.declared.Fault.{Fault}
use Rattle.mdl_state.specs.declared.Next.{Next}
use Rattle.mdl_state.specs.declared.Next.TheVariants.{Landed, Task as Entered}
use Rattle.mdl_cpu.specs.declared.Request.{Request}
use Rattle.mdl_cpu.specs.declared.Task.{Task}
use Rattle.mdl_cpu.specs.Steady.{Steady}
use Rattle.mdl_cpu.specs.NewTask.{begun}
use Rattle.task_switch.specs.TaskOfFault.{with_unloaded}

-- code goes on at a place that was set, or in another task
abbrev pub Arrives : Next → Type 0
Arrives Landed = ⊤
Arrives (Entered trap) = ⊤
Arrives _ = ⊥

-- The instruction leaves the mode, and no task is entered; a fault leaves every register.
abbrev pub StaysInMode : Regs → Result Next Fault → Regs → Type 0
StaysInMode old (Ok next) new = (next ≡ Landed) × Steady old new
StaysInMode old (Err fault) new = new ≡ old

-- the registers with which a task begins that is entered from these, but for the segments that were loaded
pub record IsInNewTask (old new : Regs) : Type 0 where
  pub request : Request
  pub task : Task
  pub begins : with_unloaded new ≡ begun old request task

-- behind a fault: the registers as they were, or those of a task that was entered
abbrev pub IsOfEitherTask : Regs → Regs → Type 0
IsOfEitherTask old new = (new ≡ old) ⊎ IsInNewTask old new
