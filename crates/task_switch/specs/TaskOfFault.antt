-- In which task a fault of a switch is raised, and what then stands. Manual, chapters 7 and 9.
use Rattle.std.specs.Prelude.{◌≡◌, ⊤, map}
use Rattle.mdl_state.specs.declared.Hidden.{Hidden}
use Rattle.mdl_state.specs.declared.Regs.{Regs}
use Rattle.mdl_state.specs.State.{Mem}
use Rattle.mdl_state.specs.Serving.{Serve, Passed}
use Rattle.mdl_state.specs.Accesses.{all_placed}
use Rattle.mdl_state.specs.Attempt.{tried}
use Rattle.mdl_state.specs.Restart.{bare_physical}
use Rattle.mdl_cpu.specs.declared.Request.{Request}
use Rattle.mdl_cpu.specs.declared.Switched.{Switched}
use Rattle.mdl_cpu.specs.declared.Switched.TheVariants as switched
use Rattle.mdl_cpu.specs.declared.Task.{Task}
use Rattle.mdl_cpu.specs.Loads.{null_segment}
use Rattle.mdl_cpu.specs.OldTask.{old_plan}
use Rattle.mdl_cpu.specs.NewTask.{begun}

-- a segment register with its selector alone
abbrev pub selector_alone : Hidden → Hidden
selector_alone h = null_segment h.sel

-- the registers with no segment loaded
abbrev pub with_unloaded : Regs → Regs
with_unloaded r = record r { seg = map selector_alone r.seg; ldtr = selector_alone r.ldtr }

-- The fault is raised in the old task: its registers stand, and each byte of memory but for the marks of page entries.
pub record OldStands (r s : Regs) (m n : Mem) : Type 0 where
  pub regs : s ≡ r
  pub memory : bare_physical n.physical ≡ bare_physical m.physical

-- The fault is raised in the new task: but for the segments that were loaded the registers are those with which it
-- begins, and each byte is as the writes of the old part left it, but for the marks of page entries.
pub record NewStands (serve : Serve) (r : Regs) (q : Request) (m : Mem) (s : Regs) (n : Mem) : Type 0 where
  pub task : Task
  pub saved : Mem
  pub passed : tried serve 0 (old_plan r q) m ≡ (Passed task, saved)
  pub regs : with_unloaded s ≡ begun r q task
  pub memory : bare_physical n.physical ≡ bare_physical (all_placed m.physical saved.held)

-- what stands behind a switch, by its answer
abbrev pub TaskOfFault : Serve → Regs → Request → Mem → Switched → Regs → Mem → Type 0
TaskOfFault serve r q m (switched.Done trap) s n = ⊤
TaskOfFault serve r q m (switched.OldFault fault) s n = OldStands r s m n
TaskOfFault serve r q m (switched.NewFault fault) s n = NewStands serve r q m s n
