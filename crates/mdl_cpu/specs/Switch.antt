-- The task switch whole: an attempt in the old task, and one in the new task, in the state that the first one left.
-- Manual, chapter 7. Own: The order of a task switch.
use Rattle.std.specs.Prelude.{List, [], ◌∷◌}
use Rattle.mdl_state.specs.declared.Regs.{Regs}
use Rattle.mdl_state.specs.State.{Mem}
use Rattle.mdl_state.specs.Bytes.{bit}
use Rattle.mdl_state.specs.Serving.{Serve, Outcome, Passed, Failed, NoStep}
use Rattle.mdl_state.specs.Accesses.{committed, discarded}
use Rattle.mdl_state.specs.Attempt.{tried, attempt}
use Rattle.mdl_cpu.specs.declared.Request.{Request}
use Rattle.mdl_cpu.specs.declared.Task.{Task}
use Rattle.mdl_cpu.specs.declared.Switched.{Switched}
use Rattle.mdl_cpu.specs.declared.Switched.TheVariants as switched
use Rattle.mdl_cpu.specs.Faults.{extended}
use Rattle.mdl_cpu.specs.Tasks.{image_trap}
use Rattle.mdl_cpu.specs.OldTask.{old_plan}
use Rattle.mdl_cpu.specs.NewTask.{Stage, begun, by_directory, new_stages}

-- what a part comes to, and the registers that it leaves, also by a fault
pub record Left (A : Type 0) : Type 0 where
  pub outcome : Outcome A
  pub regs : Regs

abbrev pub left : {A : Type 0} → Outcome A → Regs → Mem → Left A × Mem
left outcome r m = (record { outcome = outcome; regs = r }, m)

-- going on with the registers of a stage that passed; a fault leaves those before it
abbrev pub passing : Outcome Regs × Mem → Regs → (Regs → Mem → Left (Unit {0}) × Mem) → Left (Unit {0}) × Mem
passing (Passed s, n) r k = k s n
passing (Failed fault, n) r k = left (Failed fault) r n
passing (NoStep, n) r k = left NoStep r n

-- Stages in order, up to the first that fails. What passed before stays in the registers; writes are held.
abbrev pub staged : Serve → List Stage → Regs → Mem → Left (Unit {0}) × Mem
staged serve [] r m = left (Passed tt) r m
staged serve (stage ∷ stages) r m = passing (tried serve 0 (stage r) m) r (λ s n. staged serve stages s n)

-- A fault of the new part drops the accessed bits that were held. T of the new task is told.
abbrev pub told : Request → Task → Outcome (Unit {0}) → Regs → Mem → Left Switched × Mem
told q t (Passed _) r m = left (Passed (switched.Done (bit (image_trap t.image) 0))) r (committed m)
told q t (Failed fault) r m = left (Passed (switched.NewFault (extended q.ext fault))) r (discarded m)
told q t NoStep r m = left NoStep r m

abbrev pub behind_new : Request → Task → Left (Unit {0}) × Mem → Left Switched × Mem
behind_new q t w = told q t w.0.outcome w.0.regs w.1

-- the second attempt, in the state that the first one left
unfoldable pub new_part : Serve → Regs → Request → Task → Mem → Left Switched × Mem
new_part serve r q t m = behind_new q t (staged serve (new_stages q t) (begun r q t) (by_directory (begun r q t).cr3 m))

-- a fault of the old part leaves the registers
abbrev pub behind_old : Regs → Request → Outcome Task × Mem → (Task → Mem → Left Switched × Mem) → Left Switched × Mem
behind_old r q (Passed t, n) k = k t n
behind_old r q (Failed fault, n) k = left (Passed (switched.OldFault (extended q.ext fault))) r n
behind_old r q (NoStep, n) k = left NoStep r n

-- the old part, whose writes are placed where it passes, and the new one
unfoldable pub switch : Serve → Regs → Request → Mem → Left Switched × Mem
switch serve r q m = behind_old r q (attempt serve 0 (old_plan r q) m) (λ t n. new_part serve r q t n)
