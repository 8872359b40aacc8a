-- What is promised of deliveries: which faults arise in one, how pages are served, and what of memory stays.
use Rattle.std.specs.Prelude.{◌≡◌, ℕ, []}
use Rattle.mdl_state.specs.declared.Access.{Access}
use Rattle.mdl_state.specs.declared.Fault.{Fault}
use Rattle.mdl_state.specs.State.{Mem}
use Rattle.mdl_state.specs.Serving.{Serve, Outcome, Passed, Failed, NoStep}
use Rattle.mdl_cpu.specs.declared.Class.{Class}
use Rattle.mdl_cpu.specs.declared.Class.TheVariants.{Benign, Contributory, PageFault, DoubleFault}
use Rattle.mdl_cpu.specs.DoubleFault.{class_of_fault}

-- not benign
abbrev pub IsSerious : Class → Type 0
IsSerious Benign = ⊥
IsSerious Contributory = Unit {0}
IsSerious PageFault = Unit {0}
IsSerious DoubleFault = Unit {0}

-- a fault that is not benign
abbrev pub Serious : Fault → Type 0
Serious fault = IsSerious (class_of_fault fault.vector)

abbrev pub IfFailed : {A : Type 0} → (Fault → Type 0) → Outcome A → Type 0
IfFailed Q (Passed x) = Unit {0}
IfFailed Q (Failed fault) = Q fault
IfFailed Q NoStep = Unit {0}

-- there is a step
abbrev pub IsStep : {A : Type 0} → Outcome A → Type 0
IsStep (Passed x) = Unit {0}
IsStep (Failed fault) = Unit {0}
IsStep NoStep = ⊥

-- what serves pages raises page faults alone
pub record RaisesPageFaults (serve : Serve) : Type 0 where
  pub each : (m : Mem) (lin : ℕ) (access : Access) → IfFailed (λ fault. fault.vector ≡ 14) (serve m lin access).0

-- and serves each page, or raises its fault
pub record ServesAll (serve : Serve) : Type 0 where
  pub each : (m : Mem) (lin : ℕ) (access : Access) → IsStep (serve m lin access).0

-- The items that are left and the breakpoints stay, and where no breakpoint is looked for none is met.
pub record KeepsWatch (old new : Mem) : Type 0 where
  pub served : new.served ≡ old.served
  pub watch : new.watch ≡ old.watch
  pub hits : old.watch ≡ [] → new.hits ≡ old.hits
