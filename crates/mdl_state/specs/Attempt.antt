-- What an instruction does to its surroundings, as a tree of actions, and an attempt at it. Manual,
-- chapter 9, on faults that can be restarted.
use Rattle.std.specs.Prelude.{ℕ, Result, Ok, Err}
use Rattle.mdl_state.specs.declared.Size.{Size}
use Rattle.mdl_state.specs.declared.Who.{Who}
use Rattle.mdl_state.specs.declared.Access.{Access}
use Rattle.mdl_state.specs.declared.Fault.{Fault}
use Rattle.mdl_state.specs.declared.Place.{Place}
use Rattle.mdl_state.specs.State.{Mem}
use Rattle.mdl_state.specs.Serving.{Outcome, Passed, Failed, NoStep, Serve, on}
use Rattle.mdl_state.specs.Accesses.{translated, got, held_at, read_at, written_at, committed, discarded}

-- Actions in order. `Done` and `Fail` end them. `Load` and `Store` are an access of a size at a linear
-- address. `Translate` is one that is read or written in parts, by `Get` and `Hold` at its place.
-- `Input` reads a port, whose answer is given.
pub data Plan (A : Type 0) : Type 0 where
  Done : A → Plan A
  Fail : Fault → Plan A
  Load : ℕ → Size → Who → (ℕ → Plan A) → Plan A
  Store : ℕ → Size → ℕ → Who → Plan A → Plan A
  Translate : ℕ → Size → Access → (Place → Plan A) → Plan A
  Get : Place → Size → (ℕ → Plan A) → Plan A
  Hold : Place → Size → ℕ → Plan A → Plan A
  Input : ℕ → Size → (ℕ → Plan A) → Plan A

-- one plan after another
unfoldable pub then_plan : {A B : Type 0} → Plan A → (A → Plan B) → Plan B
then_plan (Done x) f = f x
then_plan (Fail fault) f = Fail fault
then_plan (Load lin size who k) f = Load lin size who (λ value. then_plan (k value) f)
then_plan (Store lin size value who k) f = Store lin size value who (then_plan k f)
then_plan (Translate lin size access k) f = Translate lin size access (λ place. then_plan (k place) f)
then_plan (Get place size k) f = Get place size (λ value. then_plan (k value) f)
then_plan (Hold place size value k) f = Hold place size value (then_plan k f)
then_plan (Input port size k) f = Input port size (λ value. then_plan (k value) f)

-- a check that answers a fault
abbrev pub checked : {A B : Type 0} → Result A Fault → (A → Plan B) → Plan B
checked (Ok x) f = f x
checked (Err fault) f = Fail fault

-- the actions in order, up to the first that fails; what they write is held
abbrev pub tried : {A : Type 0} → Serve → ℕ → Plan A → Mem → Outcome A × Mem
tried serve given (Done x) m = (Passed x, m)
tried serve given (Fail fault) m = (Failed fault, m)
tried serve given (Load lin size who k) m = on (read_at serve m lin size who) (λ value n. tried serve given (k value) n)
tried serve given (Store lin size value who k) m = on (written_at serve m lin size value who) (λ _ n. tried serve given k n)
tried serve given (Translate lin size access k) m = on (translated serve m lin size access) (λ place n. tried serve given (k place) n)
tried serve given (Get place size k) m = tried serve given (k (got m place size)) m
tried serve given (Hold place size value k) m = tried serve given k (held_at m place size value)
tried serve given (Input port size k) m = tried serve given (k given) m

-- what was held is placed where all passed, and dropped at a fault
abbrev pub finished : {A : Type 0} → Outcome A × Mem → Outcome A × Mem
finished (Passed x, m) = (Passed x, committed m)
finished (Failed fault, m) = (Failed fault, discarded m)
finished (NoStep, m) = (NoStep, m)

-- all of the actions, or the first fault
abbrev pub attempt : {A : Type 0} → Serve → ℕ → Plan A → Mem → Outcome A × Mem
attempt serve given plan m = finished (tried serve given plan m)
