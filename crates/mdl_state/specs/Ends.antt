-- What every way through a plan ends with.
use Rattle.std.specs.Prelude.{◌≡◌, ℕ, Bool, true, false, if◌then◌else◌, refl, Result, Ok, Err}
use Rattle.mdl_state.specs.declared.Fault.{Fault}
use Rattle.mdl_state.specs.declared.Place.{Place}
use Rattle.mdl_state.specs.State.{Mem}
use Rattle.mdl_state.specs.Serving.{Outcome, Passed, Failed, NoStep, Serve, on}
use Rattle.mdl_state.specs.Accesses.{translated, got, held_at, read_at, written_at}
use Rattle.mdl_state.specs.Attempt.{Plan, Done, Fail, Load, Store, Translate, Get, Hold, Input, then_plan, checked, tried}

-- Each way through the plan that passes ends with what meets the one fact, and each check that fails does
-- so with a fault that meets the other. A page fault is no check of the plan.
abbrev pub Ends : {A : Type 0} → (A → Type 0) → (Fault → Type 0) → Plan A → Type 0
Ends P Q (Done x) = P x
Ends P Q (Fail fault) = Q fault
Ends P Q (Load lin size who k) = (value : ℕ) → Ends P Q (k value)
Ends P Q (Store lin size value who k) = Ends P Q k
Ends P Q (Translate lin size access k) = (place : Place) → Ends P Q (k place)
Ends P Q (Get place size k) = (value : ℕ) → Ends P Q (k value)
Ends P Q (Hold place size value k) = Ends P Q k
Ends P Q (Input port size k) = (value : ℕ) → Ends P Q (k value)

-- what is answered meets the fact
abbrev pub IfPassed : {A : Type 0} → (A → Type 0) → Outcome A → Type 0
IfPassed P (Passed x) = P x
IfPassed P (Failed fault) = Unit {0}
IfPassed P NoStep = Unit {0}

on_passed : {A B : Type 0} (P : B → Type 0) (w : Outcome A × Mem) (k : A → Mem → Outcome B × Mem) → ((x : A) (n : Mem) → IfPassed P (k x n).0) → IfPassed P (on w k).0
on_passed P (Passed x, m) k h = h x m
on_passed P (Failed fault, m) k h = tt
on_passed P (NoStep, m) k h = tt

-- so does what comes of trying the plan
pub tried_ends : {A : Type 0} (P : A → Type 0) (Q : Fault → Type 0) (serve : Serve) (given : ℕ) (plan : Plan A) (m : Mem) → Ends P Q plan → IfPassed P (tried serve given plan m).0
tried_ends P Q serve given (Done x) m h = h
tried_ends P Q serve given (Fail fault) m h = tt
tried_ends P Q serve given (Load lin size who k) m h = on_passed P (read_at serve m lin size who) _ (λ value n. tried_ends P Q serve given (k value) n (h value))
tried_ends P Q serve given (Store lin size value who k) m h = on_passed P (written_at serve m lin size value who) _ (λ _ n. tried_ends P Q serve given k n h)
tried_ends P Q serve given (Translate lin size access k) m h = on_passed P (translated serve m lin size access) _ (λ place n. tried_ends P Q serve given (k place) n (h place))
tried_ends P Q serve given (Get place size k) m h = tried_ends P Q serve given (k (got m place size)) m (h (got m place size))
tried_ends P Q serve given (Hold place size value k) m h = tried_ends P Q serve given k (held_at m place size value) h
tried_ends P Q serve given (Input port size k) m h = tried_ends P Q serve given (k given) m (h given)

-- a plan after a plan
pub then_ends : {A B : Type 0} (R : A → Type 0) (P : B → Type 0) (Q : Fault → Type 0) (plan : Plan A) (f : A → Plan B) → Ends R Q plan → ((x : A) → R x → Ends P Q (f x)) → Ends P Q (then_plan plan f)
unfolding then_plan
then_ends R P Q (Done x) f e h = h x e
then_ends R P Q (Fail fault) f e h = e
then_ends R P Q (Load lin size who k) f e h = λ value. then_ends R P Q (k value) f (e value) h
then_ends R P Q (Store lin size value who k) f e h = then_ends R P Q k f e h
then_ends R P Q (Translate lin size access k) f e h = λ place. then_ends R P Q (k place) f (e place) h
then_ends R P Q (Get place size k) f e h = λ value. then_ends R P Q (k value) f (e value) h
then_ends R P Q (Hold place size value k) f e h = then_ends R P Q k f e h
then_ends R P Q (Input port size k) f e h = λ value. then_ends R P Q (k value) f (e value) h

-- a plan behind a check
pub checked_ends : {A B : Type 0} (P : B → Type 0) (Q : Fault → Type 0) (c : Result A Fault) (f : A → Plan B) → ((fault : Fault) → c ≡ Err fault → Q fault) → ((x : A) → Ends P Q (f x)) → Ends P Q (checked c f)
checked_ends P Q (Ok x) f e h = h x
checked_ends P Q (Err fault) f e h = e fault refl

-- one of two plans
pub either_ends : {A : Type 0} (P : A → Type 0) (Q : Fault → Type 0) (b : Bool) (p q : Plan A) → Ends P Q p → Ends P Q q → Ends P Q (if b then p else q)
either_ends P Q true p q x y = x
either_ends P Q false p q x y = y
