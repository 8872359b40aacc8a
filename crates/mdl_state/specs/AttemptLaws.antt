-- Laws of plans.
use Rattle.std.specs.Prelude.{◌≡◌, ℕ, refl}
use Rattle.std.proofs.Common.{sym, ◌∙◌}
use Rattle.mdl_state.specs.State.{Mem}
use Rattle.mdl_state.specs.Serving.{Outcome, Passed, Failed, NoStep, Serve, on}
use Rattle.mdl_state.specs.Accesses.{translated, got, held_at, read_at, written_at}
use Rattle.mdl_state.specs.Attempt.{Plan, Done, Fail, Load, Store, Translate, Get, Hold, Input, then_plan, tried}

-- going on after a part, by what is the same at each point
pub on_same : {A B : Type 0} (r : Outcome A × Mem) (k l : A → Mem → Outcome B × Mem) → ((x : A) (m : Mem) → k x m ≡ l x m) → on r k ≡ on r l
on_same (Passed x, m) k l same = same x m
on_same (Failed fault, m) k l same = refl
on_same (NoStep, m) k l same = refl

pub on_on : {A B C : Type 0} (r : Outcome A × Mem) (k : A → Mem → Outcome B × Mem) (l : B → Mem → Outcome C × Mem) → on (on r k) l ≡ on r (λ x m. on (k x m) l)
on_on (Passed x, m) k l = refl
on_on (Failed fault, m) k l = refl
on_on (NoStep, m) k l = refl

-- a plan after a plan is tried in two parts
pub tried-then_plan : {A B : Type 0} (serve : Serve) (given : ℕ) (p : Plan A) (f : A → Plan B) (m : Mem) → tried serve given (then_plan p f) m ≡ on (tried serve given p m) (λ x n. tried serve given (f x) n)
unfolding then_plan
tried-then_plan serve given (Done x) f m = refl
tried-then_plan serve given (Fail fault) f m = refl
tried-then_plan serve given (Load lin size who k) f m =
    on_same (read_at serve m lin size who) _ _ (λ value n. tried-then_plan serve given (k value) f n) ∙ sym (on_on (read_at serve m lin size who) _ _)
tried-then_plan serve given (Store lin size value who k) f m =
    on_same (written_at serve m lin size value who) _ _ (λ _ n. tried-then_plan serve given k f n) ∙ sym (on_on (written_at serve m lin size value who) _ _)
tried-then_plan serve given (Translate lin size access k) f m =
    on_same (translated serve m lin size access) _ _ (λ place n. tried-then_plan serve given (k place) f n) ∙ sym (on_on (translated serve m lin size access) _ _)
tried-then_plan serve given (Get place size k) f m = tried-then_plan serve given (k (got m place size)) f m
tried-then_plan serve given (Hold place size value k) f m = tried-then_plan serve given k f (held_at m place size value)
tried-then_plan serve given (Input port size k) f m = tried-then_plan serve given (k given) f m
