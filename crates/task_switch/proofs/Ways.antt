-- Ways through plans of which nothing is said.
use Rattle.std.specs.Prelude.{⊤}
use Rattle.mdl_state.specs.Attempt.{Plan, Done, Fail, Load, Store, Translate, Get, Hold, Input}
use Rattle.mdl_state.specs.Ends.{Ends}

abbrev pub NoFact : {A : Type 0} → A → Type 0
NoFact x = ⊤

pub any_ends : {A : Type 0} (plan : Plan A) → Ends NoFact NoFact plan
any_ends (Done x) = tt
any_ends (Fail fault) = tt
any_ends (Load lin size who k) = λ value. any_ends (k value)
any_ends (Store lin size value who k) = any_ends k
any_ends (Translate lin size access k) = λ place. any_ends (k place)
any_ends (Get place size k) = λ value. any_ends (k value)
any_ends (Hold place size value k) = any_ends k
any_ends (Input port size k) = λ value. any_ends (k value)
