-- The laws that functions name.
use Rattle.std.specs.Prelude.{ℕ}
use Rattle.mdl_state.specs.State.{Mem}
use Rattle.mdl_state.specs.Serving.{Pick, Policy, by_pick, by_list}
use Rattle.mdl_state.specs.Attempt.{Plan, attempt}
use Rattle.mdl_state.specs.AttemptLaws.{tried-then_plan}
use Rattle.mdl_state.specs.Choices.{Meets, Follows, page_follows, attempt_follows}
use Rattle.mdl_state.specs.Restart.{by_pick_marks, by_list_marks}

-- an attempt by a rule is one by a list of items
pub picked_follows : {A : Type 0} (pick : Pick) (policy : Policy) → Meets pick policy → (given : ℕ) (plan : Plan A) (m : Mem) → Follows m (attempt (by_pick pick) given plan m) (λ n. attempt (by_list policy) given plan n)
picked_follows pick policy meets given plan m = attempt_follows pick (by_list policy) (page_follows pick policy meets) given plan m

pub ruleset attempts = (tried-then_plan)

pub ruleset marks = (by_pick_marks, by_list_marks)
