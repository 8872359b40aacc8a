-- Laws of runs: steps for some choices, whose walks are counted.
use Rattle.std.specs.Prelude.{◌≡◌, ℕ, ◌+◌, ◌-◌, ◌^◌, ◌≤◌, List, [], ◌∷◌, ◌++◌, length, min, refl}
use Rattle.std.proofs.Common.{ap, sym, subst, ◌∙◌, length-append, arith}
use Rattle.mdl_state.specs.declared.Event.{Event}
use Rattle.mdl_state.specs.declared.EventKind.{EventKind}
use Rattle.mdl_state.specs.declared.EventKind.TheVariants.{Key, Pulse, Nmi, Reset}
use Rattle.mdl_state.specs.State.{Choice, Item, Old, Walk}
use Rattle.mdl_state.specs.Machine.{Rules, Machine}
use Rattle.mdl_state.specs.Serving.{Policy}
use Rattle.mdl_state.specs.Choices.{walks_after}
use Rattle.mdl_step.specs.Events.{applied}
use Rattle.mdl_step.specs.Step.{Step}
use Rattle.mdl_step.specs.Run.{all_applied, after_events, events_at, Steps, walks_of, all_walks, walk_count}

-- a step for some choice, whose walks are counted
pub record SomeStep {B : Type 0} (rules : Rules B) (policy : Policy) (m n : Machine B) : Type 0 where
  pub choice : Choice
  pub step : Step rules policy m choice n
  pub walks : n.state.mem.walks ≡ walks_after choice.served m.state.mem.walks

-- the number that is counted after these choices
abbrev pub walks_in : List Choice → ℕ → ℕ
walks_in [] walks = walks
walks_in (choice ∷ choices) walks = walks_in choices (walks_after choice.served walks)

-- so many steps for some choices, whose walks are counted
pub record StepsFor {B : Type 0} (rules : Rules B) (on_board : EventKind → B → B) (events : List Event) (policy : Policy) (steps : ℕ) (m n : Machine B) : Type 0 where
  pub choices : List Choice
  pub count : length choices ≡ steps
  pub ran : Steps rules on_board events policy m choices n
  pub walks : n.state.mem.walks ≡ walks_in choices m.state.mem.walks

module _ {B : Type 0} (rules : Rules B) (on_board : EventKind → B → B) (events : List Event) where
  -- events are no walks
  applied_walks : (kind : EventKind) (m : Machine B) → (applied rules on_board kind m).state.mem.walks ≡ m.state.mem.walks
  applied_walks (Key byte) m = refl
  applied_walks (Pulse count) m = refl
  applied_walks Nmi m = refl
  applied_walks Reset m = refl

  all_applied_walks : (es : List Event) (m : Machine B) → (all_applied rules on_board events es m).state.mem.walks ≡ m.state.mem.walks
  all_applied_walks [] m = refl
  all_applied_walks (e ∷ es) m = all_applied_walks es (applied rules on_board e.kind m) ∙ applied_walks e.kind m

  module _ (policy : Policy) where
    pub steps_none : (m : Machine B) → StepsFor rules on_board events policy 0 m m
    steps_none m = record { choices = []; count = refl; ran = refl; walks = refl }

    Steps_more : (m mid next n : Machine B) (choices : List Choice) (choice : Choice) → Steps rules on_board events policy m choices mid → Step rules policy mid choice next → n ≡ after_events rules on_board events next → Steps rules on_board events policy m (choices ++ choice ∷ []) n
    Steps_more m mid next n [] choice ran step after = (next, subst (λ (x : Machine B). Step rules policy x choice next) ran step, after)
    Steps_more m mid next n (c ∷ cs) choice ran step after = (ran.0, ran.1, Steps_more (after_events rules on_board events ran.0) mid next n cs choice ran.2 step after)

    walks_in_more : (choices : List Choice) (choice : Choice) (walks : ℕ) → walks_in (choices ++ choice ∷ []) walks ≡ walks_after choice.served (walks_in choices walks)
    walks_in_more [] choice walks = refl
    walks_in_more (c ∷ cs) choice walks = walks_in_more cs choice (walks_after c.served walks)

    -- so many steps, and one more with the events of the new count
    pub steps_more : (steps : ℕ) (m mid next n : Machine B) → StepsFor rules on_board events policy steps m mid → SomeStep rules policy mid next → n ≡ after_events rules on_board events next → StepsFor rules on_board events policy (steps + 1) m n
    steps_more steps m mid next n before one after = record {
      choices = before.choices ++ one.choice ∷ [];
      count = length-append before.choices (one.choice ∷ []) ∙ ap (λ (i : ℕ). i + 1) before.count;
      ran = Steps_more m mid next n before.choices one.choice before.ran one.step after;
      walks = ap (λ (x : Machine B). x.state.mem.walks) after ∙ all_applied_walks (events_at next.state.core.steps events) next
          ∙ one.walks ∙ ap (walks_after one.choice.served) before.walks ∙ sym (walks_in_more before.choices one.choice m.state.mem.walks);
    }

counts_items : (items : List Item) (n : ℕ) → n ≤ 2 ^ 64 - 1 → walks_after items n ≡ min (n + walks_of items) (2 ^ 64 - 1)
counts_items [] n h = omega (arith, h)
counts_items (Old ∷ items) n h = counts_items items n h
counts_items (Walk _ ∷ items) n h = counts_items items (min (n + 1) (2 ^ 64 - 1)) (omega arith) ∙ omega (arith, h)

counts : (choices : List Choice) (n : ℕ) → n ≤ 2 ^ 64 - 1 → walks_in choices n ≡ min (n + all_walks choices) (2 ^ 64 - 1)
counts [] n h = omega (arith, h)
counts (c ∷ cs) n h = counts cs (walks_after c.served n) (omega (arith, counts_items c.served n h)) ∙ omega (arith, h, counts_items c.served n h)

-- from 0 on, what is counted is the number of walks
pub counted_walks : (choices : List Choice) → walks_in choices 0 ≡ walk_count choices
counted_walks choices = counts choices 0 (omega arith) ∙ omega arith
