-- Steps with no event between them.
use Rattle.std.proofs.Common.{◌≡◌, ℕ, zero, suc, ◌+◌, ◌<◌, ◌≤◌, Bool, true, false, List, [], ◌∷◌, ◌++◌, length, get_or, refl, ap, sym, subst, ◌∙◌, arith, inl, inr, length-append}
use Rattle.std.specs.Bool.{OnTrue, OnFalse}
use Rattle.std.proofs.lemmas.Bool.Decides.{eqb_tells}
use Rattle.mdl_state.specs.declared.Event.{Event}
use Rattle.mdl_state.specs.declared.EventKind.TheVariants.{Key}
use Rattle.mdl_state.specs.State.{Choice}
use Rattle.mdl_state.specs.Machine.{Machine}
use Rattle.mdl_board.specs.Board.{BoardState, gate_of}
use Rattle.mdl_text.specs.Script.{RisesFrom}
use Rattle.mdl_step.specs.Boundary.{Idle, boundary}
use Rattle.mdl_step.specs.Run as run
use Rattle.mdl_step.specs.Run.{events_at, Steps}
use Rattle.mdl_step.specs.RunLaws.{SomeStep, StepsFor, steps_more, walks_in}
use Rattle.mdl_step.specs.Step.{EndsBy, counted_with, row_of}
use Rattle.mdl_step.specs.Computer.{board_rules, on_board, run_policy}
use Rattle.cpu_core.specs.Passing.{later}
use Rattle.cpu_core.proofs.Turns.{idled}
use Rattle.pc_machine.specs.Settled.{IsSettled}
use Rattle.pc_machine.specs.EventLaws.{Split, later_none, after_events, events_walk}
use Rattle.pc_machine.specs.CutLaws.{step_counts, steps_join, walks_join}

-- ---- counts without an event

rises_less : (n k : ℕ) (es : List Event) → k ≤ n → RisesFrom n es → RisesFrom k es
rises_less n k [] l h = tt
rises_less n k (e ∷ es) l h = (omega (arith, l, h.0), h.1)

-- of events that are gone through up to an index, those in front have counts below more, and those behind from less
pub split_between : (p q n k : ℕ) (es : List Event) (i : ℕ) → Split p n es i → p ≤ q → k ≤ n → Split q k es i
split_between p q n k es zero h l m = rises_less n k es m h
split_between p q n k [] (suc i) h l m = absurd h
split_between p q n k (e ∷ es) (suc i) h l m = (omega (arith, h.0, l), split_between p q n k es i h.1 l m)

-- there is none of a count between
pub none_between : (p n k : ℕ) (es : List Event) (i : ℕ) → Split p n es i → p ≤ k → k < n → events_at k es ≡ []
none_between p n k es zero h l m = later_none k n es m h
none_between p n k [] (suc i) h l m = absurd h
none_between p n k (e ∷ es) (suc i) h l m = elim (eqb_tells e.at k) as (λ _. events_at k (e ∷ es) ≡ []) [
  | inl q ↦ absurd (omega (arith, h.0, q.1, l))
  | inr q ↦ rw q.0 (none_between p n k es i h.1 l m)
]

-- what an index past the end reads
abbrev pub no_event : Event
no_event = record { at = 0; kind = Key 0 }

-- those behind rise from the count of the next
pub split_next_at : (p n k : ℕ) (es : List Event) (i : ℕ) → Split p n es i → i < length es → k ≤ (get_or es i no_event).at → Split p k es i
split_next_at p n k [] i h l m = absurd (omega (arith, l))
split_next_at p n k (x ∷ xs) zero h l m = (m, h.1)
split_next_at p n k (x ∷ xs) (suc i) h l m = (h.0, split_next_at p n k xs i h.1 (omega (arith, l)) m)

-- that count is behind those that are gone through
pub next_rises : (p n : ℕ) (es : List Event) (i : ℕ) → Split p n es i → i < length es → n ≤ (get_or es i no_event).at
next_rises p n [] i h l = absurd (omega (arith, l))
next_rises p n (x ∷ xs) zero h l = h.0
next_rises p n (x ∷ xs) (suc i) h l = next_rises p n xs i h.1 (omega (arith, l))

-- and where there is none, from any
pub split_past : (p n k : ℕ) (es : List Event) (i : ℕ) → Split p n es i → length es ≤ i → Split p k es i
split_past p n k [] zero h l = tt
split_past p n k (x ∷ xs) zero h l = absurd (omega (arith, l))
split_past p n k [] (suc i) h l = absurd h
split_past p n k (x ∷ xs) (suc i) h l = (h.0, split_past p n k xs i h.1 (omega (arith, l)))

-- ---- steps in which nothing happens

pub settled_later : (passed : Bool) (n : ℕ) (m x : Machine BoardState) → IsSettled m → OnTrue passed (x ≡ later n m) → OnFalse passed (x ≡ m) → IsSettled x
settled_later true n m x settled p q = subst IsSettled (sym p) (record { a20 = settled.a20; asks = settled.asks })
settled_later false n m x settled p q = subst IsSettled (sym q) settled

stays_idle : (n : ℕ) (m : Machine BoardState) → row_of board_rules m ≡ Idle → row_of board_rules (later n m) ≡ Idle
unfolding boundary
stays_idle n m e = e

ends_idle : (asks : Bool) (m : Machine BoardState) → asks ≡ false → gate_of m.board ≡ m.state.mem.physical.a20 → EndsBy asks board_rules m (later 1 m)
ends_idle true m is e = absurd cc
ends_idle false m is e = ap (λ (a20 : Bool). record m { state = counted_with a20 m.state }) (sym e)

one_idle : (m : Machine BoardState) → row_of board_rules m ≡ Idle → IsSettled m → SomeStep board_rules run_policy m (later 1 m)
one_idle m idle settled = idled board_rules run_policy m (later 1 m) idle (ends_idle m.board.asks m settled.asks settled.a20)

later_more : (n : ℕ) (m : Machine BoardState) → later (n + 1) m ≡ later 1 (later n m)
later_more n m = ap (λ (k : ℕ). record m { state = record m.state { core = record m.state.core { steps = k } } }) (omega arith)

later_same : (m : Machine BoardState) → m ≡ later 0 m
later_same m = ap (λ (k : ℕ). record m { state = record m.state { core = record m.state.core { steps = k } } }) (omega arith)

-- so many steps, and then so many in which nothing happens
pub steps_idle : (k n : ℕ) (a m : Machine BoardState) → StepsFor board_rules on_board [] run_policy k a m → row_of board_rules m ≡ Idle → IsSettled m
    → StepsFor board_rules on_board [] run_policy (k + n) a (later n m)
steps_idle k zero a m ran idle settled = subst (λ (x : Machine BoardState). StepsFor board_rules on_board [] run_policy (k + 0) a x) (later_same m)
    (subst (λ (j : ℕ). StepsFor board_rules on_board [] run_policy j a m) (omega arith) ran)
steps_idle k (suc n) a m ran idle settled =
    let before = steps_idle k n a m ran idle settled in
    let next : n + 1 ≡ suc n = omega arith in
    let one = steps_more board_rules on_board [] run_policy (k + n) a (later n m) (later 1 (later n m)) (later 1 (later n m)) before
    (one_idle (later n m) (stays_idle n m idle) (record { a20 = settled.a20; asks = settled.asks })) refl in
    subst (λ (x : Machine BoardState). StepsFor board_rules on_board [] run_policy (k + suc n) a x) (sym (later_more n m) ∙ ap (λ (j : ℕ). later j m) next)
    (subst (λ (j : ℕ). StepsFor board_rules on_board [] run_policy j a (later 1 (later n m))) (omega arith) one)

-- ---- a burst

module _ (events : List Event) where
  unmoved : (k : ℕ) (m mid : Machine BoardState) → mid.state.core.steps ≡ k → events_at k events ≡ [] → after_events events mid ≡ mid
  unmoved k m mid at none = ap (λ (j : ℕ). run.all_applied board_rules on_board events (events_at j events) mid) at ∙ ap (λ (es : List Event). run.all_applied board_rules on_board events es mid) none

  -- steps with no event between them, and then the events of the last count, are steps of the list
  burst_steps : (choices : List Choice) (m n : Machine BoardState) → 0 < length choices → ((k : ℕ) → m.state.core.steps < k → k < m.state.core.steps + length choices → events_at k events ≡ [])
      → Steps board_rules on_board [] run_policy m choices n → Steps board_rules on_board events run_policy m choices (after_events events n)
  burst_steps [] m n some quiet ran = absurd (omega (arith, some))
  burst_steps (choice ∷ []) m n some quiet ran = (ran.0, ran.1, ap (after_events events) ran.2)
  burst_steps (choice ∷ (next ∷ choices)) m n some quiet ran =
      let mid = ran.0 in
      let count = step_counts board_rules run_policy m choice mid ran.1 in
      let none = unmoved (m.state.core.steps + 1) m mid count (quiet (m.state.core.steps + 1) (omega arith) (omega arith)) in (
        mid,
        ran.1,
        subst (λ (x : Machine BoardState). Steps board_rules on_board events run_policy x (next ∷ choices) (after_events events n)) (sym none)
            (burst_steps (next ∷ choices) mid n (omega arith) (λ k p q. quiet k (omega (arith, count, p)) (omega (arith, count, q))) ran.2),
      )

  -- so many steps of the list, and then others with no event between them, but those of the last count
  pub steps_burst : (k n : ℕ) (a m mid x : Machine BoardState) → StepsFor board_rules on_board events run_policy k a m → StepsFor board_rules on_board [] run_policy n m mid
      → 0 < n → ((j : ℕ) → m.state.core.steps < j → j < m.state.core.steps + n → events_at j events ≡ []) → x ≡ after_events events mid
      → StepsFor board_rules on_board events run_policy (k + n) a x
  steps_burst k n a m mid x one two some quiet is = record {
    choices = one.choices ++ two.choices;
    count = length-append one.choices two.choices ∙ omega (arith, one.count, two.count);
    ran = steps_join events one.choices two.choices a m x one.ran
        (subst (λ (y : Machine BoardState). Steps board_rules on_board events run_policy m two.choices y) (sym is)
        (burst_steps two.choices m mid (omega (arith, two.count, some)) (λ j p q. quiet j p (omega (arith, two.count, q))) two.ran));
    walks = ap (λ (y : Machine BoardState). y.state.mem.walks) is ∙ events_walk events (events_at mid.state.core.steps events) mid
        ∙ two.walks ∙ ap (walks_in two.choices) one.walks ∙ sym (walks_join one.choices two.choices a.state.mem.walks);
  }
