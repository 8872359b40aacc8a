-- Laws of events that are gone through by an index, and of a run that is cut in two.
use Rattle.std.specs.Prelude.{◌≡◌, ℕ, suc, zero, ◌+◌, ◌<◌, ◌==◌, if◌then◌else◌, List, [], ◌∷◌, drop, Option, Some, None, refl}
use Rattle.std.proofs.Common.{ap, sym, subst, ◌∙◌, arith, inl, inr}
use Rattle.std.proofs.lemmas.Bool.Decides.{eqb_tells, leb_tells}
use Rattle.mdl_state.specs.declared.Event.{Event}
use Rattle.mdl_state.specs.declared.EventKind.{EventKind}
use Rattle.mdl_state.specs.declared.EventKind.TheVariants.{Key, Pulse, Nmi, Reset}
use Rattle.mdl_state.specs.Machine.{Machine}
use Rattle.mdl_board.specs.Board.{BoardState}
use Rattle.mdl_text.specs.Script.{RisesFrom}
use Rattle.mdl_step.specs.Run as run
use Rattle.mdl_step.specs.Run.{events_at}
use Rattle.mdl_step.specs.RunLaws.{StepsFor, walks_in}
use Rattle.mdl_step.specs.Computer.{board_rules, on_board, happens, run_policy}
use Rattle.pc_machine.specs.Runs.{due_by, RanFor}

-- events one after the other
abbrev all_applied : List Event → Machine BoardState → Machine BoardState
all_applied es m = run.all_applied board_rules on_board [] es m

-- the first i events have counts below p, and the others rise from k
abbrev pub Split : ℕ → ℕ → List Event → ℕ → Type 0
Split p k es zero = RisesFrom k es
Split p k [] (suc i) = ⊥
Split p k (e ∷ es) (suc i) = (e.at < p) × Split p k es i

-- the next event, if it has this count
abbrev pub next_at : ℕ → List Event → Option Event
next_at k [] = None
next_at k (e ∷ es) = if e.at == k then Some e else None

-- the events at the front that have this count
abbrev pub due : ℕ → List Event → List Event
due k [] = []
due k (e ∷ es) = if e.at == k then e ∷ due k es else []

abbrev IsNone : Option Event → Type 0
IsNone None = Unit {0}
IsNone (Some x) = ⊥

abbrev IsSome : Option Event → Type 0
IsSome None = ⊥
IsSome (Some x) = Unit {0}

-- none have a count below that of the first
pub later_none : (k n : ℕ) (es : List Event) → k < n → RisesFrom n es → events_at k es ≡ []
later_none k n [] l h = refl
later_none k n (e ∷ es) l h = elim (eqb_tells e.at k) as (λ _. events_at k (e ∷ es) ≡ []) [
  | inl q ↦ absurd (omega (arith, l, h.0, q.1))
  | inr q ↦ rw q.0 (later_none k e.at es (omega (arith, l, h.0)) h.1)
]

front : (k : ℕ) (es : List Event) → RisesFrom k es → events_at k es ≡ due k es
front k [] h = refl
front k (e ∷ es) h = elim (eqb_tells e.at k) as (λ _. events_at k (e ∷ es) ≡ due k (e ∷ es)) [
  | inl q ↦ rw q.0 (ap (λ (xs : List Event). e ∷ xs) (front k es (subst (λ (n : ℕ). RisesFrom n es) q.1 h.1)))
  | inr q ↦ rw q.0 (later_none k e.at es (omega (arith, h.0, q.1)) h.1)
]

at_due : (k : ℕ) (es : List Event) (i : ℕ) → Split k k es i → events_at k es ≡ due k (drop i es)
at_due k es zero h = front k es h
at_due k [] (suc i) h = absurd h
at_due k (e ∷ es) (suc i) h = elim (eqb_tells e.at k) as (λ _. events_at k (e ∷ es) ≡ due k (drop i es)) [
  | inl q ↦ absurd (omega (arith, h.0, q.1))
  | inr q ↦ rw q.0 (at_due k es i h.1)
]

pub widened : (k : ℕ) (es : List Event) (i : ℕ) → Split k k es i → Split (k + 1) k es i
widened k es zero h = h
widened k [] (suc i) h = absurd h
widened k (e ∷ es) (suc i) h = (omega (arith, h.0), widened k es i h.1)

-- the machine after the events of its count of steps
abbrev pub after_events : List Event → Machine BoardState → Machine BoardState
after_events events m = run.after_events board_rules on_board events m

-- the events at the front that are due, one after the other
abbrev pub after_due : ℕ → List Event → Machine BoardState → Machine BoardState
after_due k es m = all_applied (due k es) m

-- what is done by events is the same whatever list they are taken from
pub applies_same : (some others es : List Event) (m : Machine BoardState) → run.all_applied board_rules on_board some es m ≡ run.all_applied board_rules on_board others es m
applies_same some others [] m = refl
applies_same some others (e ∷ es) m = applies_same some others es (happens e.kind m)

-- what is still to be done at the start is all that there is
pub due_start : (es : List Event) (i : ℕ) (m : Machine BoardState) → Split m.state.core.steps m.state.core.steps es i → after_due m.state.core.steps (drop i es) m ≡ after_events es m
due_start es i m h = subst (λ (xs : List Event). all_applied xs m ≡ after_events es m) (at_due m.state.core.steps es i h) (applies_same [] es (events_at m.state.core.steps es) m)

next_front : (k : ℕ) (es : List Event) (e : Event) (m : Machine BoardState) → next_at k es ≡ Some e → after_due k es m ≡ after_due k (drop 1 es) (happens e.kind m)
next_front k [] e m h = absurd (subst IsNone h tt)
next_front k (first ∷ es) e m h = elim (eqb_tells first.at k) as (λ _. after_due k (first ∷ es) m ≡ after_due k es (happens e.kind m)) [
  | inl q ↦ rw q.0 (ap (λ (x : Event). after_due k es (happens x.kind m)) (same first e (rw q.0 at h)))
  | inr q ↦ absurd (subst IsNone (rw q.0 at h) tt)
]
  where
    or : Event → Option Event → Event
    or d None = d
    or d (Some x) = x

    same : (a b : Event) → Some a ≡ Some b → a ≡ b
    same a b q = ap (or a) q

-- the next one applied
pub due_next : (k : ℕ) (es : List Event) (i : ℕ) (e : Event) (m : Machine BoardState) → next_at k (drop i es) ≡ Some e → after_due k (drop i es) m ≡ after_due k (drop (i + 1) es) (happens e.kind m)
due_next k es i e m h = subst (λ (n : ℕ). after_due k (drop i es) m ≡ after_due k (drop n es) (happens e.kind m)) one (by_suc es i h)
  where
    one : suc i ≡ i + 1
    one = omega arith

    by_suc : (es : List Event) (i : ℕ) → next_at k (drop i es) ≡ Some e → after_due k (drop i es) m ≡ after_due k (drop (suc i) es) (happens e.kind m)
    by_suc es zero h = next_front k es e m h
    by_suc [] (suc i) h = absurd (subst IsNone h tt)
    by_suc (first ∷ es) (suc i) h = by_suc es i h

-- no more of them
pub due_end : (k : ℕ) (es : List Event) (m : Machine BoardState) → next_at k es ≡ None → after_due k es m ≡ m
due_end k [] m h = refl
due_end k (e ∷ es) m h = elim (eqb_tells e.at k) as (λ _. after_due k (e ∷ es) m ≡ m) [
  | inl q ↦ absurd (subst IsSome (rw q.0 at h) tt)
  | inr q ↦ rw q.0 refl
]

pub split_next : (k : ℕ) (es : List Event) (i : ℕ) (e : Event) → next_at k (drop i es) ≡ Some e → Split (k + 1) k es i → Split (k + 1) k es (i + 1)
split_next k es i e h p = subst (λ (n : ℕ). Split (k + 1) k es n) one (by_suc es i h p)
  where
    one : suc i ≡ i + 1
    one = omega arith

    by_suc : (es : List Event) (i : ℕ) → next_at k (drop i es) ≡ Some e → Split (k + 1) k es i → Split (k + 1) k es (suc i)
    by_suc [] zero h p = absurd (subst IsNone h tt)
    by_suc (first ∷ es) zero h p = elim (eqb_tells first.at k) as (λ _. (first.at < k + 1) × RisesFrom k es) [
      | inl q ↦ (omega (arith, q.1), subst (λ (n : ℕ). RisesFrom n es) q.1 p.1)
      | inr q ↦ absurd (subst IsNone (rw q.0 at h) tt)
    ]
    by_suc [] (suc i) h p = absurd p
    by_suc (first ∷ es) (suc i) h p = (p.0, by_suc es i h p.1)

pub split_end : (k : ℕ) (es : List Event) (i : ℕ) → next_at k (drop i es) ≡ None → Split (k + 1) k es i → Split (k + 1) (k + 1) es i
split_end k [] zero h p = tt
split_end k (e ∷ es) zero h p = elim (eqb_tells e.at k) as (λ _. RisesFrom (k + 1) (e ∷ es)) [
  | inl q ↦ absurd (subst IsSome (rw q.0 at h) tt)
  | inr q ↦ (omega (arith, p.0, q.1), p.1)
]
split_end k [] (suc i) h p = absurd p
split_end k (e ∷ es) (suc i) h p = (p.0, split_end k es i h p.1)

-- none are due by a count below that of the first
pub none_by : (k n : ℕ) (es : List Event) → k < n → RisesFrom n es → due_by k es ≡ 0
none_by k n [] l h = refl
none_by k n (e ∷ es) l h = elim (leb_tells e.at k) as (λ _. due_by k (e ∷ es) ≡ 0) [
  | inl q ↦ absurd (omega (arith, l, h.0, q.1))
  | inr q ↦ rw q.0 (none_by k e.at es (omega (arith, l, h.0)) h.1)
]

-- so many events were due
pub split_count : (k : ℕ) (es : List Event) (i : ℕ) → Split (k + 1) (k + 1) es i → i ≡ due_by k es
split_count k es zero h = sym (none_by k (k + 1) es (omega arith) h)
split_count k [] (suc i) h = absurd h
split_count k (e ∷ es) (suc i) h = elim (leb_tells e.at k) as (λ _. suc i ≡ due_by k (e ∷ es)) [
  | inl q ↦ rw q.0 (ap suc (split_count k es i h.1))
  | inr q ↦ absurd (omega (arith, h.0, q.1))
]

-- ---- runs

-- events are no walks
event_walks : (kind : EventKind) (m : Machine BoardState) → (happens kind m).state.mem.walks ≡ m.state.mem.walks
event_walks (Key byte) m = refl
event_walks (Pulse count) m = refl
event_walks Nmi m = refl
event_walks Reset m = refl

pub events_walk : (events es : List Event) (m : Machine BoardState) → (run.all_applied board_rules on_board events es m).state.mem.walks ≡ m.state.mem.walks
events_walk events [] m = refl
events_walk events (e ∷ es) m = events_walk events es (happens e.kind m) ∙ event_walks e.kind m

-- steps behind the first events are a run
pub ran_for : (events : List Event) (steps : ℕ) (m n : Machine BoardState) → StepsFor board_rules on_board events run_policy steps (after_events events m) n → RanFor events steps m n
ran_for events steps m n s = record {
  choices = s.choices;
  as_many = s.count;
  run = s.ran;
  walks = s.walks ∙ ap (walks_in s.choices) (events_walk events (events_at m.state.core.steps events) m);
}

pub ruleset events = (widened, due_start, due_next, due_end, split_next, split_end)
