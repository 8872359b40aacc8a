-- Lemmas on events that are due.
use Rattle.std.proofs.Common.{◌≡◌, ℕ, suc, ◌+◌, ◌-◌, ◌≤◌, true, false, List, [], ◌∷◌, take, drop, length, refl, ap, sym, subst, ◌∙◌, arith, inl, inr}
use Rattle.std.proofs.lemmas.Bool.Decides.{leb_tells}
use Rattle.std.proofs.lemmas.List.{take_rest}
use Rattle.std.proofs.Math.Nat.{zero-add}
use Rattle.mdl_board.specs.Board.{BoardState}
use Rattle.mdl_state.specs.declared.Event.{Event}
use Rattle.mdl_state.specs.Machine.{Machine}
use Rattle.mdl_text.specs.Script.{RisesFrom}
use Rattle.monitor.specs.Moves.{Makes}
use Rattle.pc_machine.specs.CutLaws.{rest_rises, ran_on}
use Rattle.pc_machine.specs.EventLaws.{none_by}
use Rattle.pc_machine.specs.Runs.{due_by, RanFor}

rises_later : (k n : ℕ) (es : List Event) → n ≤ k → RisesFrom k es → RisesFrom n es
rises_later k n [] le h = tt
rises_later k n (e ∷ es) le h = (let first = h.0 in omega (arith, le, first), h.1)

-- the events that are not due yet
pub rest_of : (k n a : ℕ) (es : List Event) → RisesFrom n es → a ≡ due_by k es → RisesFrom k (drop a es)
rest_of k n a es rises is = rises_later (k + 1) k (drop a es) (omega arith) (subst (λ (i : ℕ). RisesFrom (k + 1) (drop i es)) (sym is) (rest_rises k n es rises))

-- no more are due than there are
pub due_inside : (k : ℕ) (es : List Event) → due_by k es ≤ length es
due_inside k [] = omega arith
due_inside k (e ∷ es) = elim (leb_tells e.at k) as (λ _. due_by k (e ∷ es) ≤ length (e ∷ es)) [
  | inl q ↦ rw q.0 (let rest = due_inside k es in omega (arith, rest))
  | inr q ↦ rw q.0 (let rest = due_inside k es in omega (arith, rest))
]

-- those that are due by now, and of the others those that are due later
pub due_then : (k j n : ℕ) (es : List Event) → k ≤ j → RisesFrom n es → due_by k es + due_by j (drop (due_by k es) es) ≡ due_by j es
due_then k j n [] le rises = refl
due_then k j n (e ∷ es) le rises = elim (leb_tells e.at k) as (λ _. due_by k (e ∷ es) + due_by j (drop (due_by k (e ∷ es)) (e ∷ es)) ≡ due_by j (e ∷ es)) [
  | inl q ↦ rw q.0 (let rest = due_then k j e.at es le rises.1 in elim (leb_tells e.at j) as (λ _. suc (due_by k es) + due_by j (drop (due_by k es) es) ≡ due_by j (e ∷ es)) [
    | inl p ↦ rw p.0 (omega (arith, rest))
    | inr p ↦ absurd (omega (arith, le, q.1, p.1))
  ])
  | inr q ↦ rw (q.0, none_by k e.at es q.1 rises.1) (zero-add (due_by j (e ∷ es)))
]

-- ---- the part of a slice from a place on

-- the events of the slice from the place on are those of the list
part : (events slice : List Event) (a : ℕ) → slice ≡ events → take (length slice - a) (drop a slice) ≡ drop a events
part events slice a is = take_rest slice a ∙ ap (λ (xs : List Event). drop a xs) is

pub part_rises : (events slice : List Event) (k a : ℕ) → slice ≡ events → RisesFrom 0 events → a ≡ due_by k events → RisesFrom k (take (length slice - a) (drop a slice))
part_rises events slice k a is rises due = subst (λ (xs : List Event). RisesFrom k xs) (sym (part events slice a is)) (rest_of k 0 a events rises due)

pub makes_all : (events slice : List Event) (steps a : ℕ) (m n : Machine BoardState) → slice ≡ events → RisesFrom 0 events → a ≡ due_by m.state.core.steps events
    → RanFor (take (length slice - a) (drop a slice)) steps m n → Makes events steps m n
makes_all events slice steps a m n is rises due ran =
    ran_on events 0 steps m n rises (subst (λ (xs : List Event). RanFor xs steps m n) (part events slice a is ∙ ap (λ (i : ℕ). drop i events) due) ran)

-- so many events were applied in all
pub due_more : (events slice : List Event) (a b k j : ℕ) → slice ≡ events → RisesFrom 0 events → k ≤ j → a ≡ due_by k events
    → b ≡ due_by j (take (length slice - a) (drop a slice)) → a + b ≡ due_by j events
due_more events slice a b k j is rises le due more =
    let there = more ∙ ap (λ (xs : List Event). due_by j xs) (part events slice a is) ∙ ap (λ (i : ℕ). due_by j (drop i events)) due in
    let whole = due_then k j 0 events le rises in
    omega (arith, due, there, whole)

pub due_most : (events : List Event) (n j : ℕ) → n ≡ due_by j events → n ≤ length events
due_most events n j is = let inside = due_inside j events in omega (arith, is, inside)
