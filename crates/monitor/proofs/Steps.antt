-- Lemmas on the steps of a session: one more step on the way to a breakpoint, and one more line of a trace.
use Rattle.std.proofs.Common.{◌≡◌, inl, inr, ℕ, suc, ◌+◌, ◌<◌, ◌-◌, ◌^◌, List, ◌++◌, min, subst, ap, ◌∙◌, arith}
use Rattle.mdl_board.specs.Board.{BoardState}
use Rattle.mdl_state.specs.declared.Event.{Event}
use Rattle.mdl_state.specs.Machine.{Machine}
use Rattle.monitor.specs.Moves.{Makes, Passes, Continues, IsStopped, steps_left}
use Rattle.monitor.specs.Places.{IsPlace}
use Rattle.monitor.specs.Answers.{Traces, most_continued}

-- steps with the same events by another name
pub makes_with : (some events : List Event) (steps : ℕ) (m n : Machine BoardState) → some ≡ events → Makes some steps m n → Makes events steps m n
makes_with some events steps m n same made = subst (λ (es : List Event). Makes es steps m n) same made

-- how many steps `c` makes at most
pub most_is : (m : Machine BoardState) (most steps : ℕ) → most ≡ min 10000000 (10 ^ 15 - steps) → steps ≡ m.state.core.steps → most ≡ min most_continued (steps_left m)
unfolding most_continued
most_is m most steps is same = is ∙ ap (λ (k : ℕ). min 10000000 (10 ^ 15 - k)) same

pub passes_more : (events : List Event) (stops : List ℕ) (k : ℕ) (m mid n : Machine BoardState) → Passes events stops k m mid → Makes events 1 mid n → ¬ (IsStopped stops n) → Passes events stops (k + 1) m n
passes_more events stops k m mid n passes makes runs =
    let one : suc k ≡ k + 1 = omega arith in
    subst (λ (i : ℕ). Passes events stops i m n) one (mid, passes, makes, runs)

pub met : (events : List Event) (stops : List ℕ) (k most : ℕ) (m mid n : Machine BoardState) → k < most → Passes events stops k m mid → Makes events 1 mid n → IsStopped stops n → Continues events stops most m n
met events stops k most m mid n less passes makes stopped = inl (k, less, mid, passes, makes, stopped)

pub through : (events : List Event) (stops : List ℕ) (k most : ℕ) (m n : Machine BoardState) → k ≡ most → Passes events stops k m n → Continues events stops most m n
through events stops k most m n all passes = inr (k, all, passes)

-- ---- traces

pub trace_more : (events : List Event) (k : ℕ) (m mid n : Machine BoardState) (before line now : List ℕ) → Traces events k m mid before → Makes events (min 1 (steps_left mid)) mid n → IsPlace n line
    → now ≡ before ++ line → Traces events (k + 1) m n now
trace_more events k m mid n before line now traces makes place grown =
    let one : suc k ≡ k + 1 = omega arith in
    subst (λ (i : ℕ). Traces events i m n now) one (mid, before, line, traces, makes, place, grown)

pub trace_whole : (events : List Event) (k count : ℕ) (m n : Machine BoardState) (text : List ℕ) → k ≡ count → Traces events k m n text → Traces events count m n text
trace_whole events k count m n text all traces = subst (λ (i : ℕ). Traces events i m n text) all traces
