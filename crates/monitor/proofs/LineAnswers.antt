-- Lemmas on the answer to a line, and on the bytes of a piece.
use Rattle.std.proofs.Common.{◌≡◌, ◌≢◌, ◌==◌, ℕ, Bool, List, [], ◌∷◌, take, drop, Option, Result, Ok, Err, OnOk, OnErr, IfOk, refl, sym, subst, arith, inl, inr, length-take}
use Rattle.std.proofs.KnownBytes.{prepend_known-nil}
use Rattle.std.proofs.lemmas.Bool.Decides.{eqb_tells}
use Rattle.std.proofs.Math.ListN.{drop_of_length-le}
use Rattle.std.specs.Io.KnownBytes.{Keeps, prepend_known}
use Rattle.std.specs.List.{position_or_len}
use Rattle.mdl_board.specs.Board.{BoardState}
use Rattle.mdl_state.specs.declared.Event.{Event}
use Rattle.mdl_state.specs.Machine.{Machine}
use Rattle.mdl_text.specs.CommandLine.{IsCommand}
use Rattle.mdl_text.specs.declared.command.Command.{Command}
use Rattle.monitor.specs.Answers.{Answers, AnswersInPart, goes_on, stops_after}
use Rattle.monitor.specs.LineSteps.{AnswersWhole, AnswersSome}

pub whole_by : {E : Type 0} (r : Result Bool E) (command : Command) (line : List ℕ) (events : List Event) (m : Machine BoardState) (stops : List ℕ) (n : Machine BoardState) (now : List ℕ) (before after : Option (List ℕ))
    → IsCommand line command → now ≡ stops_after command stops → OnOk r (Answers command events stops m n before after) → IfOk r (λ on. on ≡ goes_on command)
    → IfOk r (λ on. AnswersWhole events line on m stops n now before after)
whole_by (Ok on) command line events m stops n now before after is behind answer goes = record { text = answer.text; answer = inl (command, is, goes, answer.shows, behind); report = answer.report }
whole_by (Err e) command line events m stops n now before after is behind answer goes = tt

pub part_by : {E : Type 0} (r : Result Bool E) (command : Command) (line : List ℕ) (events : List Event) (m : Machine BoardState) (stops : List ℕ) (n : Machine BoardState) (now : List ℕ) (before after : Option (List ℕ))
    → IsCommand line command → now ≡ stops_after command stops → OnErr r (AnswersInPart command events stops m n before after)
    → OnErr r (AnswersSome events line m stops n now before after)
part_by (Ok on) command line events m stops n now before after is behind answer = tt
part_by (Err e) command line events m stops n now before after is behind answer =
    record { on = goes_on command; text = answer.text; answer = inl (command, is, refl, answer.shows, behind); report = answer.report }

-- of a piece that is taken nothing is left
all_taken : (piece : List ℕ) (from to : ℕ) → from ≡ to → drop from (take to piece) ≡ []
all_taken piece from to is = drop_of_length-le (take to piece) (let count = length-take to piece in omega (arith, count, is))

pub kept_input : (piece : List ℕ) (from to : ℕ) (left left_now : Option (List ℕ)) → from ≡ to → Keeps left left_now → Keeps (prepend_known (drop from (take to piece)) left) left_now
kept_input piece from to left left_now is same =
    subst (λ (xs : List ℕ). Keeps (prepend_known xs left) left_now) (sym (all_taken piece from to is)) (subst (λ (x : Option (List ℕ)). Keeps x left_now) (sym (prepend_known-nil left)) same)

-- of one byte that is no line feed all is taken
pub one_byte : (byte : ℕ) → byte ≢ 10 → take (position_or_len (λ b. b == 10) (byte ∷ [])) (byte ∷ []) ≡ byte ∷ []
one_byte byte differs = elim (eqb_tells byte 10) as (λ _. take (position_or_len (λ b. b == 10) (byte ∷ [])) (byte ∷ []) ≡ byte ∷ []) [
  | inl same ↦ absurd (differs same.1)
  | inr other ↦ rw other.0 refl
]
