-- The answer to one line of a session, and what the report took of it.
use Rattle.std.specs.Prelude.{◌≡◌, ◌≢◌, ◌⊎◌, ℕ, Bool, List, [], Option}
use Rattle.std.specs.Io.KnownBytes.{Appends}
use Rattle.host_io.specs.Transfers.{AppendsPrefix}
use Rattle.mdl_board.specs.Board.{BoardState}
use Rattle.mdl_state.specs.declared.Event.{Event}
use Rattle.mdl_state.specs.Machine.{Machine}
use Rattle.mdl_text.specs.CommandInput.{text_of}
use Rattle.monitor.specs.Session.{AnswersLine}

-- it grew by the whole answer
pub record AnswersWhole (events : List Event) (line : List ℕ) (on : Bool) (m : Machine BoardState) (stops : List ℕ) (n : Machine BoardState) (now : List ℕ) (before after : Option (List ℕ)) : Type 0 where
  pub text : List ℕ
  pub answer : AnswersLine events line on m stops n now text
  pub report : Appends before after text

-- it grew by some first bytes of the answer
pub record AnswersSome (events : List Event) (line : List ℕ) (m : Machine BoardState) (stops : List ℕ) (n : Machine BoardState) (now : List ℕ) (before after : Option (List ℕ)) : Type 0 where
  pub on : Bool
  pub text : List ℕ
  pub answer : AnswersLine events line on m stops n now text
  pub report : AppendsPrefix before after text

-- at the end of the input: the line that has no end was answered, or there is none
abbrev pub AnswersLast : List Event → List ℕ → Machine BoardState → List ℕ → Machine BoardState → List ℕ → Option (List ℕ) → Option (List ℕ) → Type 0
AnswersLast events line m stops n now before after =
    ((line ≡ []) × (n ≡ m) × (now ≡ stops) × (after ≡ before))
    ⊎ ((line ≢ []) × ((on : Bool) × AnswersWhole events (text_of line) on m stops n now before after))
