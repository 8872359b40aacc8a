-- The script of a run: what happens to the machine, and at which counts of steps. Own: The script of a run
use Rattle.std.specs.Prelude.{◌≡◌, ℕ, ◌+◌, ◌-◌, ◌*◌, ◌^◌, ◌<◌, ◌≤◌, ◌==◌, not, Bool, true, List, [], ◌∷◌, ◌++◌, length, take, codes}
use Rattle.std.specs.Char.{digit_value}
use Rattle.std.specs.Fmt.{decimal}
use Rattle.std.specs.List.{AllZip, filter}
use Rattle.std.specs.Str.Lines.{lines}
use Rattle.mdl_state.specs.declared.Event.{Event}
use Rattle.mdl_state.specs.declared.EventKind.{EventKind}
use Rattle.mdl_state.specs.declared.EventKind.TheVariants.{Key, Pulse, Nmi, Reset}

-- ---- a line

-- a line that is empty, or begins with `#`, states nothing
abbrev pub is_skipped : List ℕ → Bool
is_skipped [] = true
is_skipped (first ∷ rest) = first == 35

-- two hexadecimal digits, each of either case
abbrev pub IsByteText : ℕ → List ℕ → Type 0
IsByteText byte [] = ⊥
IsByteText byte (high ∷ []) = ⊥
IsByteText byte (high ∷ low ∷ []) = (digit_value high < 16) × (digit_value low < 16) × (byte ≡ 16 * digit_value high + digit_value low)
IsByteText byte (high ∷ low ∷ more ∷ rest) = ⊥

-- what happens, in words
abbrev pub IsKindText : EventKind → List ℕ → Type 0
IsKindText (Key byte) text = (digits : List ℕ) × (text ≡ codes "key " ++ digits) × IsByteText byte digits
IsKindText (Pulse count) text = (text ≡ codes "pulse " ++ decimal count) × (1 ≤ count) × (count < 2 ^ 32)
IsKindText Nmi text = text ≡ codes "nmi"
IsKindText Reset text = text ≡ codes "reset"

-- the line states the event: a count of steps of at most 10^15, a space, and what happens
pub record States (line : List ℕ) (event : Event) : Type 0 where
  pub kind : List ℕ
  pub whole : line ≡ decimal event.at ++ 32 ∷ kind
  pub count : event.at ≤ 10 ^ 15
  pub happens : IsKindText event.kind kind

-- ---- lines

-- no count is below n, nor below the count before it
abbrev pub RisesFrom : ℕ → List Event → Type 0
RisesFrom n [] = Unit {0}
RisesFrom n (event ∷ events) = (n ≤ event.at) × RisesFrom event.at events

-- the lines that state something
abbrev pub spoken : List (List ℕ) → List (List ℕ)
spoken = filter (λ line. not (is_skipped line))

-- the most events of a script
abbrev pub most_events : ℕ
most_events = 65536

-- Each line that is not skipped states one of the events, in their order. Their counts do not fall, and they are not too many.
pub record AreScript (lines : List (List ℕ)) (events : List Event) : Type 0 where
  pub stated : AllZip States (spoken lines) events
  pub rising : RisesFrom 0 events
  pub few : length events ≤ most_events

-- the lines of the file, which end with 0Ah, with 0Dh 0Ah or with the file, are a script of these events
abbrev pub Script : List ℕ → List Event → Type 0
Script bytes events = AreScript (lines bytes) events

-- line n is the first bad one: those before it are a script, and with it they are none
pub record IsFirstBad (bytes : List ℕ) (n : ℕ) : Type 0 where
  pub events : List Event
  pub before : AreScript (take (n - 1) (lines bytes)) events
  pub bad : (events : List Event) → ¬ (AreScript (take n (lines bytes)) events)
