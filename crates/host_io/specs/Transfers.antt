-- What reading an input whole and writing a piece whole do, where the host tells.
use Rattle.std.specs.Prelude.{◌≡◌, ℕ, ◌≤◌, ◌<◌, List, length, take, drop, Option, None, Some, ⊤}
use Rattle.std.specs.Io.KnownBytes.{Appends}

-- these bytes are all that the input had left
abbrev pub IsWhole : Option (List ℕ) → List ℕ → Type 0
IsWhole None bytes = ⊤
IsWhole (Some xs) bytes = bytes ≡ xs

-- the input had more bytes left than the limit
abbrev pub IsOver : ℕ → Option (List ℕ) → Type 0
IsOver limit None = ⊤
IsOver limit (Some xs) = limit < length xs

-- the first n bytes of what the input had left are gone
abbrev pub Takes : ℕ → Option (List ℕ) → Option (List ℕ) → Type 0
Takes n None now = ⊤
Takes n (Some xs) now = now ≡ Some (drop n xs)

-- some first bytes are gone, and no more than so many
abbrev pub TakesAtMost : ℕ → Option (List ℕ) → Option (List ℕ) → Type 0
TakesAtMost most before now = (n : ℕ) × (n ≤ most) × Takes n before now

-- an output grew by some first bytes of these
pub record AppendsPrefix (before now : Option (List ℕ)) (bytes : List ℕ) : Type 0 where
  pub count : ℕ
  pub within : count ≤ length bytes
  pub appended : Appends before now (take count bytes)
