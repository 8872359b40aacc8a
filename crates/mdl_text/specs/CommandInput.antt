-- The input of the stepping monitor, cut into lines. Own: The lines of the monitor
use Rattle.std.specs.Prelude.{◌≡◌, ◌≢◌, ◌-◌, ◌==◌, ℕ, if◌then◌else◌, List, [], ◌∷◌, ◌++◌, length, take, slice_index}
use Rattle.std.specs.List.{AllByRecursion}

-- the byte that ends a line, and the one that may stand before it
abbrev pub line_feed : ℕ
line_feed = 10

abbrev pub carriage_return : ℕ
carriage_return = 13

-- no line ends in these bytes
abbrev pub IsUnbroken : List ℕ → Type 0
IsUnbroken bytes = AllByRecursion (λ byte. byte ≢ line_feed) bytes

-- lines, each with its line feed behind it
abbrev pub ended : List (List ℕ) → List ℕ
ended [] = []
ended (line ∷ lines) = line ++ (line_feed ∷ ended lines)

-- the input is these lines, and behind them a last one that has not ended
pub record IsCut (input : List ℕ) (lines : List (List ℕ)) (last : List ℕ) : Type 0 where
  pub each : AllByRecursion IsUnbroken lines
  pub open_line : IsUnbroken last
  pub whole : input ≡ ended lines ++ last

-- a line without the carriage return at its end, where it has one: this belongs to the line's end
abbrev pub text_of : List ℕ → List ℕ
text_of line = if slice_index line (length line - 1) == carriage_return then take (length line - 1) line else line

-- what is kept of a line: a line of 64 bytes with its carriage return, and one byte more, which shows that it is longer
abbrev pub kept : List ℕ → List ℕ
kept line = take 66 line
