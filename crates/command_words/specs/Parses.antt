-- What a parse gives, before its values are read.
use Rattle.std.specs.Prelude.{◌≡◌, ◌≢◌, ◌≤◌, ◌⊎◌, ℕ, true, List, [], Some, is_some, codes}
use Rattle.std.specs.Str.Parse.{IsNumeral, digits_value, without_leading_plus}
use Rattle.clap.specs.Words.{App, Row, first_of, one_of, matches_of, fault_of, found_of, rows_of, takes}
use Rattle.clap.specs.declared.parser.matches.ArgMatches.{ArgMatches}

-- `clap` finds no fault in the words, and m has the matches that it promises for them
pub record IsParsedBy (app : App) (words : List (List ℕ)) (m : ArgMatches) : Type 0 where
  pub faultless : fault_of app words ≡ []
  pub rows : rows_of (found_of m) ≡ matches_of app words

-- `clap` finds a fault in the words, and they do not meet its test for taking them
pub record IsUnfit (app : App) (words : List (List ℕ)) : Type 0 where
  pub fault : fault_of app words ≢ []
  pub untaken : takes app words ≢ true

-- an argument has a text
abbrev pub HasText : List ℕ → List Row → Type 0
HasText id rows = is_some (first_of id rows) ≡ true

-- an argument has a text that writes a number of the range
pub record HasNumber (least most : ℕ) (id : List ℕ) (rows : List Row) : Type 0 where
  pub text : List ℕ
  pub is : one_of id rows ≡ Some text
  pub numeral : IsNumeral 10 (without_leading_plus text)
  pub above : least ≤ digits_value 10 (without_leading_plus text)
  pub below : digits_value 10 (without_leading_plus text) ≤ most

-- a flag is read as true or as false, where it is read
abbrev pub IsFlag : List ℕ → List Row → Type 0
IsFlag id rows = (text : List ℕ) → one_of id rows ≡ Some text → (text ≡ codes "true") ⊎ (text ≡ codes "false")

-- the matches have a ROM and a size of RAM
pub record HasMachine (rows : List Row) : Type 0 where
  pub rom : HasText (codes "rom") rows
  pub ram : HasNumber 1 64 (codes "ram") rows

-- and a number of steps
pub record HasRun (rows : List Row) : Type 0 where
  pub machine : HasMachine rows
  pub steps : HasNumber 0 1000000000000000 (codes "steps") rows

-- the matches have a ROM, the first line and the number of lines of a listing, and a flag
pub record HasDis (rows : List Row) : Type 0 where
  pub rom : HasText (codes "rom") rows
  pub from : HasNumber 0 262143 (codes "from") rows
  pub count : HasNumber 1 65536 (codes "count") rows
  pub big : IsFlag (codes "big") rows

-- the matches have the number of a demo
abbrev pub HasDemo : List Row → Type 0
HasDemo = HasNumber 0 4294967295 (codes "number")
