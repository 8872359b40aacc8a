-- The steps of reading code: what is found in front of some bytes, and a text that grows by a listing.
use Rattle.std.specs.Prelude.{◌≡◌, ℕ, Bool, List, ◌++◌, Option, Some, None}
use Rattle.mdl_board.specs.Board.{BoardState}
use Rattle.mdl_insn.specs.Listing.{Front, Whole, Undefined, TooLong, Short, StandsAt}
use Rattle.mdl_state.specs.Machine.{Machine}
use Rattle.monitor.specs.Places.{code_text, ListsAt}

-- how many bytes it covers; none where it goes on behind those that have a page
abbrev pub covers : Front → Option ℕ
covers (Whole insn n) = Some n
covers Undefined = Some 1
covers TooLong = Some 1
covers Short = None

-- this text and this many bytes are those of what stands in front of some code
pub record IsNamed (code : List ℕ) (big : Bool) (at : ℕ) (name : List ℕ) (count : Option ℕ) : Type 0 where
  pub front : Front
  pub stands : StandsAt code big front
  pub text : name ≡ code_text front at
  pub count_is : count ≡ covers front

-- a text grew by a listing
pub record GrowsByListing (m : Machine BoardState) (count at : ℕ) (before now : List ℕ) : Type 0 where
  pub more : List ℕ
  pub lists : ListsAt m count at more
  pub grown : now ≡ before ++ more
