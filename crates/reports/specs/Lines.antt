-- The listing as it grows. Own: A listing is written line by line
use Rattle.std.specs.Prelude.{◌≡◌, ◌+◌, ◌≤◌, ℕ, Bool, List, ◌++◌, drop, Option}
use Rattle.std.specs.Io.KnownBytes.{Appends}
use Rattle.host_io.specs.Transfers.{AppendsPrefix}
use Rattle.mdl_insn.specs.Listing.{Front, StandsAt, covered, line_text, Lists, IsListing}

-- the line of what stands in front of some bytes, and how many of them it covers
pub record IsLine (bytes : List ℕ) (big : Bool) (at : ℕ) (text : List ℕ) (n : ℕ) : Type 0 where
  pub front : Front
  pub stands : StandsAt bytes big front
  pub line : text ≡ line_text front at bytes
  pub count : n ≡ covered front bytes

-- the text is so many first lines of a listing, and goes on with the lines from this place
abbrev pub IsBegun : List ℕ → ℕ → Bool → ℕ → ℕ → List ℕ → Type 0
IsBegun bytes from big lines at text =
    (more : ℕ) (rest : List ℕ) → Lists big more at (drop at bytes) rest → IsListing bytes from (lines + more) big (text ++ rest)

-- an output grew by the listing of the bytes from an offset, with at most so many lines
pub record AppendsListing (bytes : List ℕ) (from count : ℕ) (big : Bool) (before now : Option (List ℕ)) : Type 0 where
  pub text : List ℕ
  pub listing : IsListing bytes from count big text
  pub report : Appends before now text

-- an output grew by some first bytes of the listing's first lines
pub record AppendsListingPrefix (bytes : List ℕ) (from count : ℕ) (big : Bool) (before now : Option (List ℕ)) : Type 0 where
  pub lines : ℕ
  pub within : lines ≤ count
  pub text : List ℕ
  pub listing : IsListing bytes from lines big text
  pub report : AppendsPrefix before now text

-- an output grew by so many first lines of a listing, which goes on from this place
pub record AppendsLines (bytes : List ℕ) (from : ℕ) (big : Bool) (lines at : ℕ) (before now : Option (List ℕ)) : Type 0 where
  pub text : List ℕ
  pub begun : IsBegun bytes from big lines at text
  pub report : Appends before now text
