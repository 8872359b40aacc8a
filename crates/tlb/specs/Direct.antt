-- Accesses that need no look at pages and held writes. Own: Writes of an instruction are held.
use Rattle.std.specs.Prelude.{ℕ, ◌≡◌, ◌≤◌, ◌<◌, Bool, false, List, []}

-- an access from an address below this one is of conventional memory as it stands, with eight bytes from there on
pub record IsDirect (direct : ℕ) (paging : Bool) (held : List (ℕ × ℕ)) : Type 0 where
  pub low : direct ≤ 0x9FFF9
  pub unpaged : 0 < direct → paging ≡ false
  pub empty : 0 < direct → held ≡ []
