-- What the owner of a block's bytes has, and what a `&` to it holds.
use Rattle.std.specs.Prelude.{refl, ℕ, List, length}
use Rattle.std.specs.Coded.{Coded, code_by, coded×, coded_ℕ}
use base.Fraction.{full_share}
use base.Fml.{Lft, Fml}
use denote.Builtin.{u8}
use denote.Array.{Array}
use denote.RawPtr.{Ptr, coded_ptr, lies_at}
use denote.Struct.Lending.{lent_at}

-- where a block begins, and how many bytes it has
pub record Extent : Type 0 where
  pub at : Ptr
  pub count : ℕ

-- it is kept as the pair of these
abbrev pub extent_code : Coded Extent
extent_code = code_by (Ptr × ℕ) (coded× coded_ptr coded_ℕ) (λ e. (e.at, e.count)) (λ p. record { at = p.0; count = p.1 }) (λ _. refl)

-- these bytes lie from a place on, and nothing else reaches them
abbrev pub bytes_owned : Ptr → List ℕ → Fml
bytes_owned at list = lies_at (Array u8 (length list)) full_share at list

-- they may be read for a lifetime
abbrev pub bytes_lent : Ptr → List ℕ → Lft → Fml
bytes_lent at list = lent_at (Array u8 (length list)) at list
