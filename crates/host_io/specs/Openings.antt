-- What is told of a slot's openings.
use Rattle.std.specs.Prelude.{◌≡◌, ℕ, List, Option, None, Some, ⊤}
use Rattle.std.specs.Option.{option_map}
use Rattle.host_io.specs.Causes.{risen}

-- of the openings that did not fail: how many there were, up to the last value of a count, and the path of the last one.
-- Own: counts of faults
pub record Openings : Type 0 where
  pub times : ℕ
  pub last : Option (List ℕ)

-- where the host tells, this was the path of the last opening
abbrev pub WasOpened : Option Openings → List ℕ → Type 0
WasOpened None path = ⊤
WasOpened (Some openings) path = openings.last ≡ Some path

-- the openings behind one more, with this path
abbrev pub opened_once : Openings → List ℕ → Openings
opened_once openings path = record { times = risen openings.times; last = Some path }

-- how many openings are told of
abbrev pub times_of : Option Openings → Option ℕ
times_of openings = option_map (λ o. o.times) openings

-- where the host tells, the slot was opened once, with this path
pub record OpenedOnce (before now : Option Openings) (path : List ℕ) : Type 0 where
  pub times : times_of now ≡ option_map risen (times_of before)
  pub last : WasOpened now path
