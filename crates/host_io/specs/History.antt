-- What a host in memory keeps of a slot.
use Rattle.std.specs.Prelude.{◌≡◌, ℕ, List, Option, None}
use Rattle.std.specs.Option.{option_map}
use Rattle.host_io.specs.Openings.{Openings}
use Rattle.host_io.specs.declared.history.History.{History}

-- the path of the last opening
abbrev pub last_path : History → Option (List ℕ)
last_path h = option_map (λ path. path.bytes) h.path

-- the openings
abbrev pub openings_in : History → Openings
openings_in h = record { times = h.openings; last = last_path h }

-- never opened, and no call failed
pub record IsUnused (h : History) : Type 0 where
  pub openings : openings_in h ≡ record { times = 0; last = None }
  pub faults : h.faults ≡ 0
