-- Held writes, each whole: its place, its size and its value. Own: Writes of an instruction are held.
use Rattle.std.specs.Prelude.{ℕ, ◌≡◌, ◌≤◌, ◌<◌, ⊤, Option, Some, None, List, [], ◌∷◌, ◌++◌, length}
use Rattle.std.specs.List.{All}
use Rattle.mdl_state.specs.declared.Place.{Place}
use Rattle.mdl_state.specs.Bytes.{bound_of}
use Rattle.mdl_state.specs.Accesses.{held_bytes, held_room, IsPlace}
use Rattle.tlb.specs.declared.writes.HeldWrite.{HeldWrite}

-- where a write goes
abbrev pub place_of : HeldWrite → Place
place_of write = record { first = write.first; second = write.second; cut = write.cut }

-- the bytes of a held write
abbrev pub write_bytes : HeldWrite → List (ℕ × ℕ)
write_bytes write = held_bytes (place_of write) write.size write.value

-- the bytes of held writes, in order
abbrev pub bytes_held : List HeldWrite → List (ℕ × ℕ)
bytes_held [] = []
bytes_held (write ∷ writes) = write_bytes write ++ bytes_held writes

-- a write has a place for its size, and a value of it
pub record IsHeldWrite (write : HeldWrite) : Type 0 where
  pub place : IsPlace (place_of write) write.size
  pub value : write.value < bound_of write.size

-- the number of the held bytes is this, and there is room for them
pub record IsHeld (writes : List HeldWrite) (bytes : ℕ) : Type 0 where
  pub each : All IsHeldWrite writes
  pub count : bytes ≡ length (bytes_held writes)
  pub room : bytes ≤ held_room

-- the oldest write and those behind it, in order
abbrev pub writes_of : Option HeldWrite → List HeldWrite → List HeldWrite
writes_of None later = later
writes_of (Some oldest) later = oldest ∷ later

-- none is behind where there is none
abbrev pub IsLater : Option HeldWrite → List HeldWrite → Type 0
IsLater None later = later ≡ []
IsLater (Some oldest) later = ⊤
