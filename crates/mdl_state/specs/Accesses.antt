-- Accesses of the processor to memory, by linear address; writes are held until they are committed.
-- Own: Writes of an instruction are held.
use Rattle.std.specs.Prelude.{◌≡◌, ◌≤◌, ℕ, ◌+◌, ◌-◌, ◌*◌, ◌/◌, ◌%◌, ◌^◌, ◌==◌, not, nat_lt, Bool, if◌then◌else◌, List, [], ◌∷◌, ◌++◌, length, min}
use Rattle.mdl_state.specs.declared.Size.{Size}
use Rattle.mdl_state.specs.declared.Size.TheVariants.{B1, B2, B4}
use Rattle.mdl_state.specs.declared.Who.{Who}
use Rattle.mdl_state.specs.declared.Access.{Access}
use Rattle.mdl_state.specs.declared.Access.TheVariants.{Read, Write}
use Rattle.mdl_state.specs.declared.Entry.{Entry}
use Rattle.mdl_state.specs.declared.Place.{Place}
use Rattle.mdl_state.specs.State.{Physical, Mem}
use Rattle.mdl_state.specs.Bytes.{bytes_of}
use Rattle.mdl_state.specs.Memory.{gated, byte_at, placed}
use Rattle.mdl_state.specs.Watches.{noted}
use Rattle.mdl_state.specs.Serving.{Outcome, Passed, Serve, on}

-- ---- where an access lies

-- how many bytes of an access lie on its first page
abbrev pub bytes_here : ℕ → Size → ℕ
bytes_here lin size = min (bytes_of size) (0x1000 - lin % 0x1000)

-- the physical address of a linear one, by the entry of its page
abbrev pub in_frame : Entry → ℕ → ℕ
in_frame entry lin = entry.frame + lin % 0x1000

-- The place of an access, with each page that it touches served, the lower one first, and the breakpoints
-- noted that it meets. With paging off the linear address is the physical one.
unfoldable pub translated : Serve → Mem → ℕ → Size → Access → Outcome Place × Mem
translated serve m lin size access =
    let cut = bytes_here lin size in
    let next = (lin + cut) % 2 ^ 32 in
    if not m.paging then (Passed (record { first = lin; second = next; cut = cut }), noted m lin size access)
    else on (serve m lin access) (λ one n.
    if cut == bytes_of size then (Passed (record { first = in_frame one lin; second = 0; cut = cut }), noted n lin size access)
    else on (serve n next access) (λ two o. (Passed (record { first = in_frame one lin; second = in_frame two next; cut = cut }), noted o lin size access)))

-- the physical address of byte n of a place
abbrev pub byte_place : Place → ℕ → ℕ
byte_place place n = if nat_lt n place.cut then place.first + n else place.second + (n - place.cut)

-- ---- what is seen there

-- the last byte held for an address that leaves the processor, or else this one
abbrev pub newest : Bool → List (ℕ × ℕ) → ℕ → ℕ → ℕ
newest a20 [] at here = here
newest a20 (held ∷ more) at here = newest a20 more at (if gated a20 held.0 == at then held.1 else here)

-- the byte at a physical address, under the held bytes. Own: Held writes are seen by address.
unfoldable pub seen_byte : Physical → List (ℕ × ℕ) → ℕ → ℕ
seen_byte physical held at = newest physical.a20 held (gated physical.a20 at) (byte_at physical at)

abbrev pub seen_at : Physical → List (ℕ × ℕ) → Place → ℕ → ℕ
seen_at physical held place n = seen_byte physical held (byte_place place n)

-- the number of a size at a place, under the held bytes
unfoldable pub got_from : Physical → List (ℕ × ℕ) → Place → Size → ℕ
got_from physical held place B1 = seen_at physical held place 0
got_from physical held place B2 = seen_at physical held place 0 + 0x100 * seen_at physical held place 1
got_from physical held place B4 = seen_at physical held place 0 + 0x100 * seen_at physical held place 1
    + 0x10000 * seen_at physical held place 2 + 0x1000000 * seen_at physical held place 3

abbrev pub got : Mem → Place → Size → ℕ
got m place size = got_from m.physical m.held place size

-- ---- held writes

-- the bytes of a number at a place, the lowest address first
unfoldable pub held_bytes : Place → Size → ℕ → List (ℕ × ℕ)
held_bytes place B1 value = (byte_place place 0, value % 0x100) ∷ []
held_bytes place B2 value = (byte_place place 0, value % 0x100) ∷ (byte_place place 1, value / 0x100 % 0x100) ∷ []
held_bytes place B4 value = (byte_place place 0, value % 0x100) ∷ (byte_place place 1, value / 0x100 % 0x100)
    ∷ (byte_place place 2, value / 0x10000 % 0x100) ∷ (byte_place place 3, value / 0x1000000 % 0x100) ∷ []

-- a number held at a place
abbrev pub held_at : Mem → Place → Size → ℕ → Mem
held_at m place size value = record m { held = m.held ++ held_bytes place size value }

-- bytes placed one after the other
abbrev pub all_placed : Physical → List (ℕ × ℕ) → Physical
all_placed physical [] = physical
all_placed physical (held ∷ more) = all_placed (placed physical held.0 held.1) more

-- the held bytes placed in the order in which they were held
unfoldable pub committed : Mem → Mem
committed m = record m { physical = all_placed m.physical m.held; held = [] }

-- the held bytes dropped
unfoldable pub discarded : Mem → Mem
discarded m = record m { held = [] }

-- ---- accesses

-- a read: a translation, and what is seen there
unfoldable pub read_at : Serve → Mem → ℕ → Size → Who → Outcome ℕ × Mem
read_at serve m lin size who = on (translated serve m lin size (Read who)) (λ place n. (Passed (got n place size), n))

-- a write: a translation, and the number held there
unfoldable pub written_at : Serve → Mem → ℕ → Size → ℕ → Who → Outcome (Unit {0}) × Mem
written_at serve m lin size value who = on (translated serve m lin size (Write who)) (λ place n. (Passed tt, held_at n place size value))

-- the setting of the line A20
abbrev pub with_a20 : Bool → Mem → Mem
with_a20 on m = record m { physical = record m.physical { a20 = on } }

-- ---- facts on accesses

-- no access changes these of physical memory
pub record KeepsPhysical (old new : Physical) : Type 0 where
  pub a20 : new.a20 ≡ old.a20
  pub rom : new.rom ≡ old.rom
  pub ram : length new.ram ≡ length old.ram

-- no access changes these
pub record Keeps (old new : Mem) : Type 0 where
  pub paging : new.paging ≡ old.paging
  pub cr3 : new.cr3 ≡ old.cr3
  pub physical : KeepsPhysical old.physical new.physical

-- a place as a translation answers it for this size: each of its two pieces lies in one page
pub record IsPlace (place : Place) (size : Size) : Type 0 where
  pub some : 1 ≤ place.cut
  pub within : place.cut ≤ bytes_of size
  pub first : place.first % 0x1000 + place.cut ≤ 0x1000
  pub second : place.second % 0x1000 + bytes_of size ≤ 0x1000 + place.cut

-- how many bytes an instruction may hold
abbrev pub held_room : ℕ
held_room = 256

-- there is room for so many more held bytes
abbrev pub HasRoom : Mem → ℕ → Type 0
HasRoom m bytes = length m.held + bytes ≤ held_room
