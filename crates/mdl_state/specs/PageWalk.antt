-- The walk of the page tables. Manual, chapter 5.
use Rattle.std.specs.Prelude.{ℕ, ◌+◌, ◌-◌, ◌*◌, ◌/◌, ◌%◌, ◌^◌, ◌||◌, ◌&&◌, not, Bool, true, false, cond, if◌then◌else◌, Result, Ok, Err}
use Rattle.mdl_state.specs.declared.Who.TheVariants.{User}
use Rattle.mdl_state.specs.declared.Access.{Access}
use Rattle.mdl_state.specs.declared.Access.TheVariants.{Read, Write}
use Rattle.mdl_state.specs.declared.Fault.{Fault}
use Rattle.mdl_state.specs.declared.Entry.{Entry}
use Rattle.mdl_state.specs.State.{Physical}
use Rattle.mdl_state.specs.Bytes.{bit}
use Rattle.mdl_state.specs.Memory.{byte_at, placed}

-- a number without its bits below the twelfth
abbrev pub frame_of : ℕ → ℕ
frame_of n = n - n % 0x1000

-- the four bytes of an entry, as they stand
unfoldable pub entry_word : Physical → ℕ → ℕ
entry_word physical at = byte_at physical at + 0x100 * byte_at physical (at + 1)
    + 0x10000 * byte_at physical (at + 2) + 0x1000000 * byte_at physical (at + 3)

-- bits 0, 1 and 2 of an entry: present, writable, for every level
abbrev pub is_present : ℕ → Bool
is_present entry = bit entry 0

abbrev pub is_writable : ℕ → Bool
is_writable entry = bit entry 1

abbrev pub is_for_users : ℕ → Bool
is_for_users entry = bit entry 2

-- bit 6: written
abbrev pub is_dirty : ℕ → Bool
is_dirty entry = bit entry 6

abbrev pub is_write : Access → Bool
is_write (Read who) = false
is_write (Write who) = true

-- whether entries with these rights permit an access; a supervisor reads and writes every page
abbrev pub permits : Bool → Bool → Access → Bool
permits user write (Read User) = user
permits user write (Write User) = user && write
permits user write _ = true

-- a page fault; bit 0 of its code says that both entries were present, bit 1 a write, bit 2 a user
abbrev pub page_fault : ℕ → Bool → Access → Fault
page_fault lin present (Read User) = record { vector = 14; code = cond present 5 4; addr = lin }
page_fault lin present (Write User) = record { vector = 14; code = cond present 7 6; addr = lin }
page_fault lin present (Read _) = record { vector = 14; code = cond present 1 0; addr = lin }
page_fault lin present (Write _) = record { vector = 14; code = cond present 3 2; addr = lin }

-- an entry's low byte with bit 5 set, accessed, and where it is written bit 6 too
abbrev pub touched : ℕ → Bool → ℕ
touched byte written =
    let accessed = cond (bit byte 5) byte (byte + 0x20) in
    cond written (cond (bit accessed 6) accessed (accessed + 0x40)) accessed

unfoldable pub marked : Physical → ℕ → Bool → Physical
marked physical at written = placed physical at (touched (byte_at physical at) written)

-- both entries accessed, and the second written by a write
unfoldable pub both_marked : Physical → ℕ → ℕ → Access → Physical
both_marked physical first second access = marked (marked physical first false) second (is_write access)

-- what two entries say together of the page
abbrev pub page_entry : ℕ → ℕ → Access → Entry
page_entry one two access = record {
  frame = frame_of two;
  user = is_for_users one && is_for_users two;
  write = is_writable one && is_writable two;
  dirty = is_dirty two || is_write access;
}

-- The walk for an access to a linear address, by the tables as they stand: the entry of the page, with
-- the memory that has its marks, or the fault, which marks nothing. Presence comes before rights.
unfoldable pub walk : Physical → ℕ → ℕ → Access → Result Entry Fault × Physical
walk physical cr3 lin access =
    let first = frame_of cr3 + 4 * (lin / 2 ^ 22) in
    let one = entry_word physical first in
    let second = frame_of one + 4 * (lin / 2 ^ 12 % 2 ^ 10) in
    let two = entry_word physical second in
    if not (is_present one && is_present two) then (Err (page_fault lin false access), physical)
    else if not (permits (is_for_users one && is_for_users two) (is_writable one && is_writable two) access) then (Err (page_fault lin true access), physical)
    else (Ok (page_entry one two access), both_marked physical first second access)
