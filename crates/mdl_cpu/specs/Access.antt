-- Which accesses a segment allows, and at which linear address. Manual, chapters 5, 6 and 14.
-- Own: Offsets are whole numbers.
use Rattle.std.specs.Prelude.{ℕ, zero, suc, ◌+◌, ◌-◌, ◌%◌, ◌^◌, ◌&&◌, not, nat_le, nat_lt, Bool, true, false, if◌then◌else◌, Result, Ok, Err}
use Rattle.mdl_state.specs.declared.Size.{Size}
use Rattle.mdl_state.specs.declared.Seg.{Seg}
use Rattle.mdl_state.specs.declared.Seg.TheVariants.{Ss}
use Rattle.mdl_state.specs.declared.Regs.{Regs}
use Rattle.mdl_state.specs.declared.Hidden.{Hidden}
use Rattle.mdl_state.specs.declared.Fault.{Fault}
use Rattle.mdl_state.specs.Bytes.{bytes_of}
use Rattle.mdl_state.specs.Registers.{seg_of}
use Rattle.mdl_state.specs.Attempt.{Plan, Done, Load, Store, checked}
use Rattle.mdl_cpu.specs.Segments.{is_protected, who_of, is_unusable, is_writable, is_readable, grows_down, is_big}

-- the highest offset of a segment that grows down
abbrev pub top_of : Hidden → ℕ
top_of h = if is_big h then 2 ^ 32 - 1 else 2 ^ 16 - 1

-- the offset of a byte lies within the segment; the direction counts in protected mode alone
abbrev pub is_inside : Bool → Hidden → ℕ → Bool
is_inside protected h offset =
    if protected && grows_down h then nat_lt h.limit offset && nat_le offset (top_of h)
    else nat_le offset h.limit

-- each of so many bytes from an offset on lies within; no offset wraps
abbrev pub all_inside : Bool → Hidden → ℕ → ℕ → Bool
all_inside protected h offset zero = true
all_inside protected h offset (suc count) = is_inside protected h offset && all_inside protected h (offset + 1) count

-- the segment can be used so: every one outside protected mode
abbrev pub is_allowed : Bool → Hidden → Bool → Bool
is_allowed protected h write =
    if protected then not (is_unusable h) && (if write then is_writable h else is_readable h) else true

-- a stack fault in SS, and else a general protection fault
abbrev pub segment_fault : Seg → Fault
segment_fault Ss = record { vector = 12; code = 0; addr = 0 }
segment_fault _ = record { vector = 13; code = 0; addr = 0 }

abbrev pub linear_of : Hidden → ℕ → ℕ
linear_of h offset = (h.base + offset) % 2 ^ 32

abbrev pub checked_in : Bool → Hidden → Seg → ℕ → Size → Bool → Result ℕ Fault
checked_in protected h seg offset size write =
    if is_allowed protected h write && all_inside protected h offset (bytes_of size) then Ok (linear_of h offset) else Err (segment_fault seg)

-- the linear address of an access, or its fault
unfoldable pub legal : Regs → Seg → ℕ → Size → Bool → Result ℕ Fault
legal r seg offset size write = checked_in (is_protected r) (seg_of r seg) seg offset size write

-- a number read from a segment
abbrev pub load_from : Regs → Seg → ℕ → Size → Plan ℕ
load_from r seg offset size = checked (legal r seg offset size false) (λ at. Load at size (who_of r) (λ value. Done value))

-- a number written to a segment
abbrev pub store_to : Regs → Seg → ℕ → Size → ℕ → Plan (Unit {0})
store_to r seg offset size value = checked (legal r seg offset size true) (λ at. Store at size value (who_of r) (Done tt))
