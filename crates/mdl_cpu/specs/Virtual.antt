-- V86 and ports: the instructions that a monitor watches, and the permission bitmap. Manual, chapters 8 and 15.
-- Own: The permission bitmap is read as a word.
use Rattle.std.specs.Prelude.{ℕ, ◌+◌, ◌/◌, ◌%◌, ◌^◌, ◌==◌, ◌&&◌, ◌||◌, not, nat_lt, Bool, if◌then◌else◌, List, [], ◌∷◌}
use Rattle.mdl_state.specs.declared.Size.{Size}
use Rattle.mdl_state.specs.declared.Size.TheVariants.{B2}
use Rattle.mdl_state.specs.declared.Who.TheVariants.{Tables}
use Rattle.mdl_state.specs.declared.Regs.{Regs}
use Rattle.mdl_state.specs.Bytes.{bytes_of}
use Rattle.mdl_state.specs.Attempt.{Plan, Done, Load, checked}
use Rattle.mdl_cpu.specs.Segments.{has_protection, is_virtual}
use Rattle.mdl_cpu.specs.Faults.{Row, row, first_of, general_protection}
use Rattle.mdl_cpu.specs.SystemFlags.{io_level}
use Rattle.mdl_cpu.specs.Visibility.{iopl_allows}
use Rattle.mdl_cpu.specs.TaskSegments.{has_wide_tss}

-- ---- sensitive instructions

-- CLI, STI, PUSHF, POPF, INT n and IRET in V86 need an IOPL of 3; INT 3 and INTO do not
abbrev pub sensitive_rows : Regs → List Row
sensitive_rows r = row (is_virtual r && nat_lt (io_level r) 3) (general_protection 0) ∷ []

-- ---- ports

-- IN, OUT, INS and OUTS ask the bitmap: always in V86, and in protected mode where CPL is above IOPL
abbrev pub asks_bitmap : Regs → Bool
asks_bitmap r = has_protection r && (is_virtual r || not (iopl_allows r))

-- where the bitmap lies is read from a TSS of the 80386 alone
abbrev pub bitmap_rows : Regs → List Row
bitmap_rows r = row (not (has_wide_tss r)) (general_protection 0) ∷ []

-- the second of the two bytes that have the bits of a port lies past the limit of the TSS; `base` is where the bitmap begins in it
abbrev pub reach_rows : Regs → ℕ → ℕ → List Row
reach_rows r base port = row (nat_lt r.tr.limit (base + port / 8 + 1)) (general_protection 0) ∷ []

-- a bit of one of the ports of the access is 1
abbrev pub permission_rows : ℕ → Size → ℕ → List Row
permission_rows port size bits = row (not (bits / 2 ^ (port % 8) % 2 ^ bytes_of size == 0)) (general_protection 0) ∷ []

-- the access to a port is permitted, or its fault
unfoldable pub port_plan : Regs → ℕ → Size → Plan (Unit {0})
port_plan r port size =
    if not (asks_bitmap r) then Done tt
    else checked (first_of (bitmap_rows r)) (λ _.
    Load ((r.tr.base + 0x66) % 2 ^ 32) B2 Tables (λ base.
    checked (first_of (reach_rows r base port)) (λ _.
    Load ((r.tr.base + (base + port / 8)) % 2 ^ 32) B2 Tables (λ bits.
    checked (first_of (permission_rows port size bits)) (λ _.
    Done tt)))))
