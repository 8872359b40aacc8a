-- Selectors and descriptors. Manual, chapters 5 and 6.
-- Own: Rights are those that were read. Own: Accesses to descriptors.
use Rattle.std.specs.Prelude.{ℕ, ◌+◌, ◌-◌, ◌*◌, ◌/◌, ◌%◌, ◌^◌, ◌==◌, ◌&&◌, ◌||◌, not, nat_lt, Bool, if◌then◌else◌, [], ◌∷◌, max}
use Rattle.mdl_state.specs.declared.Size.TheVariants.{B1, B4}
use Rattle.mdl_state.specs.declared.Who.TheVariants.{Tables}
use Rattle.mdl_state.specs.declared.Access.TheVariants.{Write}
use Rattle.mdl_state.specs.declared.Regs.{Regs}
use Rattle.mdl_state.specs.Bytes.{bit}
use Rattle.mdl_state.specs.Attempt.{Plan, Done, Load, Translate, Get, Hold, checked}
use Rattle.mdl_cpu.specs.declared.Desc.{Desc}
use Rattle.mdl_cpu.specs.Faults.{row, first_of, fault_at}
use Rattle.mdl_cpu.specs.Segments.{is_unusable}

-- ---- selectors

-- index 0 of the global table, with whatever RPL
abbrev pub is_null : ℕ → Bool
is_null sel = nat_lt sel 4

-- the requested privilege level
abbrev pub rpl : ℕ → ℕ
rpl sel = sel % 4

-- the selector with this RPL
abbrev pub with_rpl : ℕ → ℕ → ℕ
with_rpl sel level = sel - rpl sel + level

-- the table indicator: the local table, and not the global one
abbrev pub in_ldt : ℕ → Bool
in_ldt sel = bit sel 2

-- how far from the start of its table the descriptor begins
abbrev pub table_offset : ℕ → ℕ
table_offset sel = sel - sel % 8

-- the last byte of the descriptor lies past the limit of its table, or there is no local table
unfoldable pub is_outside : Regs → ℕ → Bool
is_outside r sel =
    if in_ldt sel then is_unusable r.ldtr || nat_lt r.ldtr.limit (table_offset sel + 7)
    else nat_lt r.gdt_limit (table_offset sel + 7)

-- the linear address of the descriptor
unfoldable pub place_of : Regs → ℕ → ℕ
place_of r sel = ((if in_ldt sel then r.ldtr.base else r.gdt_base) + table_offset sel) % 2 ^ 32

-- ---- descriptors

-- the limit as it stands in the descriptor: bits 0 to 15 of the low doubleword, bits 16 to 19 of the high one
abbrev pub raw_limit : ℕ → ℕ → ℕ
raw_limit low high = low % 2 ^ 16 + 2 ^ 16 * (high / 2 ^ 16 % 2 ^ 4)

-- the highest offset in bytes: with G, bit 23 of the high doubleword, the limit counts pages, and the last one counts whole
abbrev pub limit_of : ℕ → ℕ → ℕ
limit_of low high = if bit high 23 then raw_limit low high * 0x1000 + 0xFFF else raw_limit low high

-- the base: bits 16 to 31 of the low doubleword, bits 0 to 7 and 24 to 31 of the high one
abbrev pub base_of : ℕ → ℕ → ℕ
base_of low high = low / 2 ^ 16 + 2 ^ 16 * (high % 2 ^ 8) + 2 ^ 24 * (high / 2 ^ 24)

-- the rights: the access byte, bits 8 to 15 of the high doubleword, and D or B and G, bits 22 and 23, at bits 14 and 15
abbrev pub rights_of : ℕ → ℕ
rights_of high = high / 2 ^ 8 % 2 ^ 8 + 2 ^ 14 * (high / 2 ^ 22 % 4)

-- the descriptor at a linear address that two doublewords are
unfoldable pub unpack : ℕ → ℕ → ℕ → Desc
unpack at low high = record { low = low; high = high; at = at; base = base_of low high; limit = limit_of low high; rights = rights_of high }

-- P: the segment is in memory
abbrev pub is_present : Desc → Bool
is_present d = bit d.rights 7

-- the descriptor's privilege level
abbrev pub dpl : Desc → ℕ
dpl d = d.rights / 2 ^ 5 % 4

-- S: a segment of code or data, and not a descriptor of the system
abbrev pub is_segment : Desc → Bool
is_segment d = bit d.rights 4

-- code, by bit 3 of the type
abbrev pub is_code : Desc → Bool
is_code d = is_segment d && bit d.rights 3

-- code that runs at the level of who comes to it, by bit 2
abbrev pub is_conforming : Desc → Bool
is_conforming d = is_code d && bit d.rights 2

-- code that may be read as data, by bit 1
abbrev pub is_readable_code : Desc → Bool
is_readable_code d = is_code d && bit d.rights 1

-- data, and data that may be written, by bit 1
abbrev pub is_data : Desc → Bool
is_data d = is_segment d && not (bit d.rights 3)

abbrev pub is_writable_data : Desc → Bool
is_writable_data d = is_data d && bit d.rights 1

-- the type of a descriptor of the system; a segment has 0, which is no type of those
abbrev pub system_type : Desc → ℕ
system_type d = if is_segment d then 0 else d.rights % 2 ^ 4

-- a local descriptor table
abbrev pub is_ldt : Desc → Bool
is_ldt d = system_type d == 2

-- a TSS that is not busy, of the 80286 or of the 80386
abbrev pub is_available_tss : Desc → Bool
is_available_tss d = system_type d == 1 || system_type d == 9

-- DPL is below the greater of CPL and RPL; what is conforming code is never beyond
abbrev pub is_beyond : ℕ → ℕ → Desc → Bool
is_beyond cpl sel d = not (is_conforming d) && nat_lt (dpl d) (max cpl (rpl sel))

-- ---- accesses to descriptors

-- the descriptor at a linear address, the low doubleword read first
unfoldable pub descriptor_at : ℕ → Plan Desc
descriptor_at at = Load at B4 Tables (λ low. Load ((at + 4) % 2 ^ 32) B4 Tables (λ high. Done (unpack at low high)))

-- the descriptor of a selector that is not null; outside its table it is a fault of this vector
unfoldable pub descriptor_plan : Regs → ℕ → ℕ → Plan Desc
descriptor_plan r sel wrong = checked (first_of (row (is_outside r sel) (fault_at wrong sel) ∷ [])) (λ _. descriptor_at (place_of r sel))

-- a byte with a bit set
abbrev pub with_set : ℕ → ℕ → ℕ
with_set byte n = if bit byte n then byte else byte + 2 ^ n

-- a bit of the access byte is set in memory, by one access for writing
unfoldable pub mark_plan : Desc → ℕ → Plan (Unit {0})
mark_plan d n = Translate ((d.at + 5) % 2 ^ 32) B1 (Write Tables) (λ place. Get place B1 (λ byte. Hold place B1 (with_set byte n) (Done tt)))

-- a segment is accessed: bit 0 is set where it was read as 0
unfoldable pub accessed_plan : Desc → Plan (Unit {0})
accessed_plan d = if bit d.rights 0 then Done tt else mark_plan d 0

-- a TSS is busy: bit 1 is set
abbrev pub busy_plan : Desc → Plan (Unit {0})
busy_plan d = mark_plan d 1
