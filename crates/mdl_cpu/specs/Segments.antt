-- The modes, and what the rights of a segment say. Manual, chapters 5, 6, 14 and 15.
use Rattle.std.specs.Prelude.{◌==◌, ◌&&◌, not, Bool, true, if◌then◌else◌}
use Rattle.mdl_state.specs.declared.Regs.{Regs}
use Rattle.mdl_state.specs.declared.Hidden.{Hidden}
use Rattle.mdl_state.specs.declared.Who.{Who}
use Rattle.mdl_state.specs.declared.Who.TheVariants.{User, Supervisor}
use Rattle.mdl_state.specs.Bytes.{bit}

-- PE of CR0
abbrev pub has_protection : Regs → Bool
has_protection r = bit r.cr0 0

-- VM of EFLAGS
abbrev pub is_virtual : Regs → Bool
is_virtual r = bit r.eflags 17

-- protected mode, and not V86: only there the rights of a segment count
abbrev pub is_protected : Regs → Bool
is_protected r = has_protection r && not (is_virtual r)

-- for whom an instruction's own accesses are made
abbrev pub who_of : Regs → Who
who_of r = if r.cpl == 3 then User else Supervisor

-- ---- the access byte of a segment, in the low bits of its rights

-- nothing was loaded that can be used
abbrev pub is_unusable : Hidden → Bool
is_unusable h = h.rights == 0

-- bit 3: code
abbrev pub is_code : Hidden → Bool
is_code h = bit h.rights 3

-- bit 1: data that can be written, or code that can be read
abbrev pub is_writable : Hidden → Bool
is_writable h = not (is_code h) && bit h.rights 1

abbrev pub is_readable : Hidden → Bool
is_readable h = if is_code h then bit h.rights 1 else true

-- bit 2 of data: the offsets are those above the limit
abbrev pub grows_down : Hidden → Bool
grows_down h = not (is_code h) && bit h.rights 2

-- D or B, bit 6 of the descriptor's byte 6: 32 bits
abbrev pub is_big : Hidden → Bool
is_big h = bit h.rights 14
