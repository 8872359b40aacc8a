-- What a program may see of a segment, and of what privilege it is. Manual, chapters 6, 8 and 17, under ARPL, LAR, LSL,
-- VERR and VERW. Own: What LAR and LSL know of the system.
use Rattle.std.specs.Prelude.{ℕ, ◌+◌, ◌-◌, ◌%◌, ◌==◌, ◌&&◌, ◌||◌, not, nat_lt, nat_le, Bool, true, false, if◌then◌else◌, List, [], ◌∷◌, Option, Some, None, bit_and}
use Rattle.mdl_state.specs.declared.Size.{Size}
use Rattle.mdl_state.specs.declared.Size.TheVariants.{B4}
use Rattle.mdl_state.specs.declared.Regs.{Regs}
use Rattle.mdl_state.specs.Bytes.{bound_of}
use Rattle.mdl_state.specs.Attempt.{Plan, Done, then_plan}
use Rattle.mdl_cpu.specs.declared.Desc.{Desc}
use Rattle.mdl_cpu.specs.SystemFlags.{io_level}
use Rattle.mdl_cpu.specs.Descriptors.{is_null, rpl, is_outside, place_of, is_segment, is_data, is_readable_code, is_writable_data, system_type, is_beyond, descriptor_at}

-- ---- LAR, LSL, VERR and VERW

-- one of these numbers
abbrev pub is_one_of : List ℕ → ℕ → Bool
is_one_of [] n = false
is_one_of (m ∷ ms) n = m == n || is_one_of ms n

-- for LAR each segment is good, and of the system each TSS, the LDT, the call gates and the task gate
abbrev pub has_rights : Desc → Bool
has_rights d = is_segment d || is_one_of (1 ∷ 2 ∷ 3 ∷ 4 ∷ 5 ∷ 9 ∷ 0xB ∷ 0xC ∷ []) (system_type d)

-- for LSL each segment is good, and of the system what has a limit: each TSS and the LDT
abbrev pub has_limit : Desc → Bool
has_limit d = is_segment d || is_one_of (1 ∷ 2 ∷ 3 ∷ 9 ∷ 0xB ∷ []) (system_type d)

-- for VERR data and code that may be read, and for VERW data that may be written
abbrev pub can_be_read : Desc → Bool
can_be_read d = is_data d || is_readable_code d

abbrev pub can_be_written : Desc → Bool
can_be_written d = is_writable_data d

-- the descriptor, where it is good for the purpose and not beyond; whether it is present does not count
abbrev pub if_visible : (Desc → Bool) → ℕ → ℕ → Desc → Option Desc
if_visible is_good cpl sel d = if is_good d && not (is_beyond cpl sel d) then Some d else None

-- the descriptor of a selector, or none where it is null, outside its table, of a wrong type or beyond
unfoldable pub visible_plan : (Desc → Bool) → Regs → ℕ → Plan (Option Desc)
visible_plan is_good r sel =
    if is_null sel || is_outside r sel then Done None
    else then_plan (descriptor_at (place_of r sel)) (λ d. Done (if_visible is_good r.cpl sel d))

-- a number of the descriptor, or none
abbrev pub shown : (Desc → ℕ) → Option Desc → Option ℕ
shown number None = None
shown number (Some d) = Some (number d)

abbrev pub is_shown : Option Desc → Bool
is_shown None = false
is_shown (Some d) = true

-- the high doubleword, of which only the access byte and the bits G to AVL are shown, and of 16 bits the access byte alone
abbrev pub access_rights : Size → Desc → ℕ
access_rights B4 d = bit_and d.high 0x00F0FF00
access_rights _ d = bit_and d.high 0xFF00

-- the limit in bytes, cut to the operand size
abbrev pub segment_limit : Size → Desc → ℕ
segment_limit size d = d.limit % bound_of size

-- None and false stand for ZF 0
unfoldable pub lar : Regs → ℕ → Size → Plan (Option ℕ)
lar r sel size = then_plan (visible_plan has_rights r sel) (λ d. Done (shown (access_rights size) d))

unfoldable pub lsl : Regs → ℕ → Size → Plan (Option ℕ)
lsl r sel size = then_plan (visible_plan has_limit r sel) (λ d. Done (shown (segment_limit size) d))

unfoldable pub verr : Regs → ℕ → Plan Bool
verr r sel = then_plan (visible_plan can_be_read r sel) (λ d. Done (is_shown d))

unfoldable pub verw : Regs → ℕ → Plan Bool
verw r sel = then_plan (visible_plan can_be_written r sel) (λ d. Done (is_shown d))

-- ---- ARPL, and IOPL

-- the selector with the RPL of another, where its own is below that; None stands for ZF 0
abbrev pub arpl : ℕ → ℕ → Option ℕ
arpl dest source = if nat_lt (rpl dest) (rpl source) then Some (dest - rpl dest + rpl source) else None

-- CPL is at most IOPL
abbrev pub iopl_allows : Regs → Bool
iopl_allows r = nat_le r.cpl (io_level r)
