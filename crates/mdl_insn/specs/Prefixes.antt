-- The prefixes, and what they and the mode give. Manual, chapter 17.
use Rattle.std.specs.Prelude.{ℕ, ◌==◌, Bool, not, ◌||◌, if◌then◌else◌, List, [], ◌∷◌, unwrap_or, is_some, Option, Some, None}
use Rattle.std.specs.List.{list_any}
use Rattle.mdl_state.specs.declared.Size.TheVariants.{B2, B4}
use Rattle.mdl_state.specs.declared.Seg.{Seg}
use Rattle.mdl_state.specs.declared.Seg.TheVariants.{Es, Cs, Ss, Ds, Fs, Gs}
use Rattle.mdl_insn.specs.declared.instruction.Rep.{Rep}
use Rattle.mdl_insn.specs.declared.instruction.Rep.TheVariants.{Plain, Equal, NotEqual}
use Rattle.mdl_insn.specs.declared.rows.Setting.{Setting}

-- the segment that a prefix names
abbrev pub segment_prefix : ℕ → Option Seg
segment_prefix b =
    if b == 0x26 then Some Es
    else (if b == 0x2E then Some Cs
    else (if b == 0x36 then Some Ss
    else (if b == 0x3E then Some Ds
    else (if b == 0x64 then Some Fs
    else (if b == 0x65 then Some Gs else None)))))

-- what a repeat prefix asks for
abbrev pub repeat_prefix : ℕ → Option Rep
repeat_prefix b = if b == 0xF3 then Some Equal else (if b == 0xF2 then Some NotEqual else None)

abbrev pub operand_size_prefix : ℕ
operand_size_prefix = 0x66

abbrev pub address_size_prefix : ℕ
address_size_prefix = 0x67

abbrev pub lock_prefix : ℕ
lock_prefix = 0xF0

-- all prefixes
abbrev pub is_prefix : ℕ → Bool
is_prefix b = is_some (segment_prefix b) || is_some (repeat_prefix b) || (b == operand_size_prefix) || (b == address_size_prefix) || (b == lock_prefix)

-- Own: The last prefix of a kind counts. They may stand in any order and number.
abbrev pub last_of : {A : Type 0} → (ℕ → Option A) → List ℕ → Option A
last_of f [] = None
last_of f (b ∷ bs) = if is_some (last_of f bs) then last_of f bs else f b

-- the prefix stands somewhere
abbrev pub has : ℕ → List ℕ → Bool
has b bs = list_any (λ x. x == b) bs

-- the sizes are those of the mode, or the other ones where a prefix says so; big is a default of 32 bits
abbrev pub setting : Bool → List ℕ → Setting
setting big ps = record {
  size = if has operand_size_prefix ps then (if big then B2 else B4) else (if big then B4 else B2);
  wide = if has address_size_prefix ps then not big else big;
  over = last_of segment_prefix ps;
  lock = has lock_prefix ps;
  rep = unwrap_or (last_of repeat_prefix ps) Plain;
}
