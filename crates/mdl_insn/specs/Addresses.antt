-- The ModRM byte, the SIB byte and the displacement. Manual, chapter 17.
use Rattle.std.specs.Prelude.{ℕ, ◌+◌, ◌-◌, ◌*◌, ◌/◌, ◌%◌, ◌==◌, Bool, true, false, not, ◌&&◌, ◌||◌, nat_lt, if◌then◌else◌, [], ◌∷◌, unwrap_or, Option, Some, None, slice_get}
use Rattle.mdl_state.specs.declared.Size.{Size}
use Rattle.mdl_state.specs.declared.Size.TheVariants.{B2, B4}
use Rattle.mdl_state.specs.declared.Seg.{Seg}
use Rattle.mdl_state.specs.Bytes.{bytes_of, bound_of}
use Rattle.mdl_state.specs.declared.Seg.TheVariants as segs
use Rattle.mdl_insn.specs.declared.instruction.Mem.{Mem}
use Rattle.mdl_insn.specs.declared.rows.Setting.{Setting}
use Rattle.mdl_insn.specs.declared.rows.Form.{Form}
use Rattle.mdl_insn.specs.declared.rows.Form.TheVariants.{Eb, Ev, Ew, M}
use Rattle.mdl_insn.specs.declared.rows.Row.{Row}
use Rattle.mdl_insn.specs.Entries.{by_modrm}

-- ---- numbers and sizes

-- a number below 2 * half, with its sign carried on to numbers below top
abbrev pub extend : ℕ → ℕ → ℕ → ℕ
extend half top x = if nat_lt x half then x else x + (top - 2 * half)

abbrev pub address_size : Bool → Size
address_size wide = if wide then B4 else B2

-- ---- which bytes stand behind the opcode

abbrev pub mod_of : ℕ → ℕ
mod_of m = m / 64

abbrev pub reg_of : ℕ → ℕ
reg_of m = m / 8 % 8

abbrev pub rm_of : ℕ → ℕ
rm_of m = m % 8

-- scale, index and base of the SIB byte
abbrev pub ss_of : ℕ → ℕ
ss_of sib = sib / 64

abbrev pub index_field : ℕ → ℕ
index_field sib = sib / 8 % 8

abbrev pub has_modrm : Row → Bool
has_modrm r = by_modrm r.a || by_modrm r.b || by_modrm r.c

-- an operand that may be memory by the ModRM byte
-- Own: Moves with control and debug registers ignore mod. So their general register is none.
abbrev pub may_address : Form → Bool
may_address Eb = true
may_address Ev = true
may_address Ew = true
may_address M = true
may_address _ = false

-- the row has a memory operand with this ModRM byte
abbrev pub addresses : Row → ℕ → Bool
addresses r m = nat_lt (mod_of m) 3 && (may_address r.a || may_address r.b)

abbrev pub sib_len : Setting → Row → ℕ → ℕ
sib_len s r m = if addresses r m && s.wide && (rm_of m == 4) then 1 else 0

-- the rm field, or the base field of the SIB byte in its place
abbrev pub base_field : Bool → ℕ → ℕ → ℕ
base_field wide m sib = if wide && (rm_of m == 4) then sib % 8 else rm_of m

-- the base that gives way to a displacement where mod is 0: EBP and BP
abbrev pub no_base : Bool → ℕ
no_base wide = if wide then 5 else 6

-- how many bytes of displacement a memory operand has
abbrev pub plain_disp : Bool → ℕ → ℕ → ℕ
plain_disp wide m base =
    if mod_of m == 1 then 1
    else (if mod_of m == 2 then bytes_of (address_size wide)
    else (if base == no_base wide then bytes_of (address_size wide) else 0))

abbrev pub disp_len : Setting → Row → ℕ → ℕ → ℕ
disp_len s r m sib = if addresses r m then plain_disp s.wide m (base_field s.wide m sib) else 0

-- ---- the memory operand

-- BX+SI, BX+DI, BP+SI, BP+DI, SI, DI, BP, BX
abbrev pub base_16 : ℕ → Option ℕ
base_16 rm = unwrap_or (slice_get (Some 3 ∷ Some 3 ∷ Some 5 ∷ Some 5 ∷ Some 6 ∷ Some 7 ∷ Some 5 ∷ Some 3 ∷ []) rm) None

-- SI and DI by turns
abbrev pub index_16 : ℕ → Option ℕ
index_16 rm = if nat_lt rm 4 then Some (6 + rm % 2) else None

abbrev pub base_of : Bool → ℕ → ℕ → Option ℕ
base_of wide m sib =
    if (mod_of m == 0) && (base_field wide m sib == no_base wide) then None
    else (if wide then Some (base_field wide m sib) else base_16 (rm_of m))

-- index 4 of the SIB byte is none
abbrev pub has_index : ℕ → ℕ → Bool
has_index m sib = (rm_of m == 4) && not (index_field sib == 4)

abbrev pub index_of : Bool → ℕ → ℕ → Option ℕ
index_of wide m sib =
    if wide then (if has_index m sib then Some (index_field sib) else None) else index_16 (rm_of m)

abbrev pub power : ℕ → ℕ
power n = if n == 0 then 1 else (if n == 1 then 2 else (if n == 2 then 4 else 8))

-- Own: One value for one meaning. The scale is 1 where there is no index.
abbrev pub scale_of : Bool → ℕ → ℕ → ℕ
scale_of wide m sib = if wide && has_index m sib then power (ss_of sib) else 1

-- SS where the base is BP, EBP or ESP, else DS
abbrev pub default_seg : Bool → Option ℕ → Seg
default_seg wide None = segs.Ds
default_seg wide (Some r) = if (r == 5) || (wide && (r == 4)) then segs.Ss else segs.Ds

-- a displacement of one byte is signed
abbrev pub disp_of : Bool → ℕ → ℕ → ℕ
disp_of wide m d = if mod_of m == 1 then extend 0x80 (bound_of (address_size wide)) d else d

abbrev pub mem_of : Setting → ℕ → ℕ → ℕ → Mem
mem_of s m sib d = record {
  seg = unwrap_or s.over (default_seg s.wide (base_of s.wide m sib));
  base = base_of s.wide m sib;
  index = index_of s.wide m sib;
  scale = scale_of s.wide m sib;
  disp = disp_of s.wide m d;
  wide = s.wide;
}
