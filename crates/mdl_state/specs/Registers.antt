-- Registers by number. Manual, chapter 2.
use Rattle.std.specs.Prelude.{ℕ, ◌+◌, ◌-◌, ◌*◌, ◌/◌, ◌%◌, ◌==◌, nat_lt, if◌then◌else◌, List, [], ◌∷◌, slice_index, slice_set}
use Rattle.mdl_state.specs.declared.Regs.{Regs}
use Rattle.mdl_state.specs.declared.Hidden.{Hidden}
use Rattle.mdl_state.specs.declared.Size.{Size}
use Rattle.mdl_state.specs.declared.Size.TheVariants.{B1, B2, B4}
use Rattle.mdl_state.specs.declared.Seg.{Seg}
use Rattle.mdl_state.specs.declared.Seg.TheVariants.{Es, Cs, Ss, Ds, Fs, Gs}
use Rattle.mdl_state.specs.Boot.{unusable}

-- the place of a segment register in the list of them
abbrev pub seg_number : Seg → ℕ
seg_number Es = 0
seg_number Cs = 1
seg_number Ss = 2
seg_number Ds = 3
seg_number Fs = 4
seg_number Gs = 5

abbrev pub hidden_at : List Hidden → ℕ → Hidden
hidden_at [] n = unusable
hidden_at (h ∷ hs) n = if n == 0 then h else hidden_at hs (n - 1)

-- a segment register
unfoldable pub seg_of : Regs → Seg → Hidden
seg_of r seg = hidden_at r.seg (seg_number seg)

-- a number with its lowest byte, its second byte, or its low word replaced
abbrev pub with_low : ℕ → ℕ → ℕ
with_low n byte = n - n % 0x100 + byte

abbrev pub with_high : ℕ → ℕ → ℕ
with_high n byte = n - n % 0x10000 + 0x100 * byte + n % 0x100

abbrev pub with_low_word : ℕ → ℕ → ℕ
with_low_word n word = n - n % 0x10000 + word

-- A general register's number: of one byte AL, CL, DL, BL and then AH, CH, DH, BH, of two and four
-- bytes the low part of EAX, ECX, EDX, EBX, ESP, EBP, ESI, EDI.
unfoldable pub reg_of : Regs → ℕ → Size → ℕ
reg_of r n B1 = if nat_lt n 4 then slice_index r.gpr n % 0x100 else slice_index r.gpr (n - 4) / 0x100 % 0x100
reg_of r n B2 = slice_index r.gpr n % 0x10000
reg_of r n B4 = slice_index r.gpr n

-- a general register set; what it does not name of its doubleword stays
unfoldable pub with_reg : Regs → ℕ → Size → ℕ → Regs
with_reg r n B1 value =
    if nat_lt n 4 then record r { gpr = slice_set r.gpr n (with_low (slice_index r.gpr n) value) }
    else record r { gpr = slice_set r.gpr (n - 4) (with_high (slice_index r.gpr (n - 4)) value) }
with_reg r n B2 value = record r { gpr = slice_set r.gpr n (with_low_word (slice_index r.gpr n) value) }
with_reg r n B4 value = record r { gpr = slice_set r.gpr n value }

-- a segment register set
unfoldable pub with_seg : Regs → Seg → Hidden → Regs
with_seg r seg hidden = record r { seg = slice_set r.seg (seg_number seg) hidden }
