-- Which bytes spell which instruction. Manual, chapter 17.
use Rattle.std.specs.Prelude.{ℕ, ◌≡◌, ◌==◌, Bool, if◌then◌else◌, List, [], ◌∷◌, ◌++◌, length, IsTrue, ◌≢◌}
use Rattle.std.specs.List.{AllByRecursion}
use Rattle.mdl_state.specs.declared.Size.{Size}
use Rattle.mdl_state.specs.declared.Size.TheVariants.{B1, B4}
use Rattle.mdl_insn.specs.declared.instruction.Insn.{Insn}
use Rattle.mdl_insn.specs.declared.instruction.Rep.{Rep}
use Rattle.mdl_insn.specs.declared.instruction.Rep.TheVariants.{Plain}
use Rattle.mdl_insn.specs.declared.mnemonics.Op.{Op}
use Rattle.mdl_insn.specs.declared.rows.Setting.{Setting}
use Rattle.mdl_insn.specs.declared.rows.Width.{Width}
use Rattle.mdl_insn.specs.declared.rows.Width.TheVariants.{Byte, Full, Four}
use Rattle.mdl_insn.specs.declared.rows.Row.{Row}
use Rattle.mdl_insn.specs.declared.rows.Entry.{Entry}
use Rattle.mdl_insn.specs.declared.rows.Entry.TheVariants.{Undefined, One, Group}
use Rattle.mdl_insn.specs.Rows.{one_entry, two_entry, member_entry}
use Rattle.mdl_insn.specs.Prefixes.{is_prefix, setting}
use Rattle.mdl_state.specs.Bytes.{little}
use Rattle.mdl_insn.specs.Addresses.{reg_of, has_modrm, sib_len, disp_len}
use Rattle.mdl_insn.specs.Operands.{own_len, Place, place, operand, allows, is_string}
use Rattle.mdl_insn.specs.Tree.{IsBytes}

-- ---- the row

-- what stands at an opcode of one byte, or of two with 0F in front
abbrev pub opcode_entry : List ℕ → Entry
opcode_entry [] = Undefined
opcode_entry (b ∷ []) = one_entry b
opcode_entry (b ∷ c ∷ []) = if b == 0x0F then two_entry c else Undefined
opcode_entry (b ∷ c ∷ d ∷ bs) = Undefined

-- the opcode's last byte, by itself
abbrev pub opcode_last : List ℕ → List ℕ
opcode_last (b ∷ c ∷ []) = c ∷ []
opcode_last bs = bs

-- the entry's row; a group's is chosen by the reg field of its ModRM byte
abbrev pub IsRow : Entry → ℕ → Row → Type 0
IsRow Undefined m r = ⊥
IsRow (One one) m r = one ≡ r
IsRow (Group g) m r = member_entry g (reg_of m) ≡ One r

-- ---- the instruction

-- Own: One value for one meaning. An instruction with no size of its own has the operand size.
abbrev pub size_of : Setting → Width → Size
size_of s Byte = B1
size_of s Full = s.size
size_of s Four = B4

-- Own: One value for one meaning. A repeat prefix counts before a string instruction alone.
abbrev pub rep_of : Op → Rep → Rep
rep_of op rep = if is_string op then rep else Plain

-- the instruction of a row; x, y and z are the numbers in the bytes of its operands
abbrev pub insn_of : Setting → Row → Place → ℕ → ℕ → ℕ → Insn
insn_of s r p x y z = record {
  op = r.op;
  size = size_of s r.width;
  wide = s.wide;
  over = s.over;
  lock = s.lock;
  rep = rep_of r.op s.rep;
  a = operand s p r.a x;
  b = operand s p r.b y;
  c = operand s p r.c z;
}

-- ---- the spelling

-- What stands behind the prefixes: opcode, ModRM byte, SIB byte, displacement, and the own bytes of the
-- three operands. A part that does not stand is empty, and counts as 0.
pub record SpeltRow (s : Setting) (bytes : List ℕ) (insn : Insn) : Type 0 where
  pub opcode : List ℕ
  pub modrm : List ℕ
  pub sib : List ℕ
  pub disp : List ℕ
  pub x : List ℕ
  pub y : List ℕ
  pub z : List ℕ
  pub row : Row
  pub whole : bytes ≡ opcode ++ (modrm ++ (sib ++ (disp ++ (x ++ (y ++ z)))))
  pub is_row : IsRow (opcode_entry opcode) (little modrm) row
  pub allowed : IsTrue (allows s row (little modrm))
  pub modrm_length : length modrm ≡ (if has_modrm row then 1 else 0)
  pub sib_length : length sib ≡ sib_len s row (little modrm)
  pub disp_length : length disp ≡ disp_len s row (little modrm) (little sib)
  pub x_length : length x ≡ own_len s row.a
  pub y_length : length y ≡ own_len s row.b
  pub z_length : length z ≡ own_len s row.c
  pub insn_is : insn ≡ insn_of s row (place s (little (opcode_last opcode)) (little modrm) (little sib) (little disp)) (little x) (little y) (little z)

-- Prefixes, any number of them, and a row; big is a default of 32 bits.
pub record Spelt (bytes : List ℕ) (big : Bool) (insn : Insn) : Type 0 where
  pub prefixes : List ℕ
  pub rest : List ℕ
  pub whole : bytes ≡ prefixes ++ rest
  pub bytes_fit : IsBytes bytes
  pub are_prefixes : AllByRecursion (λ b. IsTrue (is_prefix b)) prefixes
  pub row : SpeltRow (setting big prefixes) rest insn

-- a proper prefix of some spelling
pub record Begun (bytes : List ℕ) (big : Bool) : Type 0 where
  pub more : List ℕ
  pub insn : Insn
  pub goes_on : more ≢ []
  pub spelt : Spelt (bytes ++ more) big insn
