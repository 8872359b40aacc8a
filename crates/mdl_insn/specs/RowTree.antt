-- The rows as a tree of bytes: what each next byte leads to. The law of the spelling is proved by it, and
-- the decoder reads along it.
use Rattle.std.specs.Prelude.{ℕ, ◌==◌, Bool, false, not, ◌||◌, if◌then◌else◌}
use Rattle.mdl_insn.specs.declared.instruction.Insn.{Insn}
use Rattle.mdl_insn.specs.declared.rows.Setting.{Setting}
use Rattle.mdl_insn.specs.declared.rows.Row.{Row}
use Rattle.mdl_insn.specs.declared.rows.Entry.{Entry}
use Rattle.mdl_insn.specs.declared.rows.Entry.TheVariants.{Undefined, One, Group}
use Rattle.mdl_insn.specs.Rows.{one_entry, two_entry, member_entry}
use Rattle.mdl_insn.specs.Tree.{Tree, Done, Fail, ◌>>=◌, byte_tree, number_tree, guard}
use Rattle.mdl_insn.specs.Addresses.{has_modrm, reg_of, sib_len, disp_len}
use Rattle.mdl_insn.specs.Operands.{allows, lockable, group_locks, own_len, Place, place}
use Rattle.mdl_insn.specs.Spelling.{insn_of}

-- what the opcode bytes tell
pub record Head : Type 0 where
  pub entry : Entry
  pub opcode : ℕ

abbrev pub head_of : Entry → ℕ → Head
head_of e b = record { entry = e; opcode = b }

-- the row, and the bytes that chose it
pub record Chosen : Type 0 where
  pub row : Row
  pub opcode : ℕ
  pub modrm : ℕ

abbrev pub chosen_of : Row → ℕ → ℕ → Chosen
chosen_of r b m = record { row = r; opcode = b; modrm = m }

-- some row of the entry may follow the prefixes
abbrev pub starts : Bool → Entry → Bool
starts lock Undefined = false
starts lock (One r) = not lock || lockable r
starts lock (Group g) = not lock || group_locks g

-- that of the entry, if any
abbrev pub entry_tree : Bool → Entry → ℕ → Tree Head
entry_tree lock e b = guard (starts lock e) (Done (head_of e b))

-- behind the opcode's first byte
unfoldable pub opcode_tree : Bool → ℕ → Tree Head
opcode_tree lock b =
    if b == 0x0F then (byte_tree >>= λ c. entry_tree lock (two_entry c) c) else entry_tree lock (one_entry b) b

-- the row of a group's member
abbrev pub member_tree : Setting → Entry → ℕ → ℕ → Tree Chosen
member_tree s Undefined b m = Fail
member_tree s (One r) b m = guard (allows s r m) (Done (chosen_of r b m))
member_tree s (Group g) b m = Fail

-- the row of an entry
abbrev pub entry_modrm_tree : Setting → Entry → ℕ → Tree Chosen
entry_modrm_tree s Undefined b = Fail
entry_modrm_tree s (One r) b = if has_modrm r then (byte_tree >>= λ m. guard (allows s r m) (Done (chosen_of r b m))) else Done (chosen_of r b 0)
entry_modrm_tree s (Group g) b = byte_tree >>= λ m. member_tree s (member_entry g (reg_of m)) b m

-- behind the opcode
unfoldable pub modrm_tree : Setting → Head → Tree Chosen
modrm_tree s h = entry_modrm_tree s h.entry h.opcode

-- what they tell an operand
abbrev pub place_of : Setting → Chosen → ℕ → ℕ → Place
place_of s c sib d = place s c.opcode c.modrm sib d

-- behind the ModRM byte
unfoldable pub behind_tree : Setting → Chosen → Tree Insn
behind_tree s c =
    number_tree (sib_len s c.row c.modrm) >>= λ sib.
    number_tree (disp_len s c.row c.modrm sib) >>= λ d.
    number_tree (own_len s c.row.a) >>= λ x.
    number_tree (own_len s c.row.b) >>= λ y.
    number_tree (own_len s c.row.c) >>= λ z.
    Done (insn_of s c.row (place_of s c sib d) x y z)

-- behind the first byte that is no prefix
unfoldable pub row_tree : Setting → ℕ → Tree Insn
row_tree s b = opcode_tree s.lock b >>= λ h. modrm_tree s h >>= λ c. behind_tree s c
