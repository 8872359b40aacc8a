-- What the decoder does, byte by byte.
use Rattle.std.specs.Prelude.{Option, Some, None, is_some, unwrap_or, ℕ, ◌+◌, ◌≡◌, ◌<◌, ◌==◌, Bool, true, false, not, ◌&&◌, ◌||◌, ◌⊎◌, if◌then◌else◌, Result, Ok, Err}
use Rattle.mdl_state.specs.declared.Fault.{Fault}
use Rattle.mdl_insn.specs.declared.instruction.Insn.{Insn}
use Rattle.mdl_insn.specs.declared.instruction.Operand.{Operand}
use Rattle.mdl_insn.specs.declared.instruction.Operand.TheVariants.{At}
use Rattle.mdl_state.specs.declared.Size.{Size}
use Rattle.mdl_state.specs.declared.Size.TheVariants.{B1, B2, B4}
use Rattle.mdl_insn.specs.declared.rows.Setting.{Setting}
use Rattle.mdl_insn.specs.declared.rows.Form.{Form}
use Rattle.mdl_insn.specs.declared.rows.Form.TheVariants.{Eb, Ew, Ib, Iv, Iw, Is}
use Rattle.mdl_insn.specs.declared.rows.Row.{Row}
use Rattle.mdl_insn.specs.declared.rows.Entry.{Entry}
use Rattle.mdl_insn.specs.declared.rows.Entry.TheVariants.{Undefined, One, Group}
use Rattle.insn_decode.specs.declared.refusals.Undecoded.{Undecoded}
use Rattle.insn_decode.specs.declared.refusals.Undecoded.TheVariants as causes
use Rattle.mdl_insn.specs.Rows.{member_entry}
use Rattle.mdl_insn.specs.Tree.{Tree, Done, Fail, Take, ◌>>=◌}
use Rattle.mdl_insn.specs.Addresses.{has_modrm, reg_of, sib_len, disp_len, mem_of, may_address, rm_of, plain_disp, base_field}
use Rattle.mdl_insn.specs.Operands.{allows, own_len, operand, e_operand}
use Rattle.mdl_insn.specs.Spelling.{size_of, rep_of}
use Rattle.mdl_insn.specs.Prefixes.{segment_prefix, repeat_prefix, is_prefix}
use Rattle.mdl_insn.specs.RowTree.{Chosen, chosen_of, place_of, entry_modrm_tree, behind_tree, starts}
use Rattle.mdl_insn.specs.Tree.{byte_tree, number_tree, guard}

-- What a reader of a tree does: n bytes were taken before it and m after it, from s to e.
unfoldable pub Runs : {S A : Type 0} → (S → Result ℕ Fault → S → Type 0) → Tree A → ℕ → S → Result A Undecoded → ℕ → S → Type 0
Runs gives (Done a) n s r m e = (r ≡ Ok a) × (m ≡ n) × (e ≡ s)
Runs gives Fail n s r m e = (r ≡ Err causes.Undefined) × (m ≡ n) × (e ≡ s)
Runs gives (Take k) n s r m e =
    ((n ≡ 15) × (r ≡ Err causes.TooLong) × (m ≡ n) × (e ≡ s))
    ⊎ (((f : Fault) × (n < 15) × gives s (Err f) e × (r ≡ Err (causes.Fetch f)) × (m ≡ n))
    ⊎ ((b : ℕ) × (mid : _) × (n < 15) × (b < 256) × gives s (Ok b) mid × Runs gives (k b) (n + 1) mid r m e))

-- ---- prefixes

-- one more prefix
abbrev pub with_prefix : Bool → Setting → ℕ → Setting
with_prefix big s b = record {
  size = if b == 0x66 then (if big then B2 else B4) else s.size;
  wide = if b == 0x67 then not big else s.wide;
  over = if is_some (segment_prefix b) then segment_prefix b else s.over;
  lock = (b == 0xF0) || s.lock;
  rep = unwrap_or (repeat_prefix b) s.rep;
}

-- the setting behind a byte, if it is a prefix
abbrev pub prefix_step : Bool → Setting → ℕ → Option Setting
prefix_step big s b = if is_prefix b then Some (with_prefix big s b) else None

-- ---- the rows in the parts that the code reads

-- what a reader that writes in place gave: what it left there
abbrev pub left : {A B : Type 0} → Result A Undecoded → B → Result B Undecoded
left (Ok _) b = Ok b
left (Err x) b = Err x

-- an immediate
abbrev pub is_immediate : Form → Bool
is_immediate Ib = true
is_immediate Iv = true
is_immediate Iw = true
is_immediate Is = true
is_immediate _ = false

-- an operand with no memory by the ModRM byte, behind its own bytes
unfoldable pub own_tree : Setting → Chosen → Form → Tree Operand
own_tree s c f = number_tree (own_len s f) >>= λ x. Done (operand s (place_of s c 0 0) f x)

-- a register or memory by the ModRM byte
unfoldable pub e_tree : Setting → Chosen → Size → Tree Operand
e_tree s c size =
    number_tree (sib_len s c.row c.modrm) >>= λ sib.
    number_tree (disp_len s c.row c.modrm sib) >>= λ d.
    Done (e_operand (place_of s c sib d) size)

-- memory by the ModRM byte: what follows the SIB byte
unfoldable pub mem_at_tree : Setting → ℕ → ℕ → Size → Tree Operand
mem_at_tree s m sib size = number_tree (plain_disp s.wide m (base_field s.wide m sib)) >>= λ d. Done (At (mem_of s m sib d) size)

-- the same with the SIB byte
unfoldable pub mem_tree : Setting → ℕ → Size → Tree Operand
mem_tree s m size = number_tree (if s.wide && (rm_of m == 4) then 1 else 0) >>= λ sib. mem_at_tree s m sib size

-- the size of a register or memory
abbrev pub e_size : Setting → Form → Size
e_size s Eb = B1
e_size s Ew = B2
e_size s _ = s.size

-- an operand of any form
unfoldable pub any_tree : Setting → Chosen → Form → Tree Operand
any_tree s c f = if may_address f then e_tree s c (e_size s f) else own_tree s c f

-- the operands of a row
pub record Three : Type 0 where
  pub a : Operand
  pub b : Operand
  pub c : Operand

abbrev pub three : Operand → Operand → Operand → Three
three a b c = record { a = a; b = b; c = c }

-- one after the other
unfoldable pub three_tree : Setting → Chosen → Tree Three
three_tree s c = any_tree s c c.row.a >>= λ a. any_tree s c c.row.b >>= λ b. any_tree s c c.row.c >>= λ z. Done (three a b z)

-- the instruction with these operands
abbrev pub insn_from : Setting → Row → Three → Insn
insn_from s r t = record {
  op = r.op;
  size = size_of s r.width;
  wide = s.wide;
  over = s.over;
  lock = s.lock;
  rep = rep_of r.op s.rep;
  a = t.a;
  b = t.b;
  c = t.c;
}

-- a row and its ModRM byte, 0 where it has none
pub record Picked : Type 0 where
  pub row : Row
  pub modrm : ℕ

abbrev pub pick_of : Row → ℕ → Picked
pick_of r m = record { row = r; modrm = m }

-- a member of a group
abbrev pub member_pick : Entry → ℕ → Tree Picked
member_pick Undefined m = Fail
member_pick (One r) m = Done (pick_of r m)
member_pick (Group g) m = Fail

-- the row of an entry, by the ModRM byte where it is a group
unfoldable pub pick_tree : Entry → Tree Picked
pick_tree Undefined = Fail
pick_tree (One r) = if has_modrm r then (byte_tree >>= λ m. Done (pick_of r m)) else Done (pick_of r 0)
pick_tree (Group g) = byte_tree >>= λ m. member_pick (member_entry g (reg_of m)) m

-- and what follows, where the setting allows it
unfoldable pub allowed_tree : Setting → ℕ → Picked → Tree Insn
allowed_tree s b p = guard (allows s p.row p.modrm) (behind_tree s (chosen_of p.row b p.modrm))

-- behind the opcode
unfoldable pub found_tree : Setting → Entry → ℕ → Tree Insn
found_tree s e b = guard (starts s.lock e) (entry_modrm_tree s e b >>= λ c. behind_tree s c)
