-- An entry of the opcode map, and how a row is written.
use Rattle.std.specs.Prelude.{ℕ, ◌+◌, ◌-◌, Bool, true, false, ◌&&◌, ◌||◌, not, nat_le, nat_lt, if◌then◌else◌, List, [], ◌∷◌, length, map, unwrap_or, slice_get}
use Rattle.std.specs.List.{range_with_len}
use Rattle.mdl_insn.specs.declared.mnemonics.Op.{Op}
use Rattle.mdl_insn.specs.declared.rows.Form.{Form}
use Rattle.mdl_insn.specs.declared.rows.Form.TheVariants.{No, Eb, Ev, Ew, Gb, Gv, Gw, M, S, Sd, Ib, Iv, Al, Ax, Cd, Dd, Rd, Escape}
use Rattle.mdl_insn.specs.declared.rows.Width.{Width}
use Rattle.mdl_insn.specs.declared.rows.Width.TheVariants.{Byte, Full}
use Rattle.mdl_insn.specs.declared.rows.Kind.{Kind}
use Rattle.mdl_insn.specs.declared.rows.Kind.TheVariants.{Bare, First, Second, Address, Odd}
use Rattle.mdl_insn.specs.declared.rows.Entry.{Entry}
use Rattle.mdl_insn.specs.declared.rows.Entry.TheVariants.{Undefined, One}

-- ---- what the ModRM byte of a row tells

-- E: a register or memory
abbrev pub is_e : Form → Bool
is_e Eb = true
is_e Ev = true
is_e Ew = true
is_e _ = false

-- memory alone
abbrev pub is_m : Form → Bool
is_m M = true
is_m _ = false

-- an operand that some ModRM bytes do not tell
abbrev pub is_tested : Form → Bool
is_tested M = true
is_tested S = true
is_tested Sd = true
is_tested Cd = true
is_tested Dd = true
is_tested _ = false

-- an operand that the ModRM byte tells
abbrev pub by_modrm : Form → Bool
by_modrm Eb = true
by_modrm Ev = true
by_modrm Ew = true
by_modrm Gb = true
by_modrm Gv = true
by_modrm Gw = true
by_modrm M = true
by_modrm S = true
by_modrm Sd = true
by_modrm Cd = true
by_modrm Dd = true
by_modrm Rd = true
by_modrm Escape = true
by_modrm _ = false

-- what the ModRM byte tells
abbrev pub kind_of : Form → Form → Form → Kind
kind_of a b c =
    if is_e a && not (is_tested b) then First
    else (if is_e b && not (is_tested a) then Second
    else (if is_m b && not (is_tested a) then Address
    else (if by_modrm a || by_modrm b || by_modrm c then Odd else Bare)))

-- ---- lines of the table

-- the entries of some opcodes one after the other, the first of them at
pub record Line : Type 0 where
  pub at : ℕ
  pub entries : List Entry

-- as it is written
abbrev pub line : ℕ → List Entry → Line
line at entries = record { at = at; entries = entries }

-- what stands at an opcode: the first line that has it
abbrev pub entry_at : List Line → ℕ → Entry
entry_at [] n = Undefined
entry_at (l ∷ ls) n =
    if nat_le l.at n && nat_lt n (l.at + length l.entries) then unwrap_or (slice_get l.entries (n - l.at)) Undefined else entry_at ls n

-- the next line begins at n or behind it
abbrev pub begin_at_or_behind : ℕ → List Line → Bool
begin_at_or_behind n [] = true
begin_at_or_behind n (l ∷ ls) = nat_le n l.at

-- each line ends where the next begins or before, so no place has two rows
abbrev pub are_apart : List Line → Bool
are_apart [] = true
are_apart (l ∷ ls) = begin_at_or_behind (l.at + length l.entries) ls && are_apart ls

-- ---- how a row is written

-- a mnemonic, its size and its operands
abbrev pub row : Op → Width → Form → Form → Form → Entry
row op width a b c = One (record { op = op; width = width; kind = kind_of a b c; a = a; b = b; c = c })

-- an instruction with no operands
abbrev pub sole : Op → Entry
sole op = row op Full No No No

-- a string instruction, of bytes and of the operand size
abbrev pub strings : Op → List Entry
strings op = row op Byte No No No ∷ row op Full No No No ∷ []

-- one row for each register in the opcode
abbrev pub eight : Entry → List Entry
eight e = map (λ _. e) (range_with_len 0 8)

-- one row for each condition
abbrev pub conditions : (ℕ → Entry) → List Entry
conditions f = map f (range_with_len 0 16)

-- the six rows of an arithmetic instruction
abbrev pub arithmetic : Op → List Entry
arithmetic op =
    row op Byte Eb Gb No ∷
    row op Full Ev Gv No ∷
    row op Byte Gb Eb No ∷
    row op Full Gv Ev No ∷
    row op Byte Al Ib No ∷
    row op Full Ax Iv No ∷ []
