-- What a test finds of each row of the opcode tables holds of the row of what some bytes spell.
use Rattle.std.proofs.Common.{◌≡◌, ℕ, zero, suc, ◌+◌, ◌-◌, ◌*◌, ◌==◌, ◌&&◌, Bool, true, false, cond, List, [], ◌∷◌, length, refl, sym, ap, ◌∙◌}
use Rattle.std.specs.Prelude.{nat_le, nat_lt, unwrap_or, slice_get}
use Rattle.std.specs.List.{list_all}
use Rattle.mdl_state.specs.Bytes.{little}
use Rattle.mdl_insn.specs.declared.instruction.Insn.{Insn}
use Rattle.mdl_insn.specs.declared.rows.Row.{Row}
use Rattle.mdl_insn.specs.declared.rows.Entry.{Entry}
use Rattle.mdl_insn.specs.declared.rows.Entry.TheVariants.{Undefined, One, Group}
use Rattle.mdl_insn.specs.Addresses.{reg_of}
use Rattle.mdl_insn.specs.Entries.{Line, entry_at}
use Rattle.mdl_insn.specs.Rows.{one_byte, two_bytes, groups, one_entry, two_entry, member_entry}
use Rattle.mdl_insn.specs.Spelling.{opcode_entry, IsRow, Spelt}

-- a row passes the test; what is no row does
abbrev passes : (Row → Bool) → Entry → Bool
passes test (One r) = test r
passes test _ = true

-- each row of some lines passes the test
abbrev pub all_pass : (Row → Bool) → List Line → Bool
all_pass test lines = list_all (λ l. list_all (passes test) l.entries) lines

both : (a b : Bool) → (a && b) ≡ true → (a ≡ true) × (b ≡ true)
both true b e = (refl, e)
both false b e = absurd cc

entry_passes : (test : Row → Bool) (es : List Entry) (i : ℕ) → list_all (passes test) es ≡ true → passes test (unwrap_or (slice_get es i) Undefined) ≡ true
entry_passes test [] i h = refl
entry_passes test (e ∷ es) zero h = (both (passes test e) (list_all (passes test) es) h).0
entry_passes test (e ∷ es) (suc i) h = entry_passes test es i (both (passes test e) (list_all (passes test) es) h).1

at_passes : (test : Row → Bool) (ls : List Line) (n : ℕ) → all_pass test ls ≡ true → passes test (entry_at ls n) ≡ true
at_passes test [] n h = refl
at_passes test (l ∷ ls) n h =
    let two = both (list_all (passes test) l.entries) (all_pass test ls) h in
    elim (nat_le l.at n && nat_lt n (l.at + length l.entries)) as (λ v. passes test (cond v (unwrap_or (slice_get l.entries (n - l.at)) Undefined) (entry_at ls n)) ≡ true) [
      | true ↦ entry_passes test l.entries (n - l.at) two.0
      | false ↦ at_passes test ls n two.1
    ]

opcode_passes : (test : Row → Bool) → all_pass test one_byte ≡ true → all_pass test two_bytes ≡ true → (opcode : List ℕ) → passes test (opcode_entry opcode) ≡ true
unfolding one_entry two_entry
opcode_passes test ones twos [] = refl
opcode_passes test ones twos (b ∷ []) = at_passes test one_byte b ones
opcode_passes test ones twos (b ∷ c ∷ []) = elim (b == 0x0F) as (λ v. passes test (cond v (two_entry c) Undefined) ≡ true) [ true ↦ at_passes test two_bytes c twos | false ↦ refl ]
opcode_passes test ones twos (b ∷ c ∷ d ∷ bs) = refl

chosen_passes : (test : Row → Bool) → all_pass test groups ≡ true → (e : Entry) (m : ℕ) (r : Row) → IsRow e m r → passes test e ≡ true → test r ≡ true
unfolding member_entry
chosen_passes test members Undefined m r h p = absurd h
chosen_passes test members (One one) m r h p = ap test (sym h) ∙ p
chosen_passes test members (Group g) m r h p = ap (passes test) (sym h) ∙ at_passes test groups (8 * g + reg_of m) members

-- a test that each row of the three tables passes, the row of what some bytes spell passes
pub row_tested : (test : Row → Bool) → all_pass test one_byte ≡ true → all_pass test two_bytes ≡ true → all_pass test groups ≡ true
    → (bytes : List ℕ) (big : Bool) (insn : Insn) (h : Spelt bytes big insn) → test h.row.row ≡ true
row_tested test ones twos members bytes big insn h =
    let q = h.row in
    chosen_passes test members (opcode_entry q.opcode) (little q.modrm) q.row q.is_row (opcode_passes test ones twos q.opcode)
