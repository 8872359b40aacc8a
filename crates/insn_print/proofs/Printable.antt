-- An instruction that some bytes spell has at most one operand in memory.
use Rattle.std.proofs.Common.{◌≡◌, ℕ, zero, suc, ◌+◌, ◌*◌, ◌<◌, ◌≤◌, Bool, true, false, cond, List, [], ◌∷◌, ◌++◌, get_or, refl, sym, ap, subst, ◌∙◌, arith, rules, tests, length, zero-add, ◌&&◌}
use Rattle.std.specs.Prelude.{nat_le, ◌==◌}
use Rattle.std.specs.List.{list_all, range_with_len}
use Rattle.std.proofs.lemmas.List.FromFn.{get_or-range_with_len}
use Rattle.std.proofs.lemmas.Bool.Decides.{nat_tests}
use Rattle.mdl_state.specs.declared.Size.TheVariants.{B1, B2}
use Rattle.mdl_insn.specs.declared.instruction.Insn.{Insn}
use Rattle.mdl_insn.specs.declared.instruction.Operand.TheVariants.{Gpr, At}
use Rattle.mdl_insn.specs.declared.rows.Setting.{Setting}
use Rattle.mdl_insn.specs.declared.rows.Row.{Row}
use Rattle.mdl_insn.specs.declared.rows.Form.{Form}
use Rattle.mdl_insn.specs.declared.rows.Form.TheVariants.{Eb, Ev, Ew, M, Ob, Ov, P}
use Rattle.mdl_insn.specs.declared.rows.Entry.{Entry}
use Rattle.mdl_insn.specs.declared.rows.Entry.TheVariants.{Undefined, One, Group}
use Rattle.mdl_insn.specs.Entries.{entry_at}
use Rattle.mdl_insn.specs.Rows.{groups, one_entry, two_entry, member_entry}
use Rattle.mdl_insn.specs.Tree.{IsBytes}
use Rattle.mdl_insn.specs.Fits.{is_entry}
use Rattle.mdl_insn.specs.Prefixes.{setting}
use Rattle.mdl_state.specs.Bytes.{little}
use Rattle.mdl_insn.specs.Addresses.{mod_of, rm_of, reg_of}
use Rattle.mdl_insn.specs.Operands.{operand, Place, place}
use Rattle.mdl_insn.specs.Spelling.{insn_of, opcode_entry, opcode_last, IsRow, Spelt}
use Rattle.mdl_insn.proofs.Tables.{one-fits, two-fits}
use Rattle.insn_print.specs.Room.{room_of, IsPrintable}

-- ---- the room of a form

abbrev room_form : Form → ℕ
room_form Eb = 32
room_form Ev = 32
room_form Ew = 32
room_form M = 32
room_form Ob = 32
room_form Ov = 32
room_form P = 22
room_form _ = 11

form_room : (s : Setting) (p : Place) (f : Form) (x : ℕ) → room_of (operand s p f x) ≤ room_form f
form_room s p Eb x = elim (mod_of p.modrm == 3) as (λ v. room_of (cond v (Gpr (rm_of p.modrm) B1) (At p.mem B1)) ≤ 32) [ true ↦ omega arith | false ↦ omega arith ]
form_room s p Ev x = elim (mod_of p.modrm == 3) as (λ v. room_of (cond v (Gpr (rm_of p.modrm) s.size) (At p.mem s.size)) ≤ 32) [ true ↦ omega arith | false ↦ omega arith ]
form_room s p Ew x = elim (mod_of p.modrm == 3) as (λ v. room_of (cond v (Gpr (rm_of p.modrm) B2) (At p.mem B2)) ≤ 32) [ true ↦ omega arith | false ↦ omega arith ]
form_room s p M x = omega arith
form_room s p Ob x = omega arith
form_room s p Ov x = omega arith
form_room s p P x = omega arith
form_room s p _ x = omega arith

-- ---- the room of a row, by a test over the table

abbrev room_row : Row → ℕ
room_row r = room_form r.a + room_form r.b + room_form r.c

abbrev room_test : Entry → Bool
room_test (One r) = nat_le (room_row r) 54
room_test _ = true

ones : list_all (λ b. room_test (one_entry b)) (range_with_len 0 256) ≡ true
unfolding one_entry
ones = refl

twos : list_all (λ b. room_test (two_entry b)) (range_with_len 0 256) ≡ true
unfolding two_entry
twos = refl

members : list_all (λ n. room_test (entry_at groups n)) (range_with_len 0 152) ≡ true
members = refl

and_true : (a b : Bool) → (a && b) ≡ true → (a ≡ true) × (b ≡ true)
and_true true b e = (refl, e)
and_true false b e = absurd cc

all_in : (p : ℕ → Bool) (xs : List ℕ) (i : ℕ) → list_all p xs ≡ true → i < length xs → p (get_or xs i 0) ≡ true
all_in p [] i e lt = absurd (omega arith)
all_in p (x ∷ xs) zero e lt = (and_true (p x) (list_all p xs) e).0
all_in p (x ∷ xs) (suc i) e lt = all_in p xs i (and_true (p x) (list_all p xs) e).1 (omega arith)

one_in : (p : ℕ → Bool) (n i : ℕ) → list_all p (range_with_len 0 n) ≡ true → i < length (range_with_len 0 n) → i < n → p i ≡ true
one_in p n i e l lt = subst (λ (k : ℕ). p k ≡ true) (get_or-range_with_len 0 n i 0 lt ∙ zero-add i) (all_in p (range_with_len 0 n) i e l)

member_room : (g reg : ℕ) → 8 * g + reg < 152 → room_test (member_entry g reg) ≡ true
unfolding member_entry
member_room g reg lt = one_in (λ n. room_test (entry_at groups n)) 152 (8 * g + reg) members lt lt

entry_tested : (opcode : List ℕ) → IsBytes opcode → (room_test (opcode_entry opcode) ≡ true) × (is_entry (opcode_entry opcode) ≡ true)
entry_tested [] fit = (refl, refl)
entry_tested (b ∷ []) fit = (one_in (λ k. room_test (one_entry k)) 256 b ones fit.0 fit.0, one-fits b fit.0)
entry_tested (b ∷ c ∷ []) fit =
    elim (b == 0x0F) as (λ v. (room_test (cond v (two_entry c) Undefined) ≡ true) × (is_entry (cond v (two_entry c) Undefined) ≡ true)) [
      | true ↦ (one_in (λ k. room_test (two_entry k)) 256 c twos fit.1.0 fit.1.0, two-fits c fit.1.0)
      | false ↦ (refl, refl)
    ]
entry_tested (b ∷ c ∷ d ∷ bs) fit = (refl, refl)

test_le : (r : Row) → nat_le (room_row r) 54 ≡ true → room_row r ≤ 54
test_le r e = grind (arith, nat_tests)

row_room : (e : Entry) (m : ℕ) (r : Row) → IsRow e m r → room_test e ≡ true → is_entry e ≡ true → room_row r ≤ 54
row_room Undefined m r h t f = absurd h
row_room (One one) m r h t f = subst (λ (k : Row). room_row k ≤ 54) h (test_le one t)
row_room (Group g) m r h t f =
    let lt : g < 19 = search (tests, rules) in
    let in_table : 8 * g + reg_of m < 152 = omega arith in
    test_le r (ap room_test (sym h) ∙ member_room g (reg_of m) in_table)

-- ---- the instruction

fit_front : (x y : List ℕ) → IsBytes (x ++ y) → IsBytes x
fit_front [] y h = tt
fit_front (b ∷ x) y h = (h.0, fit_front x y h.1)

fit_back : (x y : List ℕ) → IsBytes (x ++ y) → IsBytes y
fit_back [] y h = h
fit_back (b ∷ x) y h = fit_back x y h.1

-- what some bytes spell has room
pub spelt_printable : (bytes : List ℕ) (big : Bool) (i : Insn) → Spelt bytes big i → IsPrintable i
spelt_printable bytes big i h =
    let s = setting big h.prefixes in
    let q = h.row in
    let rest : IsBytes h.rest = fit_back h.prefixes h.rest (subst (λ (z : List ℕ). IsBytes z) h.whole h.bytes_fit) in
    let front : IsBytes q.opcode = fit_front q.opcode _ (subst (λ (z : List ℕ). IsBytes z) q.whole rest) in
    let t = entry_tested q.opcode front in
    let n = row_room (opcode_entry q.opcode) (little q.modrm) q.row q.is_row t.0 t.1 in
    let p : Place = place s (little (opcode_last q.opcode)) (little q.modrm) (little q.sib) (little q.disp) in
    let a = form_room s p q.row.a (little q.x) in
    let b = form_room s p q.row.b (little q.y) in
    let c = form_room s p q.row.c (little q.z) in
    let all : IsPrintable (insn_of s q.row p (little q.x) (little q.y) (little q.z)) = omega arith in
    subst (λ (k : Insn). IsPrintable k) (sym q.insn_is) all
