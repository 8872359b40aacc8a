-- The constant tables are the written rows, so a place of one is what the rows say.
use Rattle.std.proofs.Common.{length, ◌≡◌, ℕ, zero, suc, ◌+◌, ◌*◌, ◌<◌, Bool, true, false, ◌&&◌, List, [], ◌∷◌, get_or, map, refl, sym, ◌∙◌, ap, arith}
use Rattle.std.specs.Prelude.{IsTrue, unwrap_or, slice_get, nat_le, nat_lt, ◌-◌, cond}
use Rattle.mdl_insn.specs.declared.rows.Row.{Row}
use Rattle.mdl_insn.specs.Addresses.{has_modrm}
use Rattle.std.specs.List.{range_with_len, list_all}
use Rattle.std.proofs.lemmas.List.FromFn.{get_or-map-range_with_len}
use Rattle.mdl_insn.specs.declared.rows.Entry.{Entry}
use Rattle.mdl_insn.specs.declared.rows.Entry.TheVariants.{Undefined, One}
use Rattle.mdl_insn.specs.declared.table.TheConstants.{ONE_BYTE, TWO_BYTES, GROUPS, GROUP_LOCKS}
use Rattle.mdl_insn.specs.Entries.{Line, entry_at}
use Rattle.mdl_insn.specs.Rows.{one_byte, two_bytes, groups, one_entry, two_entry, member_entry}
use Rattle.mdl_insn.specs.Fits.{is_entry}
use Rattle.mdl_insn.specs.Operands.{group_locks}

all_at : {A : Type 0} (p : A → Bool) (xs : List A) (i : ℕ) (d : A) → list_all p xs ≡ true → p d ≡ true → p (get_or xs i d) ≡ true
all_at p [] i d h e = e
all_at p (x ∷ xs) zero d h e = elim (p x) as (λ v. (v && list_all p xs) ≡ true → v ≡ true) [ true ↦ λ _. refl | false ↦ λ k. absurd cc ] h
all_at p (x ∷ xs) (suc i) d h e = all_at p xs i d (elim (p x) as (λ v. (v && list_all p xs) ≡ true → list_all p xs ≡ true) [ true ↦ λ k. k | false ↦ λ k. absurd cc ] h) e

pub at-one : (b : ℕ) (e : Entry) → b < 256 → e ≡ get_or ONE_BYTE b e → e ≡ one_entry b
unfolding one_entry
at-one b e lt h = h ∙ get_or-map-range_with_len (entry_at one_byte) 0 256 b b e lt (omega arith)

pub at-two : (b : ℕ) (e : Entry) → b < 256 → e ≡ get_or TWO_BYTES b e → e ≡ two_entry b
unfolding two_entry
at-two b e lt h = h ∙ get_or-map-range_with_len (entry_at two_bytes) 0 256 b b e lt (omega arith)

pub at-member : (g reg : ℕ) (e : Entry) → 8 * g + reg < 152 → e ≡ get_or GROUPS (8 * g + reg) e → e ≡ member_entry g reg
unfolding member_entry
at-member g reg e lt h = h ∙ get_or-map-range_with_len (entry_at groups) 0 152 (8 * g + reg) (8 * g + reg) e lt (omega arith)

pub locks-table : map group_locks (range_with_len 0 19) ≡ GROUP_LOCKS
unfolding group_locks member_entry
locks-table = refl

pub at-locks : (n : ℕ) (e : Bool) → n < 19 → e ≡ get_or GROUP_LOCKS n e → e ≡ group_locks n
at-locks n e lt h = h ∙ ap (λ xs. get_or xs n e) (sym locks-table) ∙ get_or-map-range_with_len group_locks 0 19 n n e lt (omega arith)

pub one-fits : (b : ℕ) → b < 256 → IsTrue (is_entry (one_entry b))
unfolding one_entry
one-fits b lt = ap is_entry (sym (get_or-map-range_with_len (entry_at one_byte) 0 256 b b Undefined lt (omega arith))) ∙ all_at is_entry ONE_BYTE b Undefined refl refl

pub two-fits : (b : ℕ) → b < 256 → IsTrue (is_entry (two_entry b))
unfolding two_entry
two-fits b lt = ap is_entry (sym (get_or-map-range_with_len (entry_at two_bytes) 0 256 b b Undefined lt (omega arith))) ∙ all_at is_entry TWO_BYTES b Undefined refl refl

pub member-fits : (g reg : ℕ) → 8 * g + reg < 152 → IsTrue (is_entry (member_entry g reg))
unfolding member_entry
member-fits g reg lt = ap is_entry (sym (get_or-map-range_with_len (entry_at groups) 0 152 (8 * g + reg) (8 * g + reg) Undefined lt (omega arith))) ∙ all_at is_entry GROUPS (8 * g + reg) Undefined refl refl

-- ---- what holds for all entries of a list of lines

got : (p : Entry → Bool) (xs : List Entry) (i : ℕ) → list_all p xs ≡ true → p Undefined ≡ true → p (unwrap_or (slice_get xs i) Undefined) ≡ true
got p [] i h u = u
got p (x ∷ xs) zero h u = elim (p x) as (λ v. (v && list_all p xs) ≡ true → v ≡ true) [ true ↦ λ _. refl | false ↦ λ k. absurd cc ] h
got p (x ∷ xs) (suc i) h u = got p xs i (elim (p x) as (λ v. (v && list_all p xs) ≡ true → list_all p xs ≡ true) [ true ↦ λ k. k | false ↦ λ k. absurd cc ] h) u

both : (a b : Bool) → (a && b) ≡ true → (a ≡ true) × (b ≡ true)
both true b e = (refl, e)
both false b e = absurd cc

all_lines : (p : Entry → Bool) (ls : List Line) (n : ℕ) → list_all (λ l. list_all p l.entries) ls ≡ true → p Undefined ≡ true → p (entry_at ls n) ≡ true
all_lines p [] n h u = u
all_lines p (l ∷ ls) n h u =
    let two = both (list_all p l.entries) (list_all (λ l. list_all p l.entries) ls) h in
    elim (nat_le l.at n && nat_lt n (l.at + length l.entries)) as (λ v. p (cond v (unwrap_or (slice_get l.entries (n - l.at)) Undefined) (entry_at ls n)) ≡ true) [
      | true ↦ got p l.entries (n - l.at) two.0 u
      | false ↦ all_lines p ls n two.1 u
    ]

-- no row, or one with a ModRM byte
abbrev is_member : Entry → Bool
is_member (One r) = has_modrm r
is_member _ = true

pub member-modrm : (g reg : ℕ) (r : Row) → member_entry g reg ≡ One r → has_modrm r ≡ true
unfolding member_entry
member-modrm g reg r e = sym (ap is_member e) ∙ all_lines is_member groups (8 * g + reg) refl refl
