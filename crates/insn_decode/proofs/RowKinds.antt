-- What the kind of a row says of its operands.
use Rattle.std.proofs.Common.{nat_lt, ◌≡◌, ℕ, Bool, true, false, not, ◌&&◌, ◌||◌, refl, subst}
use Rattle.std.specs.Prelude.{IsTrue}
use Rattle.mdl_insn.specs.declared.rows.Setting.{Setting}
use Rattle.mdl_insn.specs.declared.rows.Form.{Form}
use Rattle.mdl_insn.specs.declared.rows.Form.TheVariants.{Eb, Ev, Ew, M, S, Sd, Cd, Dd, Ib, Iv, Iw, Is, Jb, Jv, Ob, Ov, P}
use Rattle.mdl_insn.specs.declared.rows.Kind.{Kind}
use Rattle.mdl_insn.specs.declared.rows.Kind.TheVariants.{Bare, First, Second, Address, Odd}
use Rattle.mdl_insn.specs.declared.rows.Row.{Row}
use Rattle.mdl_insn.specs.Entries.{is_m, is_e, is_tested, by_modrm}
use Rattle.mdl_insn.specs.Addresses.{mod_of, has_modrm, may_address}
use Rattle.mdl_insn.specs.Operands.{form_allows, own_len}
use Rattle.mdl_insn.specs.Fits.{has_own, kind_fits, row_fits}

both : (a b : Bool) → (a && b) ≡ true → (a ≡ true) × (b ≡ true)
both true b e = (refl, e)
both false b e = absurd cc

neither : (a b : Bool) → (a || b) ≡ false → (a ≡ false) × (b ≡ false)
neither true b e = absurd cc
neither false b e = (refl, e)

not_true : (a : Bool) → not a ≡ true → a ≡ false
not_true true e = absurd cc
not_true false e = refl

e_modrm : (f : Form) → is_e f ≡ true → by_modrm f ≡ true
e_modrm Eb e = refl
e_modrm Ev e = refl
e_modrm Ew e = refl
e_modrm _ e = absurd cc

e_memory : (f : Form) → is_e f ≡ true → may_address f ≡ true
e_memory Eb e = refl
e_memory Ev e = refl
e_memory Ew e = refl
e_memory _ e = absurd cc

e_allows : (f : Form) (m : ℕ) → is_e f ≡ true → form_allows f m ≡ true
e_allows M m e = absurd cc
e_allows S m e = absurd cc
e_allows Sd m e = absurd cc
e_allows Cd m e = absurd cc
e_allows Dd m e = absurd cc
e_allows _ m e = refl

untested_allows : (f : Form) (m : ℕ) → is_tested f ≡ false → form_allows f m ≡ true
untested_allows M m e = absurd cc
untested_allows S m e = absurd cc
untested_allows Sd m e = absurd cc
untested_allows Cd m e = absurd cc
untested_allows Dd m e = absurd cc
untested_allows _ m e = refl

no_modrm_allows : (f : Form) (m : ℕ) → by_modrm f ≡ false → form_allows f m ≡ true
no_modrm_allows M m e = absurd cc
no_modrm_allows S m e = absurd cc
no_modrm_allows Sd m e = absurd cc
no_modrm_allows Cd m e = absurd cc
no_modrm_allows Dd m e = absurd cc
no_modrm_allows _ m e = refl

no_modrm_memory : (f : Form) → by_modrm f ≡ false → may_address f ≡ false
no_modrm_memory Eb e = absurd cc
no_modrm_memory Ev e = absurd cc
no_modrm_memory Ew e = absurd cc
no_modrm_memory M e = absurd cc
no_modrm_memory _ e = refl

pub memory_no_own : (f : Form) → may_address f ≡ true → has_own f ≡ false
memory_no_own Eb e = refl
memory_no_own Ev e = refl
memory_no_own Ew e = refl
memory_no_own M e = refl
memory_no_own _ e = absurd cc

pub no_own_len : (s : Setting) (f : Form) → has_own f ≡ false → own_len s f ≡ 0
no_own_len s Ib e = absurd cc
no_own_len s Iv e = absurd cc
no_own_len s Iw e = absurd cc
no_own_len s Is e = absurd cc
no_own_len s Jb e = absurd cc
no_own_len s Jv e = absurd cc
no_own_len s Ob e = absurd cc
no_own_len s Ov e = absurd cc
no_own_len s P e = absurd cc
no_own_len s _ e = refl

abbrev rest_fits : Row → Bool
rest_fits r = (not (may_address r.b) || (not (may_address r.a) && not (has_own r.a))) && not (may_address r.c)

fits_kind : (r : Row) (k : Kind) → r.kind ≡ k → IsTrue (row_fits r) → kind_fits k r ≡ true
fits_kind r k e h = subst (λ (j : Kind). kind_fits j r ≡ true) e (both (kind_fits r.kind r) (rest_fits r) h).0

fits_rest : (r : Row) → IsTrue (row_fits r) → rest_fits r ≡ true
fits_rest r h = (both (kind_fits r.kind r) (rest_fits r) h).1

fits_pair : (r : Row) → IsTrue (row_fits r) → (not (may_address r.b) || (not (may_address r.a) && not (has_own r.a))) ≡ true
fits_pair r h = (both (not (may_address r.b) || (not (may_address r.a) && not (has_own r.a))) (not (may_address r.c)) (fits_rest r h)).0

pub fits_c : (r : Row) → IsTrue (row_fits r) → may_address r.c ≡ false
fits_c r h = not_true (may_address r.c) (both (not (may_address r.b) || (not (may_address r.a) && not (has_own r.a))) (not (may_address r.c)) (fits_rest r h)).1

-- where the first operand may be memory the second may not
pub one_memory : (r : Row) → IsTrue (row_fits r) → may_address r.a ≡ true → may_address r.b ≡ false
one_memory r h e = elim (may_address r.b) as (λ v. (not v || (not (may_address r.a) && not (has_own r.a))) ≡ true → v ≡ false) [ true ↦ λ q. absurd (let f = (both (not (may_address r.a)) (not (has_own r.a)) q).0 in cc) | false ↦ λ _. refl ] (fits_pair r h)

-- before a second operand that may be memory the first has no own bytes
pub none_before : (r : Row) → IsTrue (row_fits r) → may_address r.b ≡ true → (may_address r.a ≡ false) × (has_own r.a ≡ false)
none_before r h e =
    let q : (not (may_address r.a) && not (has_own r.a)) ≡ true = subst (λ (v : Bool). (not v || (not (may_address r.a) && not (has_own r.a))) ≡ true) e (fits_pair r h) in
    let two = both (not (may_address r.a)) (not (has_own r.a)) q in
    (not_true (may_address r.a) two.0, not_true (has_own r.a) two.1)

-- ---- by kind

none_modrm : (r : Row) → has_modrm r ≡ false → (by_modrm r.a ≡ false) × (by_modrm r.b ≡ false)
none_modrm r e =
    elim (by_modrm r.a) as (λ v. (v || by_modrm r.b || by_modrm r.c) ≡ false → (v ≡ false) × (by_modrm r.b ≡ false)) [
      | true ↦ λ q. absurd cc
      | false ↦ λ q. (refl, (neither (by_modrm r.b) (by_modrm r.c) q).0)
    ] e

pub bare_modrm : (r : Row) → r.kind ≡ Bare → IsTrue (row_fits r) → has_modrm r ≡ false
bare_modrm r k h = not_true (has_modrm r) (fits_kind r Bare k h)

pub first_e : (r : Row) → r.kind ≡ First → IsTrue (row_fits r) → (is_e r.a ≡ true) × (is_tested r.b ≡ false)
first_e r k h = let two = both (is_e r.a) (not (is_tested r.b)) (fits_kind r First k h) in (two.0, not_true (is_tested r.b) two.1)

pub second_e : (r : Row) → r.kind ≡ Second → IsTrue (row_fits r) → (is_e r.b ≡ true) × (is_tested r.a ≡ false)
second_e r k h = let two = both (is_e r.b) (not (is_tested r.a)) (fits_kind r Second k h) in (two.0, not_true (is_tested r.a) two.1)

pub first_modrm : (r : Row) → r.kind ≡ First → IsTrue (row_fits r) → has_modrm r ≡ true
first_modrm r k h = rw (e_modrm r.a (first_e r k h).0) refl

pub second_modrm : (r : Row) → r.kind ≡ Second → IsTrue (row_fits r) → has_modrm r ≡ true
second_modrm r k h = elim (by_modrm r.a) as (λ v. (v || by_modrm r.b || by_modrm r.c) ≡ true) [ true ↦ refl | false ↦ rw (e_modrm r.b (second_e r k h).0) refl ]

pub odd_modrm : (r : Row) → r.kind ≡ Odd → IsTrue (row_fits r) → has_modrm r ≡ true
odd_modrm r k h = fits_kind r Odd k h

pub bare_allows : (r : Row) (m : ℕ) → r.kind ≡ Bare → IsTrue (row_fits r) → (form_allows r.a m && form_allows r.b m) ≡ true
bare_allows r m k h = let two = none_modrm r (bare_modrm r k h) in rw (no_modrm_allows r.a m two.0, no_modrm_allows r.b m two.1) refl

pub first_allows : (r : Row) (m : ℕ) → r.kind ≡ First → IsTrue (row_fits r) → (form_allows r.a m && form_allows r.b m) ≡ true
first_allows r m k h = let two = first_e r k h in rw (e_allows r.a m two.0, untested_allows r.b m two.1) refl

pub second_allows : (r : Row) (m : ℕ) → r.kind ≡ Second → IsTrue (row_fits r) → (form_allows r.a m && form_allows r.b m) ≡ true
second_allows r m k h = let two = second_e r k h in rw (untested_allows r.a m two.1, e_allows r.b m two.0) refl

pub bare_a : (r : Row) → r.kind ≡ Bare → IsTrue (row_fits r) → may_address r.a ≡ false
bare_a r k h = no_modrm_memory r.a (none_modrm r (bare_modrm r k h)).0

pub bare_b : (r : Row) → r.kind ≡ Bare → IsTrue (row_fits r) → may_address r.b ≡ false
bare_b r k h = no_modrm_memory r.b (none_modrm r (bare_modrm r k h)).1

pub first_a : (r : Row) → r.kind ≡ First → IsTrue (row_fits r) → may_address r.a ≡ true
first_a r k h = e_memory r.a (first_e r k h).0

pub first_b : (r : Row) → r.kind ≡ First → IsTrue (row_fits r) → may_address r.b ≡ false
first_b r k h = one_memory r h (first_a r k h)

pub second_b : (r : Row) → r.kind ≡ Second → IsTrue (row_fits r) → may_address r.b ≡ true
second_b r k h = e_memory r.b (second_e r k h).0

pub second_a : (r : Row) → r.kind ≡ Second → IsTrue (row_fits r) → may_address r.a ≡ false
second_a r k h = (none_before r h (second_b r k h)).0

m_is : (f : Form) → is_m f ≡ true → f ≡ M
m_is M e = refl
m_is _ e = absurd cc

pub address_m : (r : Row) → r.kind ≡ Address → IsTrue (row_fits r) → (r.b ≡ M) × (is_tested r.a ≡ false)
address_m r k h = let two = both (is_m r.b) (not (is_tested r.a)) (fits_kind r Address k h) in (m_is r.b two.0, not_true (is_tested r.a) two.1)

pub address_modrm : (r : Row) → r.kind ≡ Address → IsTrue (row_fits r) → has_modrm r ≡ true
address_modrm r k h = elim (by_modrm r.a) as (λ v. (v || by_modrm r.b || by_modrm r.c) ≡ true) [ true ↦ refl | false ↦ rw ((address_m r k h).0) refl ]

pub address_allows : (r : Row) (m : ℕ) → r.kind ≡ Address → IsTrue (row_fits r) → (form_allows r.a m && form_allows r.b m) ≡ nat_lt (mod_of m) 3
address_allows r m k h = let two = address_m r k h in rw (untested_allows r.a m two.1, two.0) refl

pub address_b : (r : Row) → r.kind ≡ Address → IsTrue (row_fits r) → may_address r.b ≡ true
address_b r k h = rw ((address_m r k h).0) refl

pub address_a : (r : Row) → r.kind ≡ Address → IsTrue (row_fits r) → may_address r.a ≡ false
address_a r k h = (none_before r h (address_b r k h)).0
