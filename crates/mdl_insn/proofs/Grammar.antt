-- What the tree of a row reads is spelt, and what is spelt it reads.
use Rattle.std.proofs.Common.{◌≡◌, ℕ, suc, ◌+◌, ◌*◌, ◌<◌, Bool, true, false, cond, not, ◌&&◌, ◌||◌, List, [], ◌∷◌, ◌++◌, length, refl, sym, ap, subst, ◌∙◌, arith}
use Rattle.std.specs.Prelude.{◌==◌}
use Rattle.std.proofs.lemmas.List.{append-nil}
use Rattle.std.proofs.Common.{get_or, zero-add, nat_lt}
use Rattle.std.specs.List.{list_any, range_with_len}
use Rattle.std.proofs.lemmas.List.Folds.{list_any_at}
use Rattle.std.proofs.lemmas.List.FromFn.{get_or-range_with_len}
use Rattle.std.proofs.lemmas.Bool.Decides.{nat_tests}
use Rattle.mdl_insn.specs.declared.instruction.Insn.{Insn}
use Rattle.mdl_insn.specs.declared.rows.Setting.{Setting}
use Rattle.mdl_insn.specs.declared.rows.Row.{Row}
use Rattle.mdl_insn.specs.declared.rows.Form.{Form}
use Rattle.mdl_insn.specs.declared.rows.Form.TheVariants.{M}
use Rattle.mdl_insn.specs.declared.rows.Entry.{Entry}
use Rattle.mdl_insn.specs.declared.rows.Entry.TheVariants.{Undefined, One, Group}
use Rattle.mdl_insn.proofs.Tables.{member-modrm}
use Rattle.mdl_insn.proofs.Trees.{done_is, after_bind, split_bind, guard_done, number_again, number_is}
use Rattle.mdl_insn.specs.Tree.{Done, ◌>>=◌, after, byte_tree, number_tree, guard}
use Rattle.mdl_insn.specs.Rows.{one_entry, two_entry, member_entry}
use Rattle.mdl_state.specs.Bytes.{little}
use Rattle.mdl_insn.specs.Addresses.{has_modrm, mod_of, reg_of, sib_len, disp_len}
use Rattle.mdl_insn.specs.Operands.{allows, form_allows, lockable, own_len, Place, place, group_locks, entry_lockable}
use Rattle.mdl_insn.specs.Spelling.{insn_of, opcode_entry, opcode_last, IsRow, SpeltRow}
use Rattle.mdl_insn.specs.RowTree.{Head, Chosen, starts, head_of, chosen_of, entry_tree, opcode_tree, member_tree, entry_modrm_tree, modrm_tree, place_of, behind_tree, row_tree}

-- ---- opcodes

pub record IsHead (lock : Bool) (opcode : List ℕ) (h : Head) : Type 0 where
  pub entry : opcode_entry opcode ≡ h.entry
  pub last : opcode_last opcode ≡ h.opcode ∷ []
  pub started : starts lock h.entry ≡ true

one_head : (lock : Bool) (b : ℕ) (e : Entry) (x : List ℕ) (h : Head) → after (entry_tree lock e b) x ≡ Done h → (x ≡ []) × (e ≡ h.entry) × (b ≡ h.opcode) × (starts lock h.entry ≡ true)
one_head lock b e x h q =
    let g = guard_done (starts lock e) (head_of e b) h x q in
    (g.1, ap (λ (k : Head). k.entry) g.2, ap (λ (k : Head). k.opcode) g.2, ap (λ (k : Head). starts lock k.entry) (sym g.2) ∙ g.0)

pub opcode_is : (lock : Bool) (b : ℕ) (x : List ℕ) (h : Head) → after (opcode_tree lock b) x ≡ Done h → IsHead lock (b ∷ x) h
unfolding opcode_tree
opcode_is lock b [] h e =
    elim (b == 0x0F) as (λ v. after (cond v (byte_tree >>= λ c. entry_tree lock (two_entry c) c) (entry_tree lock (one_entry b) b)) [] ≡ Done h → IsHead lock (b ∷ []) h) [
      | true ↦ λ q. absurd cc
      | false ↦ λ q. let p = one_head lock b (one_entry b) [] h q in record { entry = p.1; last = ap (λ n. n ∷ []) p.2; started = p.3 }
    ] e
opcode_is lock b (c ∷ x) h e =
    elim (b == 0x0F) as (λ v. (b == 0x0F) ≡ v → after (cond v (byte_tree >>= λ d. entry_tree lock (two_entry d) d) (entry_tree lock (one_entry b) b)) (c ∷ x) ≡ Done h → IsHead lock (b ∷ c ∷ x) h) [
      | true ↦ λ t q.
          let p = one_head lock c (two_entry c) x h q in
          subst (λ (z : List ℕ). IsHead lock (b ∷ c ∷ z) h) (sym p.0)
          (record { entry = ap (λ v. cond v (two_entry c) Undefined) t ∙ p.1; last = ap (λ n. n ∷ []) p.2; started = p.3 })
      | false ↦ λ t q. let p = one_head lock b (one_entry b) (c ∷ x) h q in absurd (let n = p.0 in cc)
    ] refl e

-- ---- the ModRM byte

pub form_zero : (f : Form) → form_allows f 0 ≡ true
form_zero M = refl
form_zero _ = refl

plain_allows : (s : Setting) (r : Row) → starts s.lock (One r) ≡ true → allows s r 0 ≡ true
plain_allows s r e = rw (form_zero r.a, form_zero r.b) (elim (s.lock) as (λ v. (not v || lockable r) ≡ true → (not v || (lockable r && true)) ≡ true) [ true ↦ λ q. rw q refl | false ↦ λ _. refl ] e)

pub record IsChosen (s : Setting) (e : Entry) (b : ℕ) (x : List ℕ) (c : Chosen) : Type 0 where
  pub row : IsRow e (little x) c.row
  pub len : length x ≡ cond (has_modrm c.row) 1 0
  pub allowed : allows s c.row (little x) ≡ true
  pub modrm : c.modrm ≡ little x
  pub opcode : c.opcode ≡ b

plus_zero : (m : ℕ) → m + 256 * 0 ≡ m
plus_zero m = omega arith

one_chosen : (s : Setting) (r : Row) (b : ℕ) (x : List ℕ) (c : Chosen) → starts s.lock (One r) ≡ true → after (entry_modrm_tree s (One r) b) x ≡ Done c → IsChosen s (One r) b x c
one_chosen s r b [] c st e =
    elim (has_modrm r) as (λ v. has_modrm r ≡ v → after (cond v (byte_tree >>= λ m. guard (allows s r m) (Done (chosen_of r b m))) (Done (chosen_of r b 0))) [] ≡ Done c → IsChosen s (One r) b [] c) [
      | true ↦ λ t q. absurd cc
      | false ↦ λ t q. subst (λ (k : Chosen). IsChosen s (One r) b [] k) (done_is (chosen_of r b 0) c q)
          (record { row = refl; len = sym (ap (λ v. cond v 1 0) t); allowed = plain_allows s r st; modrm = refl; opcode = refl })
    ] refl e
one_chosen s r b (m ∷ x) c st e =
    elim (has_modrm r) as (λ v. has_modrm r ≡ v → after (cond v (byte_tree >>= λ n. guard (allows s r n) (Done (chosen_of r b n))) (Done (chosen_of r b 0))) (m ∷ x) ≡ Done c → IsChosen s (One r) b (m ∷ x) c) [
      | true ↦ λ t q.
          let g = guard_done (allows s r m) (chosen_of r b m) c x q in
          subst (λ (z : List ℕ). IsChosen s (One r) b (m ∷ z) c) (sym g.1) (subst (λ (k : Chosen). IsChosen s (One r) b (m ∷ []) k) g.2
          (record { row = refl; len = sym (ap (λ v. cond v 1 0) t); allowed = ap (λ n. allows s r n) (plus_zero m) ∙ g.0; modrm = sym (plus_zero m); opcode = refl }))
      | false ↦ λ t q. absurd cc
    ] refl e

pub and_true : (a b : Bool) → (a && b) ≡ true → (a ≡ true) × (b ≡ true)
and_true true b e = (refl, e)
and_true false b e = absurd cc

member_chosen : (s : Setting) (g : ℕ) (e : Entry) (b m : ℕ) (x : List ℕ) (c : Chosen) → member_entry g (reg_of m) ≡ e → after (member_tree s e b m) x ≡ Done c → IsChosen s (Group g) b (m ∷ x) c
member_chosen s g Undefined b m [] c t e = absurd cc
member_chosen s g Undefined b m (n ∷ x) c t e = absurd cc
member_chosen s g (Group k) b m [] c t e = absurd cc
member_chosen s g (Group k) b m (n ∷ x) c t e = absurd cc
member_chosen s g (One r) b m x c t e =
    let q = guard_done (allows s r m) (chosen_of r b m) c x e in
    let has = member-modrm g (reg_of m) r t in
    subst (λ (z : List ℕ). IsChosen s (Group g) b (m ∷ z) c) (sym q.1) (subst (λ (k : Chosen). IsChosen s (Group g) b (m ∷ []) k) q.2
    (record { row = ap (λ n. member_entry g (reg_of n)) (plus_zero m) ∙ t; len = sym (ap (λ v. cond v 1 0) has); allowed = ap (λ n. allows s r n) (plus_zero m) ∙ q.0; modrm = sym (plus_zero m); opcode = refl }))

entry_chosen : (s : Setting) (e : Entry) (b : ℕ) (x : List ℕ) (c : Chosen) → starts s.lock e ≡ true → after (entry_modrm_tree s e b) x ≡ Done c → IsChosen s e b x c
entry_chosen s Undefined b x c st e = absurd cc
entry_chosen s (One r) b x c st e = one_chosen s r b x c st e
entry_chosen s (Group g) b [] c st e = absurd cc
entry_chosen s (Group g) b (m ∷ x) c st e = member_chosen s g (member_entry g (reg_of m)) b m x c refl e

pub modrm_is : (s : Setting) (h : Head) (x : List ℕ) (c : Chosen) → starts s.lock h.entry ≡ true → after (modrm_tree s h) x ≡ Done c → IsChosen s h.entry h.opcode x c
unfolding modrm_tree
modrm_is s h x c st e = entry_chosen s h.entry h.opcode x c st e

-- ---- what follows

pub record IsBehind (s : Setting) (c : Chosen) (bytes : List ℕ) (insn : Insn) : Type 0 where
  pub sib : List ℕ
  pub disp : List ℕ
  pub x : List ℕ
  pub y : List ℕ
  pub z : List ℕ
  pub whole : bytes ≡ sib ++ (disp ++ (x ++ (y ++ z)))
  pub sib_length : length sib ≡ sib_len s c.row c.modrm
  pub disp_length : length disp ≡ disp_len s c.row c.modrm (little sib)
  pub x_length : length x ≡ own_len s c.row.a
  pub y_length : length y ≡ own_len s c.row.b
  pub z_length : length z ≡ own_len s c.row.c
  pub insn_is : insn ≡ insn_of s c.row (place_of s c (little sib) (little disp)) (little x) (little y) (little z)

pub behind_again : (s : Setting) (c : Chosen) (bytes : List ℕ) (insn : Insn) → IsBehind s c bytes insn → after (behind_tree s c) bytes ≡ Done insn
unfolding behind_tree
behind_again s c bytes insn h =
    let place = place_of s c (little h.sib) (little h.disp) in
    let last : List ℕ → Type 0 = λ t. after (number_tree (own_len s c.row.c) >>= λ z. Done (insn_of s c.row place (little h.x) (little h.y) z)) t ≡ Done (insn_of s c.row place (little h.x) (little h.y) (little h.z)) in
    let e5 = subst last (append-nil h.z) (after_bind (number_tree (own_len s c.row.c)) (λ z. Done (insn_of s c.row place (little h.x) (little h.y) z)) h.z [] (little h.z) (number_again (own_len s c.row.c) h.z h.z_length)) in
    rw (h.whole, h.insn_is)
    (after_bind (number_tree (sib_len s c.row c.modrm)) _ h.sib _ (little h.sib) (number_again _ h.sib h.sib_length)
    ∙ after_bind (number_tree (disp_len s c.row c.modrm (little h.sib))) _ h.disp _ (little h.disp) (number_again _ h.disp h.disp_length)
    ∙ after_bind (number_tree (own_len s c.row.a)) _ h.x _ (little h.x) (number_again _ h.x h.x_length)
    ∙ after_bind (number_tree (own_len s c.row.b)) _ h.y _ (little h.y) (number_again _ h.y h.y_length)
    ∙ e5)

join : {z y t : List ℕ} (x : List ℕ) → z ≡ x ++ y → y ≡ t → z ≡ x ++ t
join x e f = e ∙ ap (λ (l : List ℕ). x ++ l) f

same_insn : (s : Setting) (c : Chosen) (a a' b b' x x' y y' z z' : ℕ) → a ≡ a' → b ≡ b' → x ≡ x' → y ≡ y' → z ≡ z' → insn_of s c.row (place_of s c a b) x y z ≡ insn_of s c.row (place_of s c a' b') x' y' z'
same_insn s c a a' b b' x x' y y' z z' e1 e2 e3 e4 e5 = rw (e1, e2, e3, e4, e5) refl

pub behind_is : (s : Setting) (c : Chosen) (bytes : List ℕ) (insn : Insn) → after (behind_tree s c) bytes ≡ Done insn → IsBehind s c bytes insn
unfolding behind_tree
behind_is s c bytes insn e =
    let h1 = split_bind (number_tree (sib_len s c.row c.modrm)) _ bytes insn e in
    let n1 = number_is _ h1.x h1.a h1.first in
    let h2 = split_bind (number_tree (disp_len s c.row c.modrm h1.a)) _ h1.y insn h1.second in
    let n2 = number_is _ h2.x h2.a h2.first in
    let h3 = split_bind (number_tree (own_len s c.row.a)) _ h2.y insn h2.second in
    let n3 = number_is _ h3.x h3.a h3.first in
    let h4 = split_bind (number_tree (own_len s c.row.b)) _ h3.y insn h3.second in
    let n4 = number_is _ h4.x h4.a h4.first in
    let h5 = split_bind (number_tree (own_len s c.row.c)) _ h4.y insn h4.second in
    let n5 = number_is _ h5.x h5.a h5.first in
    let g = guard_done true (insn_of s c.row (place_of s c h1.a h2.a) h3.a h4.a h5.a) insn h5.y h5.second in
    let tail : h4.y ≡ h5.x = h5.whole ∙ ap (λ (l : List ℕ). h5.x ++ l) g.1 ∙ append-nil h5.x in
    record {
      sib = h1.x;
      disp = h2.x;
      x = h3.x;
      y = h4.x;
      z = h5.x;
      whole = join h1.x h1.whole (join h2.x h2.whole (join h3.x h3.whole (join h4.x h4.whole tail)));
      sib_length = n1.0;
      disp_length = subst (λ (k : ℕ). length h2.x ≡ disp_len s c.row c.modrm k) n1.1 n2.0;
      x_length = n3.0;
      y_length = n4.0;
      z_length = n5.0;
      insn_is = sym g.2 ∙ same_insn s c h1.a (little h1.x) h2.a (little h2.x) h3.a (little h3.x) h4.a (little h4.x) h5.a (little h5.x) n1.1 n2.1 n3.1 n4.1 n5.1;
    }

-- ---- rows

same_place : (s : Setting) (o p m n sib d : ℕ) → o ≡ p → m ≡ n → place s o m sib d ≡ place s p n sib d
same_place s o p m n sib d e f = rw (e, f) refl

pub row_is : (s : Setting) (b : ℕ) (bytes : List ℕ) (insn : Insn) → after (row_tree s b) bytes ≡ Done insn → SpeltRow s (b ∷ bytes) insn
unfolding row_tree
row_is s b bytes insn e =
    let h1 = split_bind (opcode_tree s.lock b) _ bytes insn e in
    let o = opcode_is s.lock b h1.x h1.a h1.first in
    let h2 = split_bind (modrm_tree s h1.a) _ h1.y insn h1.second in
    let m = modrm_is s h1.a h2.x h2.a o.started h2.first in
    let t = behind_is s h2.a h2.y insn h2.second in
    let code : h2.a.opcode ≡ little (opcode_last (b ∷ h1.x)) = m.opcode ∙ sym (plus_zero h1.a.opcode) ∙ ap little (sym o.last) in
    record {
      opcode = b ∷ h1.x;
      modrm = h2.x;
      sib = t.sib;
      disp = t.disp;
      x = t.x;
      y = t.y;
      z = t.z;
      row = h2.a.row;
      whole = ap (λ (l : List ℕ). b ∷ l) (join h1.x h1.whole (join h2.x h2.whole t.whole));
      is_row = subst (λ (k : Entry). IsRow k (little h2.x) h2.a.row) (sym o.entry) m.row;
      modrm_length = m.len;
      allowed = m.allowed;
      sib_length = subst (λ (k : ℕ). length t.sib ≡ sib_len s h2.a.row k) m.modrm t.sib_length;
      disp_length = subst (λ (k : ℕ). length t.disp ≡ disp_len s h2.a.row k (little t.sib)) m.modrm t.disp_length;
      x_length = t.x_length;
      y_length = t.y_length;
      z_length = t.z_length;
      insn_is = t.insn_is ∙ ap (λ (p : Place). insn_of s h2.a.row p (little t.x) (little t.y) (little t.z))
          (same_place s h2.a.opcode (little (opcode_last (b ∷ h1.x))) h2.a.modrm (little h2.x) (little t.sib) (little t.disp) code m.modrm);
    }

-- ---- the other way

or_true : (a b : Bool) → (not a || b) ≡ true → a ≡ true → b ≡ true
or_true true b e f = e
or_true false b e f = absurd cc

locked : (s : Setting) (r : Row) (m : ℕ) → allows s r m ≡ true → (not s.lock || lockable r) ≡ true
locked s r m e =
    let three = and_true (form_allows r.a m && form_allows r.b m) (not s.lock || (lockable r && nat_lt (mod_of m) 3)) e in
    elim (s.lock) as (λ v. (not v || (lockable r && nat_lt (mod_of m) 3)) ≡ true → (not v || lockable r) ≡ true) [
      | true ↦ λ q. (and_true (lockable r) (nat_lt (mod_of m) 3) q).0
      | false ↦ λ _. refl
    ] three.1

reg_below : (m : ℕ) → reg_of m < 8
reg_below m = omega arith

group_started : (s : Setting) (g : ℕ) (r : Row) (m : ℕ) → member_entry g (reg_of m) ≡ One r → allows s r m ≡ true → starts s.lock (Group g) ≡ true
unfolding group_locks
group_started s g r m e a =
    elim (s.lock) as (λ v. (not v || lockable r) ≡ true → (not v || list_any (λ k. entry_lockable (member_entry g k)) (range_with_len 0 8)) ≡ true) [
      | true ↦ λ q.
          let at : get_or (range_with_len 0 8) (reg_of m) 0 ≡ reg_of m = get_or-range_with_len 0 8 (reg_of m) 0 (reg_below m) ∙ zero-add (reg_of m) in
          list_any_at (λ k. entry_lockable (member_entry g k)) (range_with_len 0 8) (reg_of m) 0 (reg_below m)
          (ap (λ k. entry_lockable (member_entry g k)) at ∙ ap entry_lockable e ∙ q)
      | false ↦ λ _. refl
    ] (locked s r m a)

pub entry_started : (s : Setting) (e : Entry) (m : ℕ) (r : Row) → IsRow e m r → allows s r m ≡ true → starts s.lock e ≡ true
entry_started s Undefined m r h a = absurd h
entry_started s (One one) m r h a = subst (λ (k : Row). (not s.lock || lockable k) ≡ true) (sym h) (locked s r m a)
entry_started s (Group g) m r h a = group_started s g r m h a

abbrev count : Bool → ℕ
count v = cond v 1 0

one_again : (s : Setting) (r : Row) (b : ℕ) (x : List ℕ) → length x ≡ cond (has_modrm r) 1 0 → allows s r (little x) ≡ true → after (entry_modrm_tree s (One r) b) x ≡ Done (chosen_of r b (little x))
one_again s r b [] e a =
    elim (has_modrm r) as (λ v. 0 ≡ count v → after (cond v (byte_tree >>= λ m. guard (allows s r m) (Done (chosen_of r b m))) (Done (chosen_of r b 0))) [] ≡ Done (chosen_of r b 0)) [ true ↦ λ q. absurd (omega (arith, q)) | false ↦ λ _. refl ] e
one_again s r b (m ∷ []) e a =
    elim (has_modrm r) as (λ v. 1 ≡ count v → after (cond v (byte_tree >>= λ n. guard (allows s r n) (Done (chosen_of r b n))) (Done (chosen_of r b 0))) (m ∷ []) ≡ Done (chosen_of r b (m + 256 * 0))) [
      | true ↦ λ _. rw (plus_zero m) (ap (λ v. after (guard v (Done (chosen_of r b m))) []) (sym (ap (λ n. allows s r n) (plus_zero m)) ∙ a))
      | false ↦ λ q. absurd (omega (arith, q))
    ] e
one_again s r b (m ∷ n ∷ x) e a = absurd (elim (has_modrm r) as (λ v. suc (suc (length x)) ≡ count v → ⊥) [ true ↦ λ q. omega (arith, q) | false ↦ λ q. omega (arith, q) ] e)

group_again : (s : Setting) (g : ℕ) (r : Row) (b : ℕ) (x : List ℕ) → member_entry g (reg_of (little x)) ≡ One r → length x ≡ 1 → allows s r (little x) ≡ true → after (entry_modrm_tree s (Group g) b) x ≡ Done (chosen_of r b (little x))
group_again s g r b [] h e a = absurd (omega (arith, e))
group_again s g r b (m ∷ []) h e a =
    let h' : member_entry g (reg_of m) ≡ One r = ap (λ n. member_entry g (reg_of n)) (sym (plus_zero m)) ∙ h in
    let a' : allows s r m ≡ true = sym (ap (λ n. allows s r n) (plus_zero m)) ∙ a in
    ap (λ k. after (member_tree s k b m) []) h' ∙ ap (λ v. after (guard v (Done (chosen_of r b m))) []) a' ∙ ap (λ n. Done (chosen_of r b n)) (sym (plus_zero m))
group_again s g r b (m ∷ n ∷ x) h e a = absurd (omega (arith, e))

modrm_again : (s : Setting) (e : Entry) (b : ℕ) (x : List ℕ) (r : Row) → IsRow e (little x) r → length x ≡ cond (has_modrm r) 1 0 → allows s r (little x) ≡ true → after (entry_modrm_tree s e b) x ≡ Done (chosen_of r b (little x))
modrm_again s Undefined b x r h e a = absurd h
modrm_again s (One one) b x r h e a = subst (λ (k : Row). after (entry_modrm_tree s (One k) b) x ≡ Done (chosen_of r b (little x))) (sym h) (one_again s r b x e a)
modrm_again s (Group g) b x r h e a = group_again s g r b x h (e ∙ ap (λ v. cond v 1 0) (member-modrm g (reg_of (little x)) r h)) a

not_wrong : (m : ℕ) (r : Row) (e : Entry) → e ≡ Undefined → IsRow e m r → ⊥
not_wrong m r e q h = subst (λ (k : Entry). IsRow k m r) q h

escape : one_entry 15 ≡ Undefined
unfolding one_entry
escape = refl

pub opcode_again : (lock : Bool) (b : ℕ) (x : List ℕ) (m : ℕ) (r : Row) → IsRow (opcode_entry (b ∷ x)) m r → starts lock (opcode_entry (b ∷ x)) ≡ true → after (opcode_tree lock b) x ≡ Done (head_of (opcode_entry (b ∷ x)) (little (opcode_last (b ∷ x))))
unfolding opcode_tree
opcode_again lock b [] m r h st =
    elim (b == 0x0F) as (λ v. (b == 0x0F) ≡ v → after (cond v (byte_tree >>= λ c. entry_tree lock (two_entry c) c) (entry_tree lock (one_entry b) b)) [] ≡ Done (head_of (one_entry b) (b + 256 * 0))) [
      | true ↦ λ t. let e : b ≡ 15 = grind (arith, nat_tests) in absurd (not_wrong m r (one_entry b) (ap one_entry e ∙ escape) h)
      | false ↦ λ t. rw (plus_zero b) (ap (λ v. after (guard v (Done (head_of (one_entry b) b))) []) st)
    ] refl
opcode_again lock b (c ∷ []) m r h st =
    elim (b == 0x0F) as (λ v. (b == 0x0F) ≡ v → IsRow (cond v (two_entry c) Undefined) m r → starts lock (cond v (two_entry c) Undefined) ≡ true → after (cond v (byte_tree >>= λ d. entry_tree lock (two_entry d) d) (entry_tree lock (one_entry b) b)) (c ∷ []) ≡ Done (head_of (cond v (two_entry c) Undefined) (c + 256 * 0))) [
      | true ↦ λ t k q. rw (plus_zero c) (ap (λ v. after (guard v (Done (head_of (two_entry c) c))) []) q)
      | false ↦ λ t k q. absurd k
    ] refl h st
opcode_again lock b (c ∷ d ∷ x) m r h st = absurd h

pub row_again : (s : Setting) (b : ℕ) (bytes opcode modrm tail : List ℕ) (row : Row) (insn : Insn) → bytes ≡ opcode ++ (modrm ++ tail) → IsRow (opcode_entry (b ∷ opcode)) (little modrm) row → length modrm ≡ cond (has_modrm row) 1 0 → allows s row (little modrm) ≡ true → IsBehind s (chosen_of row (little (opcode_last (b ∷ opcode))) (little modrm)) tail insn → after (row_tree s b) bytes ≡ Done insn
unfolding row_tree modrm_tree
row_again s b bytes opcode modrm tail row insn whole is len ok behind =
    let e = opcode_entry (b ∷ opcode) in
    let op = little (opcode_last (b ∷ opcode)) in
    ap (λ (z : List ℕ). after (row_tree s b) z) whole
    ∙ after_bind (opcode_tree s.lock b) (λ h. modrm_tree s h >>= λ c. behind_tree s c) opcode (modrm ++ tail) (head_of e op) (opcode_again s.lock b opcode (little modrm) row is (entry_started s e (little modrm) row is ok))
    ∙ after_bind (entry_modrm_tree s e op) (λ c. behind_tree s c) modrm tail (chosen_of row op (little modrm)) (modrm_again s e op modrm row is len ok)
    ∙ behind_again s (chosen_of row op (little modrm)) tail insn behind

-- what a row spells begins with the byte that the tree begins behind
pub record Reads (s : Setting) (bytes : List ℕ) (insn : Insn) : Type 0 where
  pub b : ℕ
  pub rest : List ℕ
  pub whole : bytes ≡ b ∷ rest
  pub reads : after (row_tree s b) rest ≡ Done insn

reads_at : (s : Setting) (bytes opcode modrm tail : List ℕ) (row : Row) (insn : Insn) → bytes ≡ opcode ++ (modrm ++ tail) → IsRow (opcode_entry opcode) (little modrm) row → length modrm ≡ cond (has_modrm row) 1 0 → allows s row (little modrm) ≡ true → IsBehind s (chosen_of row (little (opcode_last opcode)) (little modrm)) tail insn → Reads s bytes insn
reads_at s bytes [] modrm tail row insn whole is len ok behind = absurd is
reads_at s bytes (b ∷ opcode) modrm tail row insn whole is len ok behind =
    record { b = b; rest = opcode ++ (modrm ++ tail); whole = whole; reads = row_again s b (opcode ++ (modrm ++ tail)) opcode modrm tail row insn refl is len ok behind }

pub spelt_reads : (s : Setting) (bytes : List ℕ) (insn : Insn) → SpeltRow s bytes insn → Reads s bytes insn
spelt_reads s bytes insn h =
    reads_at s bytes h.opcode h.modrm (h.sib ++ (h.disp ++ (h.x ++ (h.y ++ h.z)))) h.row insn h.whole h.is_row h.modrm_length h.allowed
    (record { sib = h.sib; disp = h.disp; x = h.x; y = h.y; z = h.z; whole = refl; sib_length = h.sib_length; disp_length = h.disp_length; x_length = h.x_length; y_length = h.y_length; z_length = h.z_length; insn_is = h.insn_is })
