-- From what a reader did to what it means.
use Rattle.std.proofs.Common.{◌≡◌, ◌≢◌, ℕ, ◌+◌, ◌<◌, ◌≤◌, Bool, true, false, List, [], ◌∷◌, ◌++◌, length, refl, sym, ap, subst, ◌∙◌, arith, append_assoc, Result, Ok, Err, ◌⊎◌, inl, inr, cond}
use Rattle.std.specs.Prelude.{Some, None}
use Rattle.std.proofs.lemmas.List.{append-nil, length-append}
use Rattle.mdl_state.specs.declared.Fault.{Fault}
use Rattle.mdl_insn.specs.declared.instruction.Insn.{Insn}
use Rattle.mdl_insn.specs.declared.rows.Setting.{Setting}
use Rattle.insn_decode.specs.declared.refusals.Undecoded.{Undecoded}
use Rattle.insn_decode.specs.declared.refusals.Undecoded.TheVariants as causes
use Rattle.mdl_insn.specs.Tree.{Tree, Done, Fail, Take, after, IsBytes}
use Rattle.mdl_insn.specs.Prefixes.{is_prefix, setting}
use Rattle.mdl_insn.specs.Spelling.{Spelt, Begun, SpeltRow}
use Rattle.insn_decode.specs.Reading.{Runs, with_prefix, prefix_step}
use Rattle.mdl_insn.specs.RowTree.{row_tree}
use Rattle.insn_decode.specs.Decoded.{Came, Takes, IsUndefined, IsLong, IsCut, Refused}
use Rattle.mdl_insn.proofs.Grammar.{row_is}
use Rattle.insn_decode.proofs.Trims.{Live, Trim, rest_trim, append_fit}
use Rattle.mdl_insn.proofs.PrefixEnds.{rest_tree, ArePrefixes, one_end, parts_of}
use Rattle.insn_decode.proofs.PrefixSteps.{setting-push}

-- ---- bytes that came

pub came_more : {S : Type 0} (gives : S → Result ℕ Fault → S → Type 0) (s : S) (x y : List ℕ) (m e : S) → Came gives s x m → Came gives m y e → Came gives s (x ++ y) e
came_more gives s [] y m e p q = subst (λ z. Came gives z y e) p q
came_more gives s (b ∷ x) y m e p q = (p.0, p.1, came_more gives p.0 x y m e p.2 q)

-- what a reader took where it gave a value
pub record Gave {S A : Type 0} (gives : S → Result ℕ Fault → S → Type 0) (t : Tree A) (n : ℕ) (s : S) (a : A) (m : ℕ) (e : S) : Type 0 where
  pub bytes : List ℕ
  pub came : Came gives s bytes e
  pub fit : IsBytes bytes
  pub leads : after t bytes ≡ Done a
  pub count : m ≡ n + length bytes

pub gave_of : {S A : Type 0} (gives : S → Result ℕ Fault → S → Type 0) (t : Tree A) (n : ℕ) (s : S) (a : A) (m : ℕ) (e : S) → Runs gives t n s (Ok a) m e → Gave gives t n s a m e
unfolding Runs
gave_of gives (Done b) n s a m e h = record { bytes = []; came = h.2; fit = tt; leads = cc; count = omega (arith, h.1) }
gave_of gives Fail n s a m e h = absurd cc
gave_of gives (Take k) n s a m e (inl h) = absurd cc
gave_of gives (Take k) n s a m e (inr (inl h)) = absurd cc
gave_of gives (Take k) n s a m e (inr (inr h)) =
    let g = gave_of gives (k h.0) (n + 1) h.1 a m e h.5 in
    let c = g.count in
    record { bytes = h.0 ∷ g.bytes; came = (h.1, h.4, g.came); fit = (h.3, g.fit); leads = g.leads; count = omega arith }

abbrev pub Asks : {A : Type 0} → Tree A → Type 0
Asks (Done a) = ⊥
Asks Fail = ⊥
Asks (Take k) = Unit {0}

-- why a reader stopped
abbrev pub Stopped : {S A : Type 0} → (S → Result ℕ Fault → S → Type 0) → Tree A → ℕ → S → Undecoded → S → Type 0
Stopped gives t n s causes.Undefined e = (front : List ℕ) × (last : ℕ) × Came gives s (front ++ last ∷ []) e × IsBytes (front ++ last ∷ []) × Asks (after t front) × (after t (front ++ last ∷ []) ≡ Fail) × (n + length front < 15)
Stopped gives t n s causes.TooLong e = (bytes : List ℕ) × Came gives s bytes e × IsBytes bytes × Asks (after t bytes) × (n + length bytes ≡ 15)
Stopped gives t n s (causes.Fetch f) e = (bytes : List ℕ) × (mid : _) × Came gives s bytes mid × IsBytes bytes × Asks (after t bytes) × (n + length bytes < 15) × gives mid (Err f) e

-- a byte before it
stopped_more : {S A : Type 0} (gives : S → Result ℕ Fault → S → Type 0) (k : ℕ → Tree A) (n : ℕ) (s : S) (b : ℕ) (mid : S) (x : Undecoded) (e : S) → gives s (Ok b) mid → b < 256 → Stopped gives (k b) (n + 1) mid x e → Stopped gives (Take k) n s x e
stopped_more gives k n s b mid causes.Undefined e g lt h = (b ∷ h.0, h.1, (mid, g, h.2), (lt, h.3), h.4, h.5, (let q = h.6 in omega arith))
stopped_more gives k n s b mid causes.TooLong e g lt h = (b ∷ h.0, (mid, g, h.1), (lt, h.2), h.3, (let q = h.4 in omega arith))
stopped_more gives k n s b mid (causes.Fetch f) e g lt h = (b ∷ h.0, h.1, (mid, g, h.2), (lt, h.3), h.4, (let q = h.5 in omega arith), h.6)

-- why a reader stopped; or it had failed before
stopped_or : {S A : Type 0} (gives : S → Result ℕ Fault → S → Type 0) (t : Tree A) (n : ℕ) (s : S) (x : Undecoded) (m : ℕ) (e : S) → Runs gives t n s (Err x) m e → Stopped gives t n s x e ⊎ ((t ≡ Fail) × (x ≡ causes.Undefined) × (e ≡ s))
unfolding Runs
stopped_or gives (Done a) n s x m e h = absurd cc
stopped_or gives Fail n s x m e h = inr (refl, cc, h.2)
stopped_or gives (Take k) n s x m e (inl h) =
    let q : causes.TooLong ≡ x = cc in
    inl (subst (λ (y : Undecoded). Stopped gives (Take k) n s y e) q ([], h.3, tt, tt, omega (arith, h.0)))
stopped_or gives (Take k) n s x m e (inr (inl h)) =
    let q : causes.Fetch h.0 ≡ x = cc in
    inl (subst (λ (y : Undecoded). Stopped gives (Take k) n s y e) q ([], s, refl, tt, tt, omega (arith, h.1), h.2))
stopped_or gives (Take k) n s x m e (inr (inr h)) =
    elim (stopped_or gives (k h.0) (n + 1) h.1 x m e h.5) [
      | inl st ↦ inl (stopped_more gives k n s h.0 h.1 x e h.4 h.3 st)
      | inr f ↦
          inl (subst (λ (y : Undecoded). Stopped gives (Take k) n s y e) (sym f.1) ([], h.0, (h.1, h.4, f.2), (h.3, tt), tt, f.0, omega (arith, h.2)))
    ]

fails : {A : Type 0} (y : List ℕ) → let t : Tree A = Fail in t ≡ after t y
fails [] = refl
fails (b ∷ y) = refl

-- ---- begun, and neither begun nor spelt

after_append : {A : Type 0} (t : Tree A) (x y : List ℕ) → after t (x ++ y) ≡ after (after t x) y
after_append t [] y = refl
after_append (Done a) (b ∷ x) y = fails y
after_append Fail (b ∷ x) y = fails y
after_append (Take k) (b ∷ x) y = after_append (k b) x y

trim_after : {A : Type 0} (t : Tree A) (x : List ℕ) → Trim t → IsBytes x → Trim (after t x)
trim_after t [] h fit = h
trim_after (Done a) (b ∷ x) h fit = tt
trim_after Fail (b ∷ x) h fit = tt
trim_after (Take k) (b ∷ x) h fit = trim_after (k b) x (h.1 b fit.0) fit.1

live_asks : {A : Type 0} (t : Tree A) → Trim t → Asks t → Live t
live_asks (Done a) h q = absurd q
live_asks Fail h q = absurd q
live_asks (Take k) h q = h.0

rest_is : (s : Setting) (z : List ℕ) (i : Insn) → after (rest_tree s) z ≡ Done i → SpeltRow s z i
rest_is s [] i e = absurd cc
rest_is s (b ∷ z) i e = row_is s b z i e

ends_not : {A : Type 0} (t : Tree A) (x : List ℕ) (a : A) → Asks t → after t x ≡ Done a → x ≢ []
ends_not (Done b) x a q e n = absurd q
ends_not Fail x a q e n = absurd q
ends_not (Take k) [] a q e n = absurd cc
ends_not (Take k) (b ∷ x) a q e n = absurd cc

pub begun_at : (big : Bool) (ps front : List ℕ) → ArePrefixes ps → IsBytes ps → IsBytes front → Asks (after (rest_tree (setting big ps)) front) → Begun (ps ++ front) big
begun_at big ps front are fit fits q =
    let s = setting big ps in
    let l = live_asks (after (rest_tree s) front) (trim_after (rest_tree s) front (rest_trim s) fits) q in
    let reads : after (rest_tree s) (front ++ l.bytes) ≡ Done l.end = after_append (rest_tree s) front l.bytes ∙ l.leads in
    record {
      more = l.bytes;
      insn = l.end;
      goes_on = ends_not (after (rest_tree s) front) l.bytes l.end q l.leads;
      spelt = record {
        prefixes = ps;
        rest = front ++ l.bytes;
        whole = append_assoc ps front l.bytes;
        bytes_fit = append_fit (ps ++ front) l.bytes (append_fit ps front fit fits) l.fit;
        are_prefixes = are;
        row = rest_is s (front ++ l.bytes) l.end reads;
      };
    }

clash : (i : Insn) (t : Tree Insn) → t ≡ Fail → t ≡ Done i → ⊥
clash i t f d = cc

-- where the tree has failed nothing is spelt any more, whatever follows
pub dead_at : (big : Bool) (ps w more : List ℕ) (b : ℕ) (i : Insn) → ArePrefixes ps → is_prefix b ≡ false → after (row_tree (setting big ps) b) w ≡ Fail → Spelt ((ps ++ (b ∷ w)) ++ more) big i → ⊥
dead_at big ps w more b i are none e h =
    let p = parts_of ((ps ++ (b ∷ w)) ++ more) big i h in
    let o = one_end p.ps ps p.rest (w ++ more) p.b b p.are are p.none none (sym p.whole ∙ append_assoc ps (b ∷ w) more) in
    let r : after (rest_tree (setting big p.ps)) (p.b ∷ p.rest) ≡ Done i = p.reads in
    let r2 : after (rest_tree (setting big ps)) (b ∷ (w ++ more)) ≡ Done i =
    sym (ap (λ (z : List ℕ). after (rest_tree (setting big ps)) z) o.1) ∙ subst (λ (z : List ℕ). after (rest_tree (setting big z)) (p.b ∷ p.rest) ≡ Done i) o.0 r in
    let f : after (row_tree (setting big ps) b) (w ++ more) ≡ Fail = after_append (row_tree (setting big ps) b) w more ∙ ap (λ t. after t more) e ∙ sym (fails more) in
    absurd (clash i (after (row_tree (setting big ps) b) (w ++ more)) f r2)

pub not_begun_at : (big : Bool) (ps w : List ℕ) (b : ℕ) → ArePrefixes ps → is_prefix b ≡ false → after (row_tree (setting big ps) b) w ≡ Fail → Begun (ps ++ (b ∷ w)) big → ⊥
not_begun_at big ps w b are none e h = dead_at big ps w h.more b h.insn are none e h.spelt

pub not_spelt_at : (big : Bool) (ps w : List ℕ) (b : ℕ) (i : Insn) → ArePrefixes ps → is_prefix b ≡ false → after (row_tree (setting big ps) b) w ≡ Fail → Spelt (ps ++ (b ∷ w)) big i → ⊥
not_spelt_at big ps w b i are none e h = dead_at big ps w [] b i are none e (subst (λ (z : List ℕ). Spelt z big i) (sym (append-nil (ps ++ (b ∷ w)))) h)

-- ---- the loop over the prefixes

pub record Prefixed {S : Type 0} (gives : S → Result ℕ Fault → S → Type 0) (big : Bool) (s e : S) (taken : ℕ) (st : Setting) : Type 0 where
  pub ps : List ℕ
  pub came : Came gives s ps e
  pub fit : IsBytes ps
  pub are : ArePrefixes ps
  pub len : length ps ≡ taken
  pub setting_is : st ≡ setting big ps

pub prefixed_none : {S : Type 0} (gives : S → Result ℕ Fault → S → Type 0) (big : Bool) (s : S) (st : Setting) → st ≡ setting big [] → Prefixed gives big s s 0 st
prefixed_none gives big s st e = record { ps = []; came = refl; fit = tt; are = tt; len = refl; setting_is = e }

are_more : (ps : List ℕ) (b : ℕ) → ArePrefixes ps → is_prefix b ≡ true → ArePrefixes (ps ++ b ∷ [])
are_more [] b h e = (e, tt)
are_more (p ∷ ps) b h e = (h.0, are_more ps b h.1 e)

pub step_some : (big : Bool) (st : Setting) (b : ℕ) (next : Setting) → prefix_step big st b ≡ Some next → (is_prefix b ≡ true) × (with_prefix big st b ≡ next)
step_some big st b next q =
    elim (is_prefix b) as (λ v. (cond v (Some (with_prefix big st b)) None) ≡ Some next → (v ≡ true) × (with_prefix big st b ≡ next)) [ true ↦ λ p. (refl, cc) | false ↦ λ p. absurd cc ] q

pub step_none : (big : Bool) (st : Setting) (b : ℕ) → prefix_step big st b ≡ None → is_prefix b ≡ false
step_none big st b q =
    elim (is_prefix b) as (λ v. (cond v (Some (with_prefix big st b)) None) ≡ None → v ≡ false) [ true ↦ λ p. absurd cc | false ↦ λ p. refl ] q

pub prefixed_more : {S : Type 0} (gives : S → Result ℕ Fault → S → Type 0) (big : Bool) (s e mid : S) (taken b : ℕ) (st next : Setting) → Prefixed gives big s e taken st → gives e (Ok b) mid → b < 256 → prefix_step big st b ≡ Some next → Prefixed gives big s mid (taken + 1) next
prefixed_more gives big s e mid taken b st next h g lt q =
    let two = step_some big st b next q in
    let l = h.len in
    record {
      ps = h.ps ++ b ∷ [];
      came = came_more gives s h.ps (b ∷ []) e mid h.came (mid, g, refl);
      fit = append_fit h.ps (b ∷ []) h.fit (lt, tt);
      are = are_more h.ps b h.are two.0;
      len = length-append h.ps (b ∷ []) ∙ (omega arith);
      setting_is = sym two.1 ∙ ap (λ (k : Setting). with_prefix big k b) h.setting_is ∙ sym (setting-push big h.ps b);
    }

-- ---- the four ends of decoding

pub ends_ok : {S : Type 0} (gives : S → Result ℕ Fault → S → Type 0) (big : Bool) (s mid0 mid : S) (taken b : ℕ) (st : Setting) (i : Insn) (m : ℕ) (e : S) → Prefixed gives big s mid0 taken st → gives mid0 (Ok b) mid → b < 256 → m ≤ 15 → Runs gives (row_tree st b) (taken + 1) mid (Ok i) m e → Takes gives big s i m e
ends_ok gives big s mid0 mid taken b st i m e h g lt le r =
    let v = gave_of gives (row_tree st b) (taken + 1) mid i m e r in
    let l = h.len in
    let c = v.count in
    let reads : after (row_tree (setting big h.ps) b) v.bytes ≡ Done i = subst (λ (k : Setting). after (row_tree k b) v.bytes ≡ Done i) h.setting_is v.leads in
    record {
      bytes = h.ps ++ (b ∷ v.bytes);
      came = came_more gives s h.ps (b ∷ v.bytes) mid0 e h.came (mid, g, v.came);
      spelt = record { prefixes = h.ps; rest = b ∷ v.bytes; whole = refl; bytes_fit = append_fit h.ps (b ∷ v.bytes) h.fit (lt, v.fit); are_prefixes = h.are; row = row_is (setting big h.ps) b v.bytes i reads };
      len_is = length-append h.ps (b ∷ v.bytes) ∙ (omega arith);
      within = le;
    }

pub ends_cut : {S : Type 0} (gives : S → Result ℕ Fault → S → Type 0) (big : Bool) (s mid : S) (taken : ℕ) (st : Setting) (f : Fault) (e : S) → Prefixed gives big s mid taken st → taken < 15 → gives mid (Err f) e → IsCut gives big s f e
ends_cut gives big s mid taken st f e h lt g =
    let l = h.len in
    record { bytes = h.ps; mid = mid; came = h.came; begun = subst (λ (z : List ℕ). Begun z big) (append-nil h.ps) (begun_at big h.ps [] h.are h.fit tt tt); within = omega arith; fails = g }

pub ends_long : {S : Type 0} (gives : S → Result ℕ Fault → S → Type 0) (big : Bool) (s e : S) (st : Setting) → Prefixed gives big s e 15 st → IsLong gives big s e
ends_long gives big s e st h =
    record { bytes = h.ps; came = h.came; begun = subst (λ (z : List ℕ). Begun z big) (append-nil h.ps) (begun_at big h.ps [] h.are h.fit tt tt); len_is = h.len }

fit_front : (x y : List ℕ) → IsBytes (x ++ y) → IsBytes x
fit_front [] y h = tt
fit_front (b ∷ x) y h = (h.0, fit_front x y h.1)

stopped_refused : {S : Type 0} (gives : S → Result ℕ Fault → S → Type 0) (big : Bool) (s mid0 mid : S) (taken b : ℕ) (st : Setting) (x : Undecoded) (e : S) → Prefixed gives big s mid0 taken st → gives mid0 (Ok b) mid → b < 256 → is_prefix b ≡ false → Stopped gives (row_tree st b) (taken + 1) mid x e → Refused gives big s x e
stopped_refused gives big s mid0 mid taken b st causes.Undefined e h g lt n w =
    let front = w.0 in
    let last = w.1 in
    let l = h.len in
    let l2 = length-append h.ps (b ∷ front) in
    let c = w.6 in
    let asks : Asks (after (row_tree (setting big h.ps) b) front) = subst (λ (k : Setting). Asks (after (row_tree k b) front)) h.setting_is w.4 in
    let fails : after (row_tree (setting big h.ps) b) (front ++ last ∷ []) ≡ Fail = subst (λ (k : Setting). after (row_tree k b) (front ++ last ∷ []) ≡ Fail) h.setting_is w.5 in
    let same : h.ps ++ (b ∷ (front ++ last ∷ [])) ≡ (h.ps ++ (b ∷ front)) ++ last ∷ [] = sym (append_assoc h.ps (b ∷ front) (last ∷ [])) in
    record {
      front = h.ps ++ (b ∷ front);
      last = last;
      came = subst (λ (z : List ℕ). Came gives s z e) same (came_more gives s h.ps (b ∷ (front ++ last ∷ [])) mid0 e h.came (mid, g, w.2));
      begun = begun_at big h.ps (b ∷ front) h.are h.fit (lt, fit_front front (last ∷ []) w.3) asks;
      not_begun = subst (λ (z : List ℕ). Begun z big → ⊥) same (not_begun_at big h.ps (front ++ last ∷ []) b h.are n fails);
      not_spelt = subst (λ (z : List ℕ). (i : Insn) → Spelt z big i → ⊥) same (λ i. not_spelt_at big h.ps (front ++ last ∷ []) b i h.are n fails);
      within = omega arith;
    }
stopped_refused gives big s mid0 mid taken b st causes.TooLong e h g lt n w =
    let l = h.len in
    let l2 = length-append h.ps (b ∷ w.0) in
    let c = w.4 in
    record {
      bytes = h.ps ++ (b ∷ w.0);
      came = came_more gives s h.ps (b ∷ w.0) mid0 e h.came (mid, g, w.1);
      begun = begun_at big h.ps (b ∷ w.0) h.are h.fit (lt, w.2) (subst (λ (k : Setting). Asks (after (row_tree k b) w.0)) h.setting_is w.3);
      len_is = omega arith;
    }
stopped_refused gives big s mid0 mid taken b st (causes.Fetch f) e h g lt n w =
    let l = h.len in
    let l2 = length-append h.ps (b ∷ w.0) in
    let c = w.5 in
    record {
      bytes = h.ps ++ (b ∷ w.0);
      mid = w.1;
      came = came_more gives s h.ps (b ∷ w.0) mid0 w.1 h.came (mid, g, w.2);
      begun = begun_at big h.ps (b ∷ w.0) h.are h.fit (lt, w.3) (subst (λ (k : Setting). Asks (after (row_tree k b) w.0)) h.setting_is w.4);
      within = omega arith;
      fails = w.6;
    }

pub ends_err : {S : Type 0} (gives : S → Result ℕ Fault → S → Type 0) (big : Bool) (s mid0 mid : S) (taken b : ℕ) (st : Setting) (x : Undecoded) (m : ℕ) (e : S) → Prefixed gives big s mid0 taken st → gives mid0 (Ok b) mid → b < 256 → is_prefix b ≡ false → taken < 15 → Runs gives (row_tree st b) (taken + 1) mid (Err x) m e → Refused gives big s x e
ends_err gives big s mid0 mid taken b st x m e h g lt n le r =
    elim (stopped_or gives (row_tree st b) (taken + 1) mid x m e r) [
      | inl w ↦ stopped_refused gives big s mid0 mid taken b st x e h g lt n w
      | inr f ↦
          let l = h.len in
          let fails : after (row_tree (setting big h.ps) b) [] ≡ Fail = subst (λ (k : Setting). row_tree k b ≡ Fail) h.setting_is f.0 in
          let wrong : IsUndefined gives big s e = record {
            front = h.ps;
            last = b;
            came = came_more gives s h.ps (b ∷ []) mid0 e h.came (mid, g, f.2);
            begun = subst (λ (z : List ℕ). Begun z big) (append-nil h.ps) (begun_at big h.ps [] h.are h.fit tt tt);
            not_begun = not_begun_at big h.ps [] b h.are n fails;
            not_spelt = λ i. not_spelt_at big h.ps [] b i h.are n fails;
            within = omega arith;
          } in
          subst (λ (y : Undecoded). Refused gives big s y e) (sym f.1) wrong
    ]

no_list : (ps : List ℕ) → length ps ≡ 0 → ps ≡ []
no_list [] e = refl
no_list (p ∷ ps) e = absurd (omega (arith, e))

-- before any prefix
pub none_taken : {S : Type 0} (gives : S → Result ℕ Fault → S → Type 0) (big : Bool) (s e : S) (taken : ℕ) (st : Setting) → Prefixed gives big s e taken st → taken ≡ 0 → st ≡ setting big []
none_taken gives big s e taken st h z = h.setting_is ∙ ap (λ (ps : List ℕ). setting big ps) (no_list h.ps (h.len ∙ z))
