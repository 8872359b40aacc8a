-- Where the prefixes end; and the law of the spelling.
use Rattle.std.proofs.Common.{◌≡◌, ℕ, zero, suc, ◌<◌, Bool, true, false, cond, not, ◌&&◌, ◌||◌, List, [], ◌∷◌, ◌++◌, length, refl, sym, ap, subst, ◌∙◌, arith, append_assoc, get_or, zero-add}
use Rattle.std.specs.Prelude.{◌==◌, IsTrue}
use Rattle.std.specs.List.{AllByRecursion, list_all, range_with_len}
use Rattle.std.proofs.lemmas.List.{append-nil}
use Rattle.std.proofs.lemmas.List.FromFn.{get_or-range_with_len}
use Rattle.mdl_insn.specs.declared.instruction.Insn.{Insn}
use Rattle.mdl_insn.specs.declared.rows.Setting.{Setting}
use Rattle.mdl_insn.specs.declared.rows.Row.{Row}
use Rattle.mdl_insn.specs.declared.rows.Entry.{Entry}
use Rattle.mdl_insn.specs.declared.rows.Entry.TheVariants.{Undefined, One, Group}
use Rattle.mdl_insn.proofs.Trees.{split_bind, one_way}
use Rattle.mdl_insn.proofs.Grammar.{opcode_is, and_true, spelt_reads}
use Rattle.mdl_insn.specs.Tree.{Tree, Done, Take, ◌>>=◌, after, IsBytes}
use Rattle.mdl_insn.specs.Rows.{one_entry, two_entry}
use Rattle.mdl_insn.specs.Prefixes.{is_prefix, setting}
use Rattle.mdl_insn.specs.Spelling.{opcode_entry, Spelt}
use Rattle.mdl_insn.specs.RowTree.{starts, opcode_tree, modrm_tree, behind_tree, row_tree}

abbrev pub ArePrefixes : List ℕ → Type 0
ArePrefixes ps = AllByRecursion (λ b. IsTrue (is_prefix b)) ps

-- ---- no row begins with a prefix

pub all_in : (p : ℕ → Bool) (xs : List ℕ) (i : ℕ) → list_all p xs ≡ true → i < length xs → p (get_or xs i 0) ≡ true
all_in p [] i e lt = absurd (omega arith)
all_in p (x ∷ xs) zero e lt = (and_true (p x) (list_all p xs) e).0
all_in p (x ∷ xs) (suc i) e lt = all_in p xs i (and_true (p x) (list_all p xs) e).1 (omega arith)

abbrev is_undefined : Entry → Bool
is_undefined Undefined = true
is_undefined _ = false

abbrev prefix_test : ℕ → Bool
prefix_test b = not (is_prefix b) || (is_undefined (one_entry b) && not (b == 0x0F))

prefixes_tested : list_all prefix_test (range_with_len 0 256) ≡ true
unfolding one_entry
prefixes_tested = refl

undefined_starts : (lock : Bool) (e : Entry) → is_undefined e ≡ true → starts lock e ≡ true → ⊥
undefined_starts lock Undefined w s = cc
undefined_starts lock (One r) w s = cc
undefined_starts lock (Group g) w s = cc

no_head : (lock : Bool) (b : ℕ) (x : List ℕ) → is_undefined (one_entry b) ≡ true → not (b == 0x0F) ≡ true → starts lock (opcode_entry (b ∷ x)) ≡ true → ⊥
no_head lock b [] w n e = undefined_starts lock (one_entry b) w e
no_head lock b (c ∷ []) w n e = elim (b == 0x0F) as (λ v. not v ≡ true → starts lock (cond v (two_entry c) Undefined) ≡ true → ⊥) [ true ↦ λ p q. cc | false ↦ λ p q. cc ] n e
no_head lock b (c ∷ d ∷ x) w n e = cc

-- a byte that rows begin with is no prefix
pub starts_no_row : (s : Setting) (b : ℕ) (bytes : List ℕ) (insn : Insn) → b < 256 → after (row_tree s b) bytes ≡ Done insn → is_prefix b ≡ false
unfolding row_tree
starts_no_row s b bytes insn lt e =
    let h = split_bind (opcode_tree s.lock b) (λ h. modrm_tree s h >>= λ c. behind_tree s c) bytes insn e in
    let o = opcode_is s.lock b h.x h.a h.first in
    let t0 = all_in prefix_test (range_with_len 0 256) b prefixes_tested lt in
    let t : prefix_test b ≡ true = subst (λ (k : ℕ). prefix_test k ≡ true) (get_or-range_with_len 0 256 b 0 lt ∙ zero-add b) t0 in
    elim (is_prefix b) as (λ v. (not v || (is_undefined (one_entry b) && not (b == 0x0F))) ≡ true → v ≡ false) [
      | true ↦ λ q.
          let two = and_true (is_undefined (one_entry b)) (not (b == 0x0F)) q in
          absurd (no_head s.lock b h.x two.0 two.1 (ap (λ k. starts s.lock k) o.entry ∙ o.started))
      | false ↦ λ _. refl
    ] t

-- ---- the whole spelling

no_both : (b : Bool) → b ≡ true → b ≡ false → ⊥
no_both true p q = cc
no_both false p q = cc

-- prefixes, and a byte that is none: there they end
pub one_end : (ps qs u v : List ℕ) (b c : ℕ) → ArePrefixes ps → ArePrefixes qs → is_prefix b ≡ false → is_prefix c ≡ false → ps ++ (b ∷ u) ≡ qs ++ (c ∷ v) → (ps ≡ qs) × (b ∷ u ≡ c ∷ v)
one_end [] [] u v b c p q hb hc e = (refl, e)
one_end [] (y ∷ qs) u v b c p q hb hc e = let same : b ≡ y = cc in absurd (let t : is_prefix y ≡ true = q.0 in let f : is_prefix y ≡ false = sym (ap is_prefix same) ∙ hb in no_both (is_prefix y) t f)
one_end (x ∷ ps) [] u v b c p q hb hc e = let same : c ≡ x = cc in absurd (let t : is_prefix x ≡ true = p.0 in let f : is_prefix x ≡ false = sym (ap is_prefix same) ∙ hc in no_both (is_prefix x) t f)
one_end (x ∷ ps) (y ∷ qs) u v b c p q hb hc e =
    let same : x ≡ y = cc in
    let rest : ps ++ (b ∷ u) ≡ qs ++ (c ∷ v) = cc in
    let r = one_end ps qs u v b c p.1 q.1 hb hc rest in
    (cc, r.1)

pub fit_back : (x y : List ℕ) → IsBytes (x ++ y) → IsBytes y
fit_back [] y h = h
fit_back (b ∷ x) y h = fit_back x y h.1

-- a spelling by its parts, the first byte behind the prefixes by itself
pub record SpeltParts (bytes : List ℕ) (big : Bool) (insn : Insn) : Type 0 where
  pub ps : List ℕ
  pub b : ℕ
  pub rest : List ℕ
  pub whole : bytes ≡ ps ++ (b ∷ rest)
  pub are : ArePrefixes ps
  pub none : is_prefix b ≡ false
  pub reads : after (row_tree (setting big ps) b) rest ≡ Done insn

pub parts_of : (bytes : List ℕ) (big : Bool) (insn : Insn) → Spelt bytes big insn → SpeltParts bytes big insn
parts_of bytes big insn h =
    let r = spelt_reads (setting big h.prefixes) h.rest insn h.row in
    let whole : bytes ≡ h.prefixes ++ (r.b ∷ r.rest) = h.whole ∙ ap (λ (z : List ℕ). h.prefixes ++ z) r.whole in
    let fit : IsBytes (r.b ∷ r.rest) = fit_back h.prefixes (r.b ∷ r.rest) (subst (λ (z : List ℕ). IsBytes z) whole h.bytes_fit) in
    record { ps = h.prefixes; b = r.b; rest = r.rest; whole = whole; are = h.are_prefixes; none = starts_no_row (setting big h.prefixes) r.b r.rest insn fit.0 r.reads; reads = r.reads }

-- what stands behind the prefixes
abbrev pub rest_tree : Setting → Tree Insn
rest_tree s = Take (λ b. row_tree s b)

-- two spellings that begin one list are one
pub one_spelling : (x y u v : List ℕ) (big : Bool) (i j : Insn) → Spelt x big i → Spelt y big j → x ++ u ≡ y ++ v → (x ≡ y) × (i ≡ j)
one_spelling x y u v big i j hx hy e =
    let p = parts_of x big i hx in
    let q = parts_of y big j hy in
    let whole : p.ps ++ (p.b ∷ (p.rest ++ u)) ≡ q.ps ++ (q.b ∷ (q.rest ++ v)) =
    sym (append_assoc p.ps (p.b ∷ p.rest) u) ∙ ap (λ (z : List ℕ). z ++ u) (sym p.whole) ∙ e ∙ ap (λ (z : List ℕ). z ++ v) q.whole ∙ append_assoc q.ps (q.b ∷ q.rest) v in
    let s = one_end p.ps q.ps (p.rest ++ u) (q.rest ++ v) p.b q.b p.are q.are p.none q.none whole in
    let other : after (rest_tree (setting big p.ps)) (q.b ∷ q.rest) ≡ Done j = subst (λ (z : List ℕ). after (rest_tree (setting big z)) (q.b ∷ q.rest) ≡ Done j) (sym s.0) q.reads in
    let w = one_way (rest_tree (setting big p.ps)) (p.b ∷ p.rest) (q.b ∷ q.rest) u v i j p.reads other s.1 in
    (p.whole ∙ ap (λ (z : List ℕ). z ++ (p.b ∷ p.rest)) s.0 ∙ ap (λ (z : List ℕ). q.ps ++ z) w.0 ∙ sym q.whole, w.1)

pub one_instruction : (bytes : List ℕ) (big : Bool) (i j : Insn) → Spelt bytes big i → Spelt bytes big j → i ≡ j
one_instruction bytes big i j h k = (one_spelling bytes bytes [] [] big i j h k refl).1

longer : (x y : List ℕ) → x ≡ x ++ y → y ≡ []
longer [] y e = sym e
longer (a ∷ x) y e = let rest : x ≡ x ++ y = cc in longer x y rest

pub no_proper_prefix : (bytes more : List ℕ) (big : Bool) (i j : Insn) → Spelt bytes big i → Spelt (bytes ++ more) big j → more ≡ []
no_proper_prefix bytes more big i j h k = longer bytes more (one_spelling bytes (bytes ++ more) more [] big i j h k (sym (append-nil (bytes ++ more)))).0

-- ---- what the decoder asks of a byte's entry

row_no_prefix : (b : ℕ) → b < 256 → is_undefined (one_entry b) ≡ false → is_prefix b ≡ false
row_no_prefix b lt w =
    let t0 = all_in prefix_test (range_with_len 0 256) b prefixes_tested lt in
    let t : prefix_test b ≡ true = subst (λ (k : ℕ). prefix_test k ≡ true) (get_or-range_with_len 0 256 b 0 lt ∙ zero-add b) t0 in
    elim (is_prefix b) as (λ v. (not v || (is_undefined (one_entry b) && not (b == 0x0F))) ≡ true → v ≡ false) [
      | true ↦ λ q. absurd (no_both (is_undefined (one_entry b)) (and_true (is_undefined (one_entry b)) (not (b == 0x0F)) q).0 w)
      | false ↦ λ _. refl
    ] t

pub one_no_prefix : (b : ℕ) (r : Row) → b < 256 → One r ≡ one_entry b → is_prefix b ≡ false
one_no_prefix b r lt h = row_no_prefix b lt (sym (ap is_undefined h))

pub group_no_prefix : (b g : ℕ) → b < 256 → Group g ≡ one_entry b → is_prefix b ≡ false
group_no_prefix b g lt h = row_no_prefix b lt (sym (ap is_undefined h))
