-- Trees of bytes, one after the other.
use Rattle.std.proofs.Common.{◌≡◌, ℕ, zero, suc, ◌+◌, ◌*◌, Bool, true, false, List, [], ◌∷◌, ◌++◌, length, refl, sym, ap, subst, ◌∙◌, arith}
use Rattle.std.proofs.lemmas.List.{append-nil}
use Rattle.mdl_insn.specs.Tree.{Tree, Done, Fail, Take, ◌>>=◌, after, number_tree, guard}
use Rattle.mdl_state.specs.Bytes.{little}

abbrev done : {A : Type 0} → A → Tree A
done a = Done a

pub done_is : {A : Type 0} (a b : A) → done a ≡ done b → a ≡ b
done_is a b e = cc

pub after_bind : {A B : Type 0} (t : Tree A) (f : A → Tree B) (x y : List ℕ) (a : A) → after t x ≡ Done a → after (t >>= f) (x ++ y) ≡ after (f a) y
after_bind (Done b) f [] y a e = ap (λ v. after (f v) y) (done_is b a e)
after_bind (Done b) f (c ∷ x) y a e = absurd cc
after_bind Fail f [] y a e = absurd cc
after_bind Fail f (c ∷ x) y a e = absurd cc
after_bind (Take k) f [] y a e = absurd cc
after_bind (Take k) f (c ∷ x) y a e = after_bind (k c) f x y a e

-- what a tree of two parts took, in two parts
pub record Splits {A B : Type 0} (t : Tree A) (f : A → Tree B) (z : List ℕ) (b : B) : Type 0 where
  pub x : List ℕ
  pub y : List ℕ
  pub a : A
  pub whole : z ≡ x ++ y
  pub first : after t x ≡ Done a
  pub second : after (f a) y ≡ Done b

pub split_bind : {A B : Type 0} (t : Tree A) (f : A → Tree B) (z : List ℕ) (b : B) → after (t >>= f) z ≡ Done b → Splits t f z b
split_bind (Done a) f z b e = record { x = []; y = z; a = a; whole = refl; first = refl; second = e }
split_bind Fail f [] b e = absurd cc
split_bind Fail f (c ∷ z) b e = absurd cc
split_bind (Take k) f [] b e = absurd cc
split_bind (Take k) f (c ∷ z) b e =
    let h = split_bind (k c) f z b e in
    record { x = c ∷ h.x; y = h.y; a = h.a; whole = ap (λ (l : List ℕ). c ∷ l) h.whole; first = h.first; second = h.second }

-- a tree leads one way
pub one_way : {A : Type 0} (t : Tree A) (x y u v : List ℕ) (a b : A) → after t x ≡ Done a → after t y ≡ Done b → x ++ u ≡ y ++ v → (x ≡ y) × (a ≡ b)
one_way (Done c) [] [] u v a b e f h = (refl, cc)
one_way (Done c) [] (q ∷ y) u v a b e f h = absurd cc
one_way (Done c) (p ∷ x) y u v a b e f h = absurd cc
one_way Fail [] y u v a b e f h = absurd cc
one_way Fail (p ∷ x) y u v a b e f h = absurd cc
one_way (Take k) [] y u v a b e f h = absurd cc
one_way (Take k) (p ∷ x) [] u v a b e f h = absurd cc
one_way {A} (Take k) (p ∷ x) (q ∷ y) u v a b e f h =
    let same : q ≡ p = cc in
    let rest : x ++ u ≡ y ++ v = cc in
    let f' : after (k p) y ≡ Done b = subst (λ (n : ℕ). after (k n) y ≡ Done b) same f in
    let r = one_way (k p) x y u v a b e f' rest in
    (cc, r.1)

-- a test that let the reading go on
pub guard_done : {A : Type 0} (g : Bool) (h k : A) (x : List ℕ) → after (guard g (Done h)) x ≡ Done k → (g ≡ true) × (x ≡ []) × (h ≡ k)
guard_done true h k [] e = (refl, refl, cc)
guard_done true h k (c ∷ x) e = absurd cc
guard_done false h k [] e = absurd cc
guard_done false h k (c ∷ x) e = absurd cc

pub number_again : (n : ℕ) (bytes : List ℕ) → length bytes ≡ n → after (number_tree n) bytes ≡ Done (little bytes)
unfolding number_tree
number_again zero [] e = refl
number_again zero (b ∷ bytes) e = absurd (omega arith)
number_again (suc n) [] e = absurd (omega arith)
number_again (suc n) (b ∷ bytes) e =
    let l : length bytes ≡ n = omega arith in
    subst (λ (z : List ℕ). after (number_tree n >>= λ v. Done (b + 256 * v)) z ≡ Done (b + 256 * little bytes)) (append-nil bytes)
    (after_bind (number_tree n) (λ v. Done (b + 256 * v)) bytes [] (little bytes) (number_again n bytes l))

pub number_is : (n : ℕ) (bytes : List ℕ) (v : ℕ) → after (number_tree n) bytes ≡ Done v → (length bytes ≡ n) × (v ≡ little bytes)
unfolding number_tree
number_is zero [] v e = (refl, cc)
number_is zero (b ∷ bytes) v e = absurd cc
number_is (suc n) [] v e = absurd cc
number_is (suc n) (b ∷ bytes) v e =
    let h = split_bind (number_tree n) (λ w. Done (b + 256 * w)) bytes v e in
    let low = number_is n h.x h.a h.first in
    let last = guard_done true (b + 256 * h.a) v h.y h.second in
    let same : bytes ≡ h.x = h.whole ∙ ap (λ (l : List ℕ). h.x ++ l) last.1 ∙ append-nil h.x in
    (ap suc (ap length same ∙ low.0), sym last.2 ∙ ap (λ w. b + 256 * w) (low.1 ∙ ap little (sym same)))
