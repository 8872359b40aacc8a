-- Readers one after the other.
use Rattle.std.proofs.Common.{◌≡◌, ℕ, ◌+◌, ◌*◌, zero, suc, ◌<◌, Result, Ok, Err, refl, sym, subst, inl, inr, arith}
use Rattle.mdl_state.specs.declared.Fault.{Fault}
use Rattle.insn_decode.specs.declared.refusals.Undecoded.{Undecoded}
use Rattle.mdl_insn.specs.Tree.{Tree, Done, Fail, Take, ◌>>=◌, byte_tree, number_tree}
use Rattle.insn_decode.specs.Reading.{Runs}

-- a reader that failed fails whatever would follow
pub runs_err : {S A B : Type 0} (gives : S → Result ℕ Fault → S → Type 0) (t : Tree A) (f : A → Tree B) (n : ℕ) (s : S) (x : Undecoded) (m : ℕ) (e : S) → Runs gives t n s (Err x) m e → Runs gives (t >>= f) n s (Err x) m e
unfolding Runs
runs_err gives (Done a) f n s x m e h = absurd cc
runs_err gives Fail f n s x m e h = (cc, h.1, h.2)
runs_err gives (Take k) f n s x m e (inl h) = inl (h.0, cc, h.2, h.3)
runs_err gives (Take k) f n s x m e (inr (inl h)) = inr (inl (h.0, h.1, h.2, cc, h.4))
runs_err gives (Take k) f n s x m e (inr (inr h)) = inr (inr (h.0, h.1, h.2, h.3, h.4, runs_err gives (k h.0) f (n + 1) h.1 x m e h.5))

-- a reader that gave a value, and then the next
pub runs_ok : {S A B : Type 0} (gives : S → Result ℕ Fault → S → Type 0) (t : Tree A) (f : A → Tree B) (n : ℕ) (s : S) (a : A) (m : ℕ) (mid : S) (r : Result B Undecoded) (l : ℕ) (e : S) → Runs gives t n s (Ok a) m mid → Runs gives (f a) m mid r l e → Runs gives (t >>= f) n s r l e
unfolding Runs
runs_ok {S} {A} gives (Done b) f n s a m mid r l e h k =
    let same : a ≡ b = cc in
    subst (λ (x : A). Runs gives (f x) n s r l e) same (subst (λ (x : S). Runs gives (f a) n x r l e) h.2 (subst (λ (x : ℕ). Runs gives (f a) x mid r l e) h.1 k))
runs_ok gives Fail f n s a m mid r l e h k = absurd cc
runs_ok gives (Take t) f n s a m mid r l e (inl h) k = absurd cc
runs_ok gives (Take t) f n s a m mid r l e (inr (inl h)) k = absurd cc
runs_ok gives (Take t) f n s a m mid r l e (inr (inr h)) k = inr (inr (h.0, h.1, h.2, h.3, h.4, runs_ok gives (t h.0) f (n + 1) h.1 a m mid r l e h.5 k))

pub number_none : {S : Type 0} (gives : S → Result ℕ Fault → S → Type 0) (n : ℕ) (s : S) → Runs gives (number_tree 0) n s (Ok 0) n s
unfolding number_tree Runs
number_none gives n s = (refl, refl, refl)

-- a number with one more byte in front
pub number_more : {S : Type 0} (gives : S → Result ℕ Fault → S → Type 0) (k j n : ℕ) (s : S) (b m : ℕ) (mid : S) (v l : ℕ) (e : S) → j ≡ suc k → Runs gives byte_tree n s (Ok b) m mid → Runs gives (number_tree k) m mid (Ok v) l e → Runs gives (number_tree j) n s (Ok (b + 256 * v)) l e
unfolding number_tree Runs
number_more gives k j n s b m mid v l e q h r =
    subst (λ (i : ℕ). Runs gives (number_tree i) n s (Ok (b + 256 * v)) l e) (sym q)
    (runs_ok gives byte_tree (λ c. number_tree k >>= λ w. Done (c + 256 * w)) n s b m mid (Ok (b + 256 * v)) l e h
    (runs_ok gives (number_tree k) (λ w. Done (b + 256 * w)) m mid v l e (Ok (b + 256 * v)) l e r (refl, refl, refl)))

pub number_low : {S : Type 0} (gives : S → Result ℕ Fault → S → Type 0) (j n : ℕ) (s : S) (x : Undecoded) (m : ℕ) (e : S) → 0 < j → Runs gives byte_tree n s (Err x) m e → Runs gives (number_tree j) n s (Err x) m e
unfolding number_tree
number_low gives zero n s x m e q h = absurd (omega arith)
number_low gives (suc k) n s x m e q h = runs_err gives byte_tree (λ c. number_tree k >>= λ w. Done (c + 256 * w)) n s x m e h

pub number_one : {S : Type 0} (gives : S → Result ℕ Fault → S → Type 0) (n : ℕ) (s : S) (b m : ℕ) (e : S) → Runs gives byte_tree n s (Ok b) m e → Runs gives (number_tree 1) n s (Ok b) m e
number_one gives n s b m e h =
    let q : b + 256 * 0 ≡ b = omega arith in
    subst (λ (v : ℕ). Runs gives (number_tree 1) n s (Ok v) m e) q (number_more gives 0 1 n s b m e 0 m e refl h (number_none gives m e))

pub number_high : {S : Type 0} (gives : S → Result ℕ Fault → S → Type 0) (k j n : ℕ) (s : S) (b m : ℕ) (mid : S) (x : Undecoded) (l : ℕ) (e : S) → j ≡ suc k → Runs gives byte_tree n s (Ok b) m mid → Runs gives (number_tree k) m mid (Err x) l e → Runs gives (number_tree j) n s (Err x) l e
unfolding number_tree
number_high gives k j n s b m mid x l e q h r =
    subst (λ (i : ℕ). Runs gives (number_tree i) n s (Err x) l e) (sym q)
    (runs_ok gives byte_tree (λ c. number_tree k >>= λ w. Done (c + 256 * w)) n s b m mid (Err x) l e h
    (runs_err gives (number_tree k) (λ w. Done (b + 256 * w)) m mid x l e r))
