-- Prefixes, one more at a time.
use Rattle.std.proofs.Common.{◌≡◌, ℕ, Bool, true, false, cond, ◌||◌, List, [], ◌∷◌, ◌++◌, refl}
use Rattle.std.specs.Prelude.{◌==◌, Option, Some, None, is_some, unwrap_or}
use Rattle.mdl_insn.specs.declared.instruction.Rep.{Rep}
use Rattle.mdl_insn.specs.Prefixes.{segment_prefix, repeat_prefix, last_of, has, setting}
use Rattle.insn_decode.specs.Reading.{with_prefix}

last_of-push : {A : Type 0} (f : ℕ → Option A) (ps : List ℕ) (b : ℕ) → last_of f (ps ++ b ∷ []) ≡ cond (is_some (f b)) (f b) (last_of f ps)
last_of-push f [] b = elim (f b) as (λ v. cond false None v ≡ cond (is_some v) v None) [ Some a ↦ refl | None ↦ refl ]
last_of-push f (p ∷ ps) b = rw (last_of-push f ps b) (elim (f b) as (λ v. cond (is_some (cond (is_some v) v (last_of f ps))) (cond (is_some v) v (last_of f ps)) (f p) ≡ cond (is_some v) v (cond (is_some (last_of f ps)) (last_of f ps) (f p))) [ Some a ↦ refl | None ↦ refl ])

or_assoc : (a b c : Bool) → (a || (b || c)) ≡ (b || (a || c))
or_assoc true true c = refl
or_assoc true false c = refl
or_assoc false b c = refl

has-push : (x : ℕ) (ps : List ℕ) (b : ℕ) → has x (ps ++ b ∷ []) ≡ ((b == x) || has x ps)
has-push x [] b = refl
has-push x (p ∷ ps) b = rw (has-push x ps b) (or_assoc (p == x) (b == x) (has x ps))

or_cond : {A : Type 0} (a b : Bool) (x y : A) → cond (a || b) x y ≡ cond a x (cond b x y)
or_cond true b x y = refl
or_cond false b x y = refl

rep_push : (o p : Option Rep) (d : Rep) → unwrap_or (cond (is_some o) o p) d ≡ unwrap_or o (unwrap_or p d)
rep_push (Some a) p d = refl
rep_push None p d = refl

pub setting-push : (big : Bool) (ps : List ℕ) (b : ℕ) → setting big (ps ++ b ∷ []) ≡ with_prefix big (setting big ps) b
setting-push big ps b =
    rw (has-push 0x66 ps b, has-push 0x67 ps b, has-push 0xF0 ps b, last_of-push segment_prefix ps b, last_of-push repeat_prefix ps b, or_cond (b == 0x66) (has 0x66 ps), or_cond (b == 0x67) (has 0x67 ps), rep_push (repeat_prefix b) (last_of repeat_prefix ps)) refl
