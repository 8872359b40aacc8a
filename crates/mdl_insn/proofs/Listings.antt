-- What stands in front of some bytes is one, and so is their listing.
use Rattle.std.proofs.Common.{◌≡◌, ℕ, zero, suc, ◌+◌, ◌<◌, ◌≤◌, Bool, List, [], ◌∷◌, ◌++◌, refl, sym, ap, subst, ◌∙◌, arith, length, take, drop}
use Rattle.std.proofs.lemmas.List.{take-append-drop, append-nil, length-append, length-take-le, length-drop, nil_from_length}
use Rattle.std.proofs.Math.Seq.{take-length}
use Rattle.mdl_insn.specs.declared.instruction.Insn.{Insn}
use Rattle.mdl_insn.specs.Spelling.{Spelt, Begun}
use Rattle.mdl_insn.specs.Listing.{Front, Whole, Undefined, TooLong, Short, StandsAt, covered, line_text, Lists, IsListing}
use Rattle.mdl_insn.proofs.PrefixEnds.{one_spelling}

-- ---- fronts of a list

take_both : (n m : ℕ) (bs more : List ℕ) → n ≤ m → m ≤ length bs → take n (take m bs ++ more) ≡ take n bs
take_both zero m bs more p q = refl
take_both (suc n) zero bs more p q = absurd (omega arith)
take_both (suc n) (suc m) [] more p q = absurd (omega arith)
take_both (suc n) (suc m) (b ∷ bs) more p q = ap (λ (z : List ℕ). b ∷ z) (take_both n m bs more (omega arith) (omega arith))

-- a front of a spelling that is longer is begun
begun_of : (m : ℕ) (bs whole : List ℕ) (big : Bool) (i : Insn) → Spelt whole big i → take m whole ≡ take m bs → m < length whole → Begun (take m bs) big
begun_of m bs whole big i h same longer =
    let parts : whole ≡ take m bs ++ drop m whole = sym (take-append-drop m whole) ∙ ap (λ (z : List ℕ). z ++ drop m whole) same in
    record {
      more = drop m whole;
      insn = i;
      goes_on = λ e. let n : length (drop m whole) ≡ 0 = ap length e in let l = length-drop m whole in absurd (omega arith);
      spelt = subst (λ (z : List ℕ). Spelt z big i) parts h;
    }

-- a front of what is begun is begun
shorter : (m n : ℕ) (bs : List ℕ) (big : Bool) → m ≤ n → n ≤ length bs → Begun (take n bs) big → Begun (take m bs) big
shorter m n bs big le inside h =
    let l = length-append (take n bs) h.more in
    let k = length-take-le n bs inside in
    begun_of m bs (take n bs ++ h.more) big h.insn h.spelt (take_both m n bs h.more le inside)
    (elim h.more as (λ (z : List ℕ). (z ≡ [] → ⊥) → length (take n bs ++ z) ≡ length (take n bs) + length z → m < length (take n bs ++ z)) [
      | [] ↦ λ f _. absurd (f refl)
      | (b ∷ more) ↦ λ _ e. omega arith
    ] h.goes_on l)

-- what is spelt is not begun, nor is anything longer
not_begun : (n m : ℕ) (bs : List ℕ) (big : Bool) (i : Insn) → Spelt (take n bs) big i → Begun (take m bs) big → n ≤ m → m ≤ length bs → ⊥
not_begun n m bs big i h b le inside =
    let whole : List ℕ = take m bs ++ b.more in
    let e : take n bs ++ drop n whole ≡ whole ++ [] =
    ap (λ (z : List ℕ). z ++ drop n whole) (sym (take_both n m bs b.more le inside)) ∙ take-append-drop n whole ∙ sym (append-nil whole) in
    let same : take n bs ≡ whole = (one_spelling (take n bs) whole (drop n whole) [] big i b.insn h b.spelt e).0 in
    let x : n ≡ length whole = sym (length-take-le n bs (omega arith)) ∙ ap length same in
    let y = length-append (take m bs) b.more in
    let z = length-take-le m bs inside in
    b.goes_on (nil_from_length b.more (omega arith))

-- ---- what stands in front

lt_of_not : (n m : ℕ) → (n ≤ m → ⊥) → m < n
lt_of_not zero m f = absurd (f (omega arith))
lt_of_not (suc n) zero f = omega arith
lt_of_not (suc n) (suc m) f = let k : m < n = lt_of_not n m (λ p. f (omega arith)) in omega arith

whole_undefined : (bs : List ℕ) (big : Bool) (i : Insn) (n : ℕ) → StandsAt bs big (Whole i n) → StandsAt bs big Undefined → ⊥
whole_undefined bs big i n h u =
    let m = u.0 in
    let behind : m < n = lt_of_not n m (λ le. not_begun n m bs big i h.2 u.3 le (omega arith)) in
    let far : m + 1 < n = lt_of_not n (m + 1) (λ le. let e : n ≡ m + 1 = omega arith in u.5 i (subst (λ (k : ℕ). Spelt (take k bs) big i) e h.2)) in
    let l = length-take-le n bs h.0 in
    let same : take (m + 1) (take n bs) ≡ take (m + 1) bs =
    ap (λ (z : List ℕ). take (m + 1) z) (sym (append-nil (take n bs))) ∙ take_both (m + 1) n bs [] (omega arith) h.0 in
    u.4 (begun_of (m + 1) bs (take n bs) big i h.2 same (omega arith))

whole_long : (bs : List ℕ) (big : Bool) (i : Insn) (n : ℕ) → StandsAt bs big (Whole i n) → StandsAt bs big TooLong → ⊥
whole_long bs big i n h u = not_begun n 15 bs big i h.2 u.1 h.1 u.0

whole_short : (bs : List ℕ) (big : Bool) (i : Insn) (n : ℕ) → StandsAt bs big (Whole i n) → StandsAt bs big Short → ⊥
whole_short bs big i n h u = not_begun n (length bs) bs big i h.2 (subst (λ (z : List ℕ). Begun z big) (sym (take-length bs)) u.1) h.0 (omega arith)

undefined_long : (bs : List ℕ) (big : Bool) → StandsAt bs big Undefined → StandsAt bs big TooLong → ⊥
undefined_long bs big u h = u.4 (shorter (u.0 + 1) 15 bs big (omega arith) h.0 h.1)

undefined_short : (bs : List ℕ) (big : Bool) → StandsAt bs big Undefined → StandsAt bs big Short → ⊥
undefined_short bs big u h = u.4 (shorter (u.0 + 1) (length bs) bs big (omega arith) (omega arith) (subst (λ (z : List ℕ). Begun z big) (sym (take-length bs)) h.1))

long_short : (bs : List ℕ) (big : Bool) → StandsAt bs big TooLong → StandsAt bs big Short → ⊥
long_short bs big h u = absurd (omega arith)

whole_whole : (bs : List ℕ) (big : Bool) (i j : Insn) (n m : ℕ) → StandsAt bs big (Whole i n) → StandsAt bs big (Whole j m) → Whole i n ≡ Whole j m
whole_whole bs big i j n m h k =
    let s = one_spelling (take n bs) (take m bs) (drop n bs) (drop m bs) big i j h.2 k.2 (take-append-drop n bs ∙ sym (take-append-drop m bs)) in
    let e : n ≡ m = sym (length-take-le n bs h.0) ∙ ap length s.0 ∙ length-take-le m bs k.0 in
    ap (λ (z : Insn). Whole z n) s.1 ∙ ap (λ (z : ℕ). Whole j z) e

one_front : (bs : List ℕ) (big : Bool) (f g : Front) → StandsAt bs big f → StandsAt bs big g → f ≡ g
one_front bs big (Whole i n) (Whole j m) h k = whole_whole bs big i j n m h k
one_front bs big (Whole i n) Undefined h k = absurd (whole_undefined bs big i n h k)
one_front bs big (Whole i n) TooLong h k = absurd (whole_long bs big i n h k)
one_front bs big (Whole i n) Short h k = absurd (whole_short bs big i n h k)
one_front bs big Undefined (Whole j m) h k = absurd (whole_undefined bs big j m k h)
one_front bs big Undefined Undefined h k = refl
one_front bs big Undefined TooLong h k = absurd (undefined_long bs big h k)
one_front bs big Undefined Short h k = absurd (undefined_short bs big h k)
one_front bs big TooLong (Whole j m) h k = absurd (whole_long bs big j m k h)
one_front bs big TooLong Undefined h k = absurd (undefined_long bs big k h)
one_front bs big TooLong TooLong h k = refl
one_front bs big TooLong Short h k = absurd (long_short bs big h k)
one_front bs big Short (Whole j m) h k = absurd (whole_short bs big j m k h)
one_front bs big Short Undefined h k = absurd (undefined_short bs big k h)
one_front bs big Short TooLong h k = absurd (long_short bs big k h)
one_front bs big Short Short h k = refl

-- ---- the listing

one_text : (big : Bool) (count at : ℕ) (bs s t : List ℕ) → Lists big count at bs s → Lists big count at bs t → s ≡ t
one_text big zero at bs s t h k = h ∙ sym k
one_text big (suc count) at [] s t h k = h ∙ sym k
one_text big (suc count) at (b ∷ bs) s t h k =
    let e : k.0 ≡ h.0 = one_front (b ∷ bs) big k.0 h.0 k.2 h.2 in
    let behind : Lists big count (at + covered h.0 (b ∷ bs)) (drop (covered h.0 (b ∷ bs)) (b ∷ bs)) k.1 =
    subst (λ (f : Front). Lists big count (at + covered f (b ∷ bs)) (drop (covered f (b ∷ bs)) (b ∷ bs)) k.1) e k.4 in
    let rest : h.1 ≡ k.1 = one_text big count (at + covered h.0 (b ∷ bs)) (drop (covered h.0 (b ∷ bs)) (b ∷ bs)) h.1 k.1 h.4 behind in
    h.3 ∙ ap (λ (z : List ℕ). line_text h.0 at (b ∷ bs) ++ z) rest ∙ ap (λ (f : Front). line_text f at (b ∷ bs) ++ k.1) (sym e) ∙ sym k.3

pub one_listing : (bytes : List ℕ) (from count : ℕ) (big : Bool) (s t : List ℕ) → IsListing bytes from count big s → IsListing bytes from count big t → s ≡ t
one_listing bytes from count big s t h k = one_text big count from (drop from bytes) s t h k
