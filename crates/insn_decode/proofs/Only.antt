-- Nothing but what is decoded is spelt at the front.
use Rattle.std.proofs.Common.{◌≡◌, ◌≢◌, ℕ, zero, suc, ◌+◌, ◌<◌, ◌≤◌, Bool, List, [], ◌∷◌, ◌++◌, length, take, drop, refl, sym, ap, subst, ◌∙◌, arith, append_assoc, take-append-drop}
use Rattle.std.proofs.lemmas.List.{append-nil, length-append, length-take, take_at}
use Rattle.std.proofs.lemmas.Bool.{cases_lt}
use Rattle.std.proofs.Common.{inl, inr}
use Rattle.mdl_insn.specs.declared.instruction.Insn.{Insn}
use Rattle.mdl_insn.specs.Spelling.{Spelt, Begun}
use Rattle.insn_decode.specs.Slices.{TakesFront, UndefinedAt, LongAt, ShortAt}
use Rattle.mdl_insn.proofs.PrefixEnds.{one_spelling}

take_front : (n at : ℕ) (bytes : List ℕ) → n ≤ at → take n (take at bytes) ≡ take n bytes
take_front zero at bytes le = refl
take_front (suc n) zero bytes le = absurd (omega arith)
take_front (suc n) (suc at) [] le = refl
take_front (suc n) (suc at) (b ∷ bytes) le = ap (λ (l : List ℕ). b ∷ l) (take_front n at bytes (omega arith))

some_length : (l : List ℕ) → l ≢ [] → 0 < length l
some_length [] h = absurd (h refl)
some_length (b ∷ l) h = omega arith

some_list : (l : List ℕ) → 0 < length l → l ≢ []
some_list [] lt e = absurd (omega arith)
some_list (b ∷ l) lt e = cc

-- a front of what is begun is not spelt
no_front : (bytes : List ℕ) (big : Bool) (n at : ℕ) (i : Insn) → n ≤ at → at ≤ length bytes → Spelt (take n bytes) big i → Begun (take at bytes) big → ⊥
no_front bytes big n at i le inside h b =
    let e : take n bytes ++ (drop n (take at bytes) ++ b.more) ≡ (take at bytes ++ b.more) ++ [] =
    sym (append_assoc (take n bytes) (drop n (take at bytes)) b.more)
    ∙ ap (λ (l : List ℕ). (l ++ drop n (take at bytes)) ++ b.more) (sym (take_front n at bytes le))
    ∙ ap (λ (l : List ℕ). l ++ b.more) (take-append-drop n (take at bytes))
    ∙ sym (append-nil (take at bytes ++ b.more)) in
    let o = one_spelling (take n bytes) (take at bytes ++ b.more) (drop n (take at bytes) ++ b.more) [] big i b.insn h b.spelt e in
    let l = ap length o.0 ∙ length-append (take at bytes) b.more in
    let more = some_length b.more b.goes_on in
    omega (arith, l, length-take n bytes, length-take at bytes)

-- what goes on to a spelling is begun
goes_on : (bytes : List ℕ) (big : Bool) (n at : ℕ) (i : Insn) → at < n → n ≤ length bytes → Spelt (take n bytes) big i → Begun (take at bytes) big
goes_on bytes big n at i lt inside h =
    let whole : take n bytes ≡ take at bytes ++ drop at (take n bytes) = sym (take-append-drop at (take n bytes)) ∙ ap (λ (l : List ℕ). l ++ drop at (take n bytes)) (take_front at n bytes (omega arith)) in
    let l = ap length whole ∙ length-append (take at bytes) (drop at (take n bytes)) in
    record {
      more = drop at (take n bytes);
      insn = i;
      goes_on = some_list (drop at (take n bytes)) (omega (arith, l, length-take n bytes, length-take at bytes));
      spelt = subst (λ (z : List ℕ). Spelt z big i) whole h;
    }

pub only_ok : (bytes : List ℕ) (big : Bool) (i j : Insn) (n m : ℕ) → n ≤ length bytes → Spelt (take n bytes) big i → TakesFront bytes big j m → (j ≡ i) × (m ≡ n)
only_ok bytes big i j n m inside h t =
    let e : take m bytes ++ drop m bytes ≡ take n bytes ++ drop n bytes = take-append-drop m bytes ∙ sym (take-append-drop n bytes) in
    let o = one_spelling (take m bytes) (take n bytes) (drop m bytes) (drop n bytes) big j i t.spelt h e in
    let l = ap length o.0 in
    let k = t.inside in
    (o.1, omega (arith, l, length-take n bytes, length-take m bytes))

pub only_undefined : (bytes : List ℕ) (big : Bool) (i : Insn) (n : ℕ) → n ≤ length bytes → Spelt (take n bytes) big i → UndefinedAt bytes big → ⊥
only_undefined bytes big i n inside h w =
    let k = w.inside in
    elim (cases_lt n (w.at + 1)) [
      | inl lt ↦ no_front bytes big n w.at i (omega arith) (omega arith) h w.begun
      | inr le ↦ elim (cases_lt (w.at + 1) n) [
        | inl more ↦ w.not_begun (goes_on bytes big n (w.at + 1) i more inside h)
        | inr same ↦ let e : n ≡ w.at + 1 = omega arith in w.not_spelt i (subst (λ (z : ℕ). Spelt (take z bytes) big i) e h)
      ]
    ]

pub only_long : (bytes : List ℕ) (big : Bool) (i : Insn) (n : ℕ) → n ≤ 15 → Spelt (take n bytes) big i → LongAt bytes big → ⊥
only_long bytes big i n le h w = no_front bytes big n 15 i le w.inside h w.begun

pub only_short : (bytes : List ℕ) (big : Bool) (i : Insn) (n : ℕ) → n ≤ length bytes → Spelt (take n bytes) big i → ShortAt bytes big → ⊥
only_short bytes big i n le h w =
    let e : take (length bytes) bytes ≡ bytes = ap (take (length bytes)) (sym (append-nil bytes)) ∙ take_at bytes [] (length bytes) refl in
    no_front bytes big n (length bytes) i le (omega arith) h (subst (λ (z : List ℕ). Begun z big) (sym e) w.begun)
