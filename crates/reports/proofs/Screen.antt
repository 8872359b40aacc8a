-- Lemmas on the screen: one more column, and one more row.
use Rattle.std.proofs.Common.{◌≡◌, ℕ, zero, suc, ◌+◌, List, [], ◌∷◌, ◌++◌, map, ap, ◌∙◌, arith, append-nil, append_assoc, sym, add-one}
use Rattle.std.specs.List.{range_with_len, flat_map}
use Rattle.std.proofs.lemmas.Grind.{flat_map-append}
use Rattle.std.proofs.lemmas.List.FromFn.{map-range_with_len_more}

range_more : (a n : ℕ) → range_with_len a (suc n) ≡ range_with_len a n ++ (a + n) ∷ []
range_more a zero = ap (λ (k : ℕ). k ∷ []) (omega arith)
range_more a (suc n) = ap (λ (ks : List ℕ). a ∷ ks) (range_more (a + 1) n ∙ ap (λ (k : ℕ). range_with_len (a + 1) n ++ k ∷ []) (omega arith))

-- a text with one more row
pub row_more : (f : ℕ → List ℕ) (n : ℕ) → flat_map f (range_with_len 0 (n + 1)) ≡ flat_map f (range_with_len 0 n) ++ f n
row_more f n =
    let more : range_with_len 0 (n + 1) ≡ range_with_len 0 n ++ n ∷ [] = rw add-one (range_more 0 n ∙ ap (λ (k : ℕ). range_with_len 0 n ++ k ∷ []) (omega arith)) in
    ap (flat_map f) more ∙ flat_map-append f (range_with_len 0 n) (n ∷ []) ∙ ap (λ (xs : List ℕ). flat_map f (range_with_len 0 n) ++ xs) (append-nil (f n))

-- a text, and a row with one more column
pub column_more : (text : List ℕ) (f : ℕ → ℕ) (n : ℕ) → text ++ map f (range_with_len 0 (n + 1)) ≡ (text ++ map f (range_with_len 0 n)) ++ f n ∷ []
column_more text f n = ap (λ (xs : List ℕ). text ++ xs) (map-range_with_len_more f 0 n n (omega arith)) ∙ sym (append_assoc text (map f (range_with_len 0 n)) (f n ∷ []))

-- a text, a whole row, and the end of its line
pub row_ended : (text line now : List ℕ) (f : ℕ → ℕ) (n columns end : ℕ) → now ≡ line ++ end ∷ [] → line ≡ text ++ map f (range_with_len 0 n) → n ≡ columns → now ≡ text ++ (map f (range_with_len 0 columns) ++ end ∷ [])
row_ended text line now f n columns end ends is whole = ends ∙ ap (λ (xs : List ℕ). xs ++ end ∷ []) (is ∙ ap (λ (k : ℕ). text ++ map f (range_with_len 0 k)) whole) ∙ append_assoc text (map f (range_with_len 0 columns)) (end ∷ [])

pub ruleset rows = (row_more, column_more)
