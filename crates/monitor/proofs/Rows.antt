-- Lemmas on a text of several pieces: one more piece.
use Rattle.std.proofs.Common.{◌≡◌, ℕ, ◌+◌, List, ◌++◌, codes, ap, ◌∙◌, append_assoc, sym}
use Rattle.std.specs.List.{range_with_len, flat_map}
use Rattle.reports.proofs.Screen.{row_more}

-- behind a text
pub text_more : (text : List ℕ) (f : ℕ → List ℕ) (n : ℕ) → text ++ flat_map f (range_with_len 0 (n + 1)) ≡ (text ++ flat_map f (range_with_len 0 n)) ++ f n
text_more text f n = ap (λ (xs : List ℕ). text ++ xs) (row_more f n) ∙ sym (append_assoc text (flat_map f (range_with_len 0 n)) (f n))

-- a text whose next piece is a space and some digits
pub word_more : (before text mid now digits : List ℕ) (f : ℕ → List ℕ) (n : ℕ) → text ≡ before ++ flat_map f (range_with_len 0 n) → mid ≡ text ++ codes " " → now ≡ mid ++ digits → f n ≡ codes " " ++ digits
    → now ≡ before ++ flat_map f (range_with_len 0 (n + 1))
word_more before text mid now digits f n is space more piece = more ∙ ap (λ (x : List ℕ). x ++ digits) space ∙ append_assoc text (codes " ") digits ∙ ap (λ (x : List ℕ). text ++ x) (sym piece)
    ∙ ap (λ (x : List ℕ). x ++ f n) is ∙ sym (text_more before f n)

pub ruleset rows = (row_more, text_more)
