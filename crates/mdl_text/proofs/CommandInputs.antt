-- Lemmas on the monitor's input: how it is cut, and what of a line matters.
use Rattle.std.proofs.Common.{◌≡◌, ◌≢◌, ◌≤◌, ◌+◌, ◌-◌, ◌==◌, ◌↔◌, ◌⊎◌, inl, inr, ℕ, Bool, true, false, if◌then◌else◌, List, [], ◌∷◌, ◌++◌, length, take, slice_index, ap, refl, sym, ◌∙◌, subst, arith}
use Rattle.std.specs.List.{AllByRecursion}
use Rattle.std.proofs.lemmas.List.{length-take-le, take_all, take-append-le, append_assoc}
use Rattle.std.proofs.lemmas.Bool.{cases_lt}
use Rattle.mdl_text.specs.declared.command.Command.{Command}
use Rattle.mdl_text.specs.CommandLine.{IsCommand}
use Rattle.mdl_text.specs.CommandInput.{IsUnbroken, ended, IsCut, text_of, kept}
use Rattle.mdl_text.proofs.CommandLines.{line_length}

-- ---- one way to cut

-- a line and what stands behind its line feed
front_same : (one other xs ys : List ℕ) → IsUnbroken one → IsUnbroken other → one ++ 10 ∷ xs ≡ other ++ 10 ∷ ys → (one ≡ other) × (xs ≡ ys)
front_same [] [] xs ys p q same = (refl, let e = same in cc)
front_same [] (b ∷ bs) xs ys p q same = absurd (q.0 (let e = same in cc))
front_same (a ∷ front) [] xs ys p q same = absurd (p.0 (let e = same in cc))
front_same (a ∷ front) (b ∷ bs) xs ys p q same =
    let head : a ≡ b = (let e = same in cc) in
    let tail : front ++ 10 ∷ xs ≡ bs ++ 10 ∷ ys = (let e = same in cc) in
    let rest = front_same front bs xs ys p.1 q.1 tail in
    (let e = rest.0 in cc, rest.1)

-- a line feed stands in no unbroken bytes
no_feed : (one xs last : List ℕ) → IsUnbroken last → last ≢ one ++ 10 ∷ xs
no_feed [] xs [] q same = cc
no_feed [] xs (b ∷ bs) q same = q.0 (let e = same in cc)
no_feed (a ∷ front) xs [] q same = cc
no_feed (a ∷ front) xs (b ∷ bs) q same = no_feed front xs bs q.1 (let e = same in cc)

abbrev Same : List (List ℕ) → List (List ℕ) → List ℕ → List ℕ → Type 0
Same lines others last end = (lines ≡ others) × (last ≡ end)

cut_same : (lines others : List (List ℕ)) (last end : List ℕ) → AllByRecursion IsUnbroken lines → AllByRecursion IsUnbroken others → IsUnbroken last → IsUnbroken end → ended lines ++ last ≡ ended others ++ end → Same lines others last end
cut_same [] [] last end p q r s same = (refl, same)
cut_same [] (other ∷ others) last end p q r s same = absurd (no_feed other (ended others ++ end) last r (same ∙ append_assoc other (10 ∷ ended others) end))
cut_same (line ∷ lines) [] last end p q r s same = absurd (no_feed line (ended lines ++ last) end s (sym same ∙ append_assoc line (10 ∷ ended lines) last))
cut_same (line ∷ lines) (other ∷ others) last end p q r s same =
    let both = front_same line other (ended lines ++ last) (ended others ++ end) p.0 q.0 (sym (append_assoc line (10 ∷ ended lines) last) ∙ same ∙ append_assoc other (10 ∷ ended others) end) in
    let rest = cut_same lines others last end p.1 q.1 r s both.1 in
    (let e = both.0 in let f = rest.0 in cc, rest.1)

pub one_cut : (input : List ℕ) (lines others : List (List ℕ)) (last end : List ℕ) → IsCut input lines last → IsCut input others end → Same lines others last end
one_cut input lines others last end one other = cut_same lines others last end one.each other.each one.open_line other.open_line (sym one.whole ∙ other.whole)

-- ---- what of a line matters

-- at most one byte is no text
text_length : (line : List ℕ) → length line ≤ length (text_of line) + 1
text_length line = by_last (slice_index line (length line - 1) == 13)
  where
    by_last : (b : Bool) → length line ≤ length (if b then take (length line - 1) line else line) + 1
    by_last true = let e = length-take-le (length line - 1) line (omega arith) in omega (arith, e)
    by_last false = omega arith

too_long : (line : List ℕ) (command : Command) → 66 ≤ length line → ¬ (IsCommand (text_of line) command)
too_long line command long is =
    let text = text_length line in
    let short = line_length (text_of line) command is in
    absurd (omega (arith, long, text, short))

-- a line of which all is kept, or one whose kept part is too long, as it is itself
abbrev IsEither : List ℕ → Type 0
IsEither line = (kept line ≡ line) ⊎ ((66 ≤ length line) × (length (kept line) ≡ 66))

either : (line : List ℕ) → IsEither line
either line = elim (cases_lt 66 (length line)) [
  | inl long ↦ inr (omega (arith, long), length-take-le 66 line (omega (arith, long)))
  | inr short ↦ inl (take_all 66 line short)
]

pub kept_asks : (line : List ℕ) (command : Command) → IsCommand (text_of (kept line)) command ↔ IsCommand (text_of line) command
kept_asks line command = elim (either line) [
  | inl same ↦ (λ is. subst (λ (l : List ℕ). IsCommand (text_of l) command) same is, λ is. subst (λ (l : List ℕ). IsCommand (text_of l) command) (sym same) is)
  | inr long ↦ (λ is. absurd (too_long (kept line) command (omega (arith, long.1)) is), λ is. absurd (too_long line command long.0 is))
]

pub kept_pieces : (line more : List ℕ) → kept (kept line ++ more) ≡ kept (line ++ more)
kept_pieces line more = elim (either line) [
  | inl same ↦ ap (λ (l : List ℕ). kept (l ++ more)) same
  | inr long ↦ take-append-le 66 (kept line) more (omega (arith, long.1)) ∙ take_all 66 (kept line) (omega (arith, long.1)) ∙ sym (take-append-le 66 line more long.0)
]
