-- The first line of a text, as it is cut off.
use Rattle.std.proofs.Common.{◌≡◌, ◌≢◌, ℕ, ◌<◌, ◌==◌, Bool, true, false, List, [], ◌∷◌, ◌++◌, length, refl, sym, ap, ◌∙◌, subst, inl, inr, arith}
use Rattle.std.specs.List.{AllByRecursion, slice_split}
use Rattle.std.specs.Str.Lines.{lines, lines_of_parts, strip_carriage_return}
use Rattle.std.proofs.lemmas.Bool.Decides.{eqb_tells}
use Rattle.std.proofs.lemmas.List.Elements.{All-from_recursion}
use Rattle.std.proofs.lemmas.List.Splits.{slice_split_at, slice_split_none}
use Rattle.mdl_text.specs.ScriptLaws.{Lacks}

differs : (a b : ℕ) → a ≢ b → (a == b) ≡ false
differs a b h = elim (eqb_tells a b) [ inl p ↦ absurd (h p.1) | inr p ↦ p.0 ]

no_end : (text : List ℕ) → Lacks 10 text → AllByRecursion (λ b. (b == 10) ≡ false) text
no_end [] h = tt
no_end (c ∷ text) h = (differs c 10 h.0, no_end text h.1)

-- there is always a last part
some_part : (text : List ℕ) → (first : List ℕ) × (more : List (List ℕ)) × (slice_split (λ b. b == 10) text ≡ first ∷ more)
some_part [] = ([], [], refl)
some_part (c ∷ text) = by_test (c == 10) refl (slice_split (λ b. b == 10) text) refl
  where
    by_test : (t : Bool) → (c == 10) ≡ t → (parts : List (List ℕ)) → slice_split (λ b. b == 10) text ≡ parts → (first : List ℕ) × (more : List (List ℕ)) × (slice_split (λ b. b == 10) (c ∷ text) ≡ first ∷ more)
    by_test true e parts h = ([], slice_split (λ b. b == 10) text, rw e refl)
    by_test false e [] h = (c ∷ [], [], rw (e, h) refl)
    by_test false e (part ∷ parts) h = (c ∷ part, parts, rw (e, h) refl)

pub cut_line : (text line rest : List ℕ) → text ≡ line ++ 10 ∷ rest → Lacks 10 line → lines text ≡ strip_carriage_return line ∷ lines rest
cut_line text line rest e h =
    let split : slice_split (λ b. b == 10) (line ++ 10 ∷ rest) ≡ line ∷ slice_split (λ b. b == 10) rest = slice_split_at (λ b. b == 10) line 10 rest (All-from_recursion (λ b. (b == 10) ≡ false) line (no_end line h)) refl in
    let part = some_part rest in
    rw e (ap lines_of_parts split ∙ behind (slice_split (λ b. b == 10) rest) part.0 part.1 part.2)
  where
    behind : (parts : List (List ℕ)) (first : List ℕ) (more : List (List ℕ)) → parts ≡ first ∷ more → lines_of_parts (line ∷ parts) ≡ strip_carriage_return line ∷ lines_of_parts parts
    behind parts first more p = subst (λ (ps : List (List ℕ)). lines_of_parts (line ∷ ps) ≡ strip_carriage_return line ∷ lines_of_parts ps) (sym p) refl

pub last_line : (text : List ℕ) → 0 < length text → Lacks 10 text → lines text ≡ text ∷ lines []
last_line text some h =
    let split : slice_split (λ b. b == 10) text ≡ text ∷ [] = slice_split_none (λ b. b == 10) text (All-from_recursion (λ b. (b == 10) ≡ false) text (no_end text h)) in
    ap lines_of_parts split ∙ alone text some
  where
    alone : (t : List ℕ) → 0 < length t → lines_of_parts (t ∷ []) ≡ t ∷ []
    alone [] k = absurd (omega arith)
    alone (c ∷ t) k = let some : (length (c ∷ t) == 0) ≡ false = differs (length (c ∷ t)) 0 (λ e. omega arith) in rw some refl
