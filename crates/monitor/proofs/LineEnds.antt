-- Lemmas on what is kept of a line.
use Rattle.std.proofs.Common.{◌≡◌, ◌≤◌, ◌+◌, ◌-◌, ℕ, List, ◌++◌, length, take, min, ap, sym, ◌∙◌, arith, inl, inr}
use Rattle.std.proofs.lemmas.Bool.{cases_lt}
use Rattle.std.proofs.lemmas.List.{take_all}
use Rattle.std.proofs.Math.Seq.{take-append-add}
use Rattle.mdl_text.specs.CommandInput.{kept}

-- no more is taken than there is
take_min : (n : ℕ) (bytes : List ℕ) → take (min n (length bytes)) bytes ≡ take n bytes
take_min n bytes = elim (cases_lt n (length bytes)) [
  | inl less ↦ ap (λ (k : ℕ). take k bytes) (let e : min n (length bytes) ≡ n = omega (arith, less) in e)
  | inr all ↦ ap (λ (k : ℕ). take k bytes) (let e : min n (length bytes) ≡ length bytes = omega (arith, all) in e) ∙ take_all (length bytes) bytes (omega arith) ∙ sym (take_all n bytes all)
]

-- as many bytes more as there is room for
pub kept_more : (line more : List ℕ) → length line ≤ 66 → line ++ take (min (66 - length line) (length more)) more ≡ kept (line ++ more)
kept_more line more within =
    let whole : length line + (66 - length line) ≡ 66 = omega (arith, within) in
    ap (λ (xs : List ℕ). line ++ xs) (take_min (66 - length line) more) ∙ sym (take-append-add line more (66 - length line)) ∙ ap (λ (n : ℕ). take n (line ++ more)) whole
