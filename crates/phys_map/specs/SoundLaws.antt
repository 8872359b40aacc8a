-- Laws of what always holds of a memory map.
use Rattle.std.specs.Prelude.{ℕ, ◌≡◌, ◌≤◌, true, List, length, slice_index, slice_set, replicate}
use Rattle.std.proofs.Common.{arith, ap, sym, ◌∙◌, inl, inr}
use Rattle.std.proofs.lemmas.Bool.Decides.{leb_tells}
use Rattle.std.proofs.lemmas.List.{length-replicate}
use Rattle.std.proofs.lemmas.List.{get_or-replicate, get_or_past, get_or-set_other}
use Rattle.mdl_state.specs.Memory.{is_ram}
use Rattle.phys_map.specs.Sound.{is_covered, IsBlank}

-- RAM of zeros has none but zeros where no address reaches
pub zeros_blank : (n : ℕ) → IsBlank (replicate n 0)
zeros_blank n at h = elim (leb_tells n at) as (λ _. slice_index (replicate n 0) at ≡ 0) [
  | inl past ↦ let e : length (replicate n 0) ≤ at = let zero : ℕ = 0 in rw (length-replicate n zero) past.1 in get_or_past (replicate n 0) at 0 e
  | inr inside ↦ get_or-replicate n at 0 0 inside.1
]

-- no address in RAM is one that no address reaches
apart : (size at : ℕ) → is_ram size at ≡ true → is_covered at ≡ true → ⊥
apart size at h g = grind arith

-- a byte put where RAM is leaves the others
pub set_blank : (ram : List ℕ) (size i byte : ℕ) → is_ram size i ≡ true → IsBlank ram → IsBlank (slice_set ram i byte)
set_blank ram size i byte h blank at g = get_or-set_other ram i at byte 0 (λ (same : at ≡ i). apart size i h (ap is_covered (sym same) ∙ g)) ∙ blank at g
