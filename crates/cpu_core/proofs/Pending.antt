-- Bits that are added to those that are pending.
use Rattle.std.proofs.Common.{◌≡◌, ℕ, ◌∙◌, arith}
use Rattle.std.specs.Prelude.{bit_or}
use Rattle.std.proofs.lemmas.Nat.Bits.{bit_at_or, bit_at-zero, same_from_bits}

-- none
pub or_zero : (n : ℕ) → bit_or n 0 ≡ n
or_zero n = same_from_bits _ _ (λ i. bit_at_or n 0 i ∙ rw (bit_at-zero i) (omega arith))

pub zero_or : (n : ℕ) → bit_or 0 n ≡ n
zero_or n = same_from_bits _ _ (λ i. bit_at_or 0 n i ∙ rw (bit_at-zero i) (omega arith))
