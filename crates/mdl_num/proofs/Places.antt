-- One bit of a number put in place of another.
use Rattle.std.proofs.Common.{◌≡◌, ◌≢◌, ℕ, zero, suc, ◌+◌, ◌-◌, ◌*◌, ◌/◌, ◌%◌, ◌^◌, ◌<◌, ◌≤◌, refl, sym, ◌∙◌, ap, arith, inl, inr, min, Bool, true, false, bit_and, bit_or}
use Rattle.std.specs.Int.{bit_at, bit_not, w32, from_bool}
use Rattle.std.proofs.lemmas.Nat.{pow_pos, shr_split, mod_below, one_shl, shr_below, pow-add, mul-add-lt}
use Rattle.std.proofs.lemmas.Bool.{cases_order, cases_eq, cases_lt}
use Rattle.std.proofs.lemmas.Nat.Bits.{bit_at_cat_low, bit_at_cat_high, same_from_bits, bit_at_or, bit_at_and, bit_at-lt, bit_at_clear_same, bit_at_clear_other, bit_at-pow_same, bit_at-pow_other, bit_at-zero, bit_at_above}
use Rattle.std.proofs.Math.Nat.{pow-suc}
use Rattle.mdl_num.specs.Flags.{with_bit}

-- a number is the bits from k on, and those below
low_bit : (n k j : ℕ) → j < k → bit_at (n % 2 ^ k) j ≡ bit_at n j
low_bit n k j h =
    sym (bit_at_cat_low (n / 2 ^ k) k (n % 2 ^ k) j h) ∙ ap (λ m. bit_at m j) (shr_split n k)

high_bit : (n k j : ℕ) → k ≤ j → bit_at (n / 2 ^ k) (j - k) ≡ bit_at n j
high_bit n k j h =
    sym (bit_at_cat_high (n / 2 ^ k) k (n % 2 ^ k) j (mod_below n (2 ^ k) (pow_pos k)) h) ∙ ap (λ m. bit_at m j) (shr_split n k)

below_next : (b p r : ℕ) → b < 2 → r < p → b * p + r < p * 2
below_next zero p r h q = grind arith
below_next (suc zero) p r h q = grind arith
below_next (suc (suc b)) p r h q = absurd (omega arith)

next_pow : (k : ℕ) → 2 ^ suc k ≡ 2 ^ k * 2
next_pow k = grind (arith, pow-suc)

lowest : (b : ℕ) → b < 2 → bit_at b 0 ≡ b
lowest zero h = refl
lowest (suc zero) h = refl
lowest (suc (suc b)) h = absurd (omega arith)

-- the bit is the one that was put there
pub bit_at-with_bit : (n k b : ℕ) → b < 2 → bit_at (with_bit n k b) k ≡ b
unfolding with_bit
bit_at-with_bit n k b h =
    let zero_up : k - k ≡ 0 = omega arith in
    bit_at_cat_low (n / 2 ^ suc k) (suc k) (b * 2 ^ k + n % 2 ^ k) k (omega arith)
    ∙ bit_at_cat_high b k (n % 2 ^ k) k (mod_below n (2 ^ k) (pow_pos k)) (omega arith)
    ∙ ap (λ j. bit_at b j) zero_up ∙ lowest b h

no_higher : (b j : ℕ) → b < 2 → 0 < j → bit_at b j ≡ 0
no_higher b j h p = bit_at_above b 1 j h p

-- each other bit is as it was
pub bit_at-with_bit_other : (n k b j : ℕ) → b < 2 → j ≢ k → bit_at (with_bit n k b) j ≡ bit_at n j
unfolding with_bit
bit_at-with_bit_other n k b j h e =
    let within : b * 2 ^ k + n % 2 ^ k < 2 ^ suc k = rw (next_pow k) (below_next b (2 ^ k) (n % 2 ^ k) h (mod_below n (2 ^ k) (pow_pos k))) in
    elim (cases_order j k) [
      | inl same ↦ absurd (e same)
      | inr sides ↦ elim sides [
        | inl below ↦ bit_at_cat_low (n / 2 ^ suc k) (suc k) (b * 2 ^ k + n % 2 ^ k) j (omega arith)
            ∙ bit_at_cat_low b k (n % 2 ^ k) j below ∙ low_bit n k j below
        | inr above ↦ bit_at_cat_high (n / 2 ^ suc k) (suc k) (b * 2 ^ k + n % 2 ^ k) j within above
            ∙ high_bit n (suc k) j above
      ]
    ]

pub with_bit-same : (n k : ℕ) → with_bit n k (bit_at n k) ≡ n
with_bit-same n k = same_from_bits _ _ (λ j. elim (cases_eq j k) [
  | inl same ↦ rw same (bit_at-with_bit n k (bit_at n k) (bit_at-lt n k))
  | inr other ↦ bit_at-with_bit_other n k (bit_at n k) j (bit_at-lt n k) other
])

pub from_bool-lt : (b : Bool) → from_bool b < 2
from_bool-lt true = omega arith
from_bool-lt false = omega arith

zero_shifted : (k : ℕ) → 0 * 2 ^ k % 2 ^ 32 ≡ 0
zero_shifted k = grind arith

shifted_same : (b : Bool) (k : ℕ) → k < 32 → bit_at (from_bool b * 2 ^ k % 2 ^ 32) k ≡ from_bool b
shifted_same true k h = rw (one_shl k 32 h) (bit_at-pow_same k)
shifted_same false k h = ap (λ n. bit_at n k) (zero_shifted k) ∙ bit_at-zero k

shifted_other : (b : Bool) (k j : ℕ) → k < 32 → j ≢ k → bit_at (from_bool b * 2 ^ k % 2 ^ 32) j ≡ 0
shifted_other true k j h e = rw (one_shl k 32 h) (bit_at-pow_other k j e)
shifted_other false k j h e = ap (λ n. bit_at n j) (zero_shifted k) ∙ bit_at-zero j

zero-min : (m : ℕ) → min 0 m ≡ 0
zero-min m = omega arith

-- to clear bit k leaves the others
cleared_other : (n k j : ℕ) → n < 2 ^ 32 → k < 32 → j ≢ k
    → bit_at (bit_and n (bit_not w32 (1 * 2 ^ k % 2 ^ 32))) j ≡ bit_at n j
cleared_other n k j fits h e = elim (cases_lt j 32) [
  | inl below ↦ bit_at_clear_other w32 n k h j below e
  | inr above ↦ bit_at_and n (bit_not w32 (1 * 2 ^ k % 2 ^ 32)) j
      ∙ ap (λ m. min m (bit_at (bit_not w32 (1 * 2 ^ k % 2 ^ 32)) j)) (bit_at_above n 32 j fits above)
      ∙ zero-min (bit_at (bit_not w32 (1 * 2 ^ k % 2 ^ 32)) j)
      ∙ sym (bit_at_above n 32 j fits above)
]

-- to clear a bit and to set it anew puts it there
pub cleared_and_set : (n k : ℕ) (b : Bool) → n < 2 ^ 32 → k < 32
    → bit_or (bit_and n (bit_not w32 (1 * 2 ^ k % 2 ^ 32))) (from_bool b * 2 ^ k % 2 ^ 32) ≡ with_bit n k (from_bool b)
cleared_and_set n k b fits h = same_from_bits _ _ (λ j.
    bit_at_or (bit_and n (bit_not w32 (1 * 2 ^ k % 2 ^ 32))) (from_bool b * 2 ^ k % 2 ^ 32) j
    ∙ elim (cases_eq j k) [
      | inl same ↦ rw same (
          let cleared : bit_at (bit_and n (bit_not w32 (1 * 2 ^ k % 2 ^ 32))) k ≡ 0 = bit_at_clear_same w32 n k h in
          let set : bit_at (from_bool b * 2 ^ k % 2 ^ 32) k ≡ from_bool b = shifted_same b k h in
          let goal : bit_at (with_bit n k (from_bool b)) k ≡ from_bool b = bit_at-with_bit n k (from_bool b) (from_bool-lt b) in
          rw (cleared, set, goal) (omega arith))
      | inr other ↦
          let cleared : bit_at (bit_and n (bit_not w32 (1 * 2 ^ k % 2 ^ 32))) j ≡ bit_at n j = cleared_other n k j fits h other in
          let set : bit_at (from_bool b * 2 ^ k % 2 ^ 32) j ≡ 0 = shifted_other b k j h other in
          let goal : bit_at (with_bit n k (from_bool b)) j ≡ bit_at n j = bit_at-with_bit_other n k (from_bool b) j (from_bool-lt b) other in
          rw (cleared, set, goal) (omega arith)
    ])

-- a number of w bits stays one
pub with_bit-lt : (n k b w : ℕ) → n < 2 ^ w → k < w → b < 2 → with_bit n k b < 2 ^ w
unfolding with_bit
with_bit-lt n k b w p q r =
    let whole : suc k + (w - suc k) ≡ w = omega arith in
    let front : (w - suc k) + suc k ≡ w = omega arith in
    let high : n / 2 ^ suc k < 2 ^ (w - suc k) = shr_below n (w - suc k) (suc k) (rw front p) in
    let within : b * 2 ^ k + n % 2 ^ k < 2 ^ suc k = rw (next_pow k) (below_next b (2 ^ k) (n % 2 ^ k) r (mod_below n (2 ^ k) (pow_pos k))) in
    let product : 2 ^ w ≡ 2 ^ suc k * 2 ^ (w - suc k) = ap (λ m. 2 ^ m) (sym whole) ∙ pow-add 2 (suc k) (w - suc k) in
    rw product (mul-add-lt (n / 2 ^ suc k) (2 ^ suc k) (b * 2 ^ k + n % 2 ^ k) (2 ^ (w - suc k)) high within)

-- the same of a bit of any truth value, for callers' goals
pub bits_kept : (n k w : ℕ) (b : Bool) → n < 2 ^ w → k < w → with_bit n k (from_bool b) < 2 ^ w
bits_kept n k w b p q = with_bit-lt n k (from_bool b) w p q (from_bool-lt b)
