-- Strings turned in a word of 64 bits.
use Rattle.std.proofs.Common.{◌≡◌, ℕ, ◌+◌, ◌-◌, ◌*◌, ◌/◌, ◌%◌, ◌^◌, ◌<◌, ◌≤◌, arith, ◌∙◌, ap, sym, bit_or}
use Rattle.std.proofs.lemmas.Nat.{pow_pos, shl_whole, or_shifted, one_shl, shr_below, pow-add, mod_below, mul-add-lt}

-- what is joined of the low part moved up and the high part moved down
pub turned_word : (x w k : ℕ) → x < 2 ^ w → k ≤ w → w ≤ 33
    → bit_or (x % (1 * 2 ^ (w - k) % 2 ^ 64) * 2 ^ k % 2 ^ 64) (x / 2 ^ (w - k)) ≡ x % 2 ^ (w - k) * 2 ^ k + x / 2 ^ (w - k)
turned_word x w k p q r =
    let whole : k + (w - k) ≡ w = omega arith in
    let power : 1 * 2 ^ (w - k) % 2 ^ 64 ≡ 2 ^ (w - k) = one_shl (w - k) 64 (omega arith) in
    let high : x / 2 ^ (w - k) < 2 ^ k = shr_below x k (w - k) (rw whole p) in
    let up : x % 2 ^ (w - k) * 2 ^ k % 2 ^ 64 ≡ x % 2 ^ (w - k) * 2 ^ k = shl_whole (x % 2 ^ (w - k)) (w - k) k 64 (mod_below x (2 ^ (w - k)) (pow_pos (w - k))) (omega arith) in
    rw (power, up) (or_shifted (x % 2 ^ (w - k)) k (x / 2 ^ (w - k)) high)

pub turned-lt : (x w k : ℕ) → x < 2 ^ w → k ≤ w → x % 2 ^ (w - k) * 2 ^ k + x / 2 ^ (w - k) < 2 ^ w
turned-lt x w k p q =
    let whole : k + (w - k) ≡ w = omega arith in
    let high : x / 2 ^ (w - k) < 2 ^ k = shr_below x k (w - k) (rw whole p) in
    let product : 2 ^ w ≡ 2 ^ k * 2 ^ (w - k) = ap (λ n. 2 ^ n) (sym whole) ∙ pow-add 2 k (w - k) in
    omega (arith, product, mul-add-lt (x % 2 ^ (w - k)) (2 ^ k) (x / 2 ^ (w - k)) (2 ^ (w - k)) (mod_below x (2 ^ (w - k)) (pow_pos (w - k))) high)
