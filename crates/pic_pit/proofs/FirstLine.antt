-- The first line in order, found by turning the register and counting zeros.
use Rattle.std.proofs.Common.{◌≡◌, ℕ, ◌+◌, ◌%◌, ◌<◌, ◌==◌, refl, Bool, true, false, Option, Some, None, if◌then◌else◌, find, arith}
use Rattle.std.specs.Int.{w8, rotate_right, trailing_zeros}
use Rattle.std.proofs.lemmas.Bool.{agree_below, agree_below_at}
use lib.Count.{count_trailing_zeros}
use Rattle.mdl_dev.specs.Pic.{has, order_of}

-- what the code finds
abbrev pub found : ℕ → ℕ → Option ℕ
found register lowest =
    let highest = (lowest + 1) % 8 in
    let turned = rotate_right w8 register highest in
    if turned == 0 then None else Some ((highest + trailing_zeros w8 turned) % 8)

abbrev is_same : Option ℕ → Option ℕ → Bool
is_same None None = true
is_same None (Some b) = false
is_same (Some a) None = false
is_same (Some a) (Some b) = a == b

same : (a b : Option ℕ) → is_same a b ≡ true → a ≡ b
same None None h = refl
same None (Some b) h = grind arith
same (Some a) None h = grind arith
same (Some a) (Some b) h = grind arith

-- it is the first line in order, for this order and this register
abbrev is_first : ℕ → ℕ → Bool
is_first lowest register = is_same (found register lowest) (find (has register) (order_of lowest))

abbrev always : ℕ → Bool
always n = true

-- for every order and register
all_first : agree_below (λ lowest. agree_below (is_first lowest) always 256) always 8 ≡ true
unfolding order_of count_trailing_zeros
all_first = refl

pub first_found : (register lowest : ℕ) → register < 256 → lowest < 8 → found register lowest ≡ find (has register) (order_of lowest)
first_found register lowest r l =
    same _ _ (agree_below_at (is_first lowest) always 256 register (agree_below_at (λ lowest. agree_below (is_first lowest) always 256) always 8 lowest all_first l) r)
