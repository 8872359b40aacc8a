-- The first line that asks or blocks decides what a chip requests.
use Rattle.std.proofs.Common.{◌≡◌, ℕ, ◌+◌, ◌%◌, ◌<◌, ◌&&◌, ◌||◌, not, ◌∙◌, refl, sym, ap, Bool, true, false, Option, Some, None, if◌then◌else◌, List, [], ◌∷◌, find, map, arith, bit_and, bit_or}
use Rattle.std.specs.Int.{w8, bit_not}
use Rattle.mdl_dev.specs.declared.pic.Chip.{Chip}
use Rattle.mdl_dev.specs.declared.pic.Controller.{Controller}
use Rattle.pic_pit.proofs.Registers.{has_and_not, has_or}
use Rattle.mdl_dev.specs.Pic.{has, order_of, asks, blocks, is_held, first_asking, is_ready, request, in_service}

-- what the first line that asks or blocks makes of it
abbrev pub decided : Chip → Controller → Option ℕ → Option ℕ
decided chip c None = None
decided chip c (Some line) = if asks c line && not (is_held chip c line) then Some line else None

abbrev pub counts : Controller → ℕ → Bool
counts c line = asks c line || blocks c line

first_decides : (chip : Chip) (c : Controller) (lines : List ℕ) → first_asking chip c lines ≡ decided chip c (find (counts c) lines)
first_decides chip c [] = refl
first_decides chip c (line ∷ lines) = grind (arith, first_decides chip c lines)

-- two tests that agree on lines find the same line
find_same : (p q : ℕ → Bool) (lowest : ℕ) (ns : List ℕ) → ((line : ℕ) → line < 8 → p line ≡ q line) → find p (map (λ n. (lowest + n) % 8) ns) ≡ find q (map (λ n. (lowest + n) % 8) ns)
find_same p q lowest [] same = refl
find_same p q lowest (n ∷ ns) same = grind (arith, same ((lowest + n) % 8), find_same p q lowest ns same)

-- what the code finds in its registers
pub service_found : (c : Controller) (register : ℕ) → ((line : ℕ) → line < 8 → has register line ≡ blocks c line) → find (has register) (order_of c.lowest) ≡ in_service c
unfolding in_service order_of
service_found c register same = find_same (has register) (blocks c) c.lowest (1 ∷ 2 ∷ 3 ∷ 4 ∷ 5 ∷ 6 ∷ 7 ∷ 8 ∷ []) same

request_found : (chip : Chip) (c : Controller) (register : ℕ) → is_ready c.stage ≡ true → ((line : ℕ) → line < 8 → has register line ≡ counts c line) → decided chip c (find (has register) (order_of c.lowest)) ≡ request chip c
unfolding request order_of
request_found chip c register ready same =
    rw ready (ap (decided chip c) (find_same (has register) (counts c) c.lowest (1 ∷ 2 ∷ 3 ∷ 4 ∷ 5 ∷ 6 ∷ 7 ∷ 8 ∷ []) same) ∙ sym (first_decides chip c (order_of c.lowest)))

-- the register that the code looks at: unmasked requests and blocking lines
has_counts : (c : Controller) (blocking line : ℕ) → c.imr < 256 → line < 8 → has blocking line ≡ blocks c line → has (bit_or (bit_and c.irr (bit_not w8 c.imr)) blocking) line ≡ counts c line
has_counts c blocking line small h same = grind (arith, has_or (bit_and c.irr (bit_not w8 c.imr)) blocking line, has_and_not c.irr c.imr line small h)

-- what is found there decides
pub request_decided : (chip : Chip) (c : Controller) (blocking : ℕ) (line : Option ℕ) → is_ready c.stage ≡ true → c.imr < 256 → ((line : ℕ) → line < 8 → has blocking line ≡ blocks c line) → line ≡ find (has (bit_or (bit_and c.irr (bit_not w8 c.imr)) blocking)) (order_of c.lowest) → decided chip c line ≡ request chip c
request_decided chip c blocking line ready small same is =
    ap (decided chip c) is ∙ request_found chip c _ ready (λ line h. has_counts c blocking line small h (same line h))

-- a chip that is not ready requests nothing
pub request_unready : (chip : Chip) (c : Controller) → is_ready c.stage ≡ false → None ≡ request chip c
unfolding request
request_unready chip c unready = rw unready refl
