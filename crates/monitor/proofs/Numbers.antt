-- Lemmas on operands: what stands in the bytes of a count, of an address and of a stretch.
use Rattle.std.proofs.Common.{◌≡◌, ℕ, ◌+◌, ◌-◌, ◌*◌, ◌<◌, ◌≤◌, ◌^◌, ◌==◌, zero, suc, false, List, [], ◌∷◌, ◌++◌, length, get_or, take, drop, Some, Result, Ok, refl, sym, subst, ap, ◌∙◌, arith, length-append, length-drop, drop-cons}
use Rattle.std.specs.List.{position, position_or_len}
use Rattle.std.specs.Char.{digit_value}
use Rattle.std.specs.Fmt.{decimal}
use Rattle.std.specs.Str.{IsUtf8}
use Rattle.std.specs.Str.Parse.{ParsesUnsigned, AllDigits, digits_value}
use Rattle.std.proofs.lemmas.Fmt.{parse-decimal, IsAscii-decimal}
use Rattle.std.proofs.lemmas.Str.{IsUtf8-from_ascii}
use Rattle.std.proofs.lemmas.Int.Digits.{digits_value-lt}
use Rattle.std.proofs.lemmas.List.{length-take-le, take-append-drop}
use Rattle.std.proofs.lemmas.List.Quantifiers.{position-Some}
use Rattle.std.proofs.lemmas.Bool.Decides.{nat_tests}
use Rattle.std.proofs.Math.Seq.{take-length, take-append_seam, drop-append-add}
use Rattle.std.proofs.Math.Nat.{pow-le-pow_right}
use Rattle.mdl_text.specs.CommandLine.{IsCount, IsStretch}

-- ---- counts

-- a count is text
pub count_utf8 : (least most n : ℕ) (text : List ℕ) → most < 2 ^ 64 → IsCount least most n text → IsUtf8 text
count_utf8 least most n text fits is =
    let small : n < 2 ^ 64 = (let m = is.most_is in omega (arith, m, fits)) in
    subst IsUtf8 (sym is.written) (IsUtf8-from_ascii (decimal n) (IsAscii-decimal n small))

-- a count is parsed as its number
pub count_parsed : {E : Type 0} (least most n : ℕ) (text : List ℕ) (r : Result ℕ E) → most < 2 ^ 64 → ParsesUnsigned 64 10 text r → IsCount least most n text → r ≡ Ok n
count_parsed least most n text r fits parses is =
    let small : n < 2 ^ 64 = (let m = is.most_is in omega (arith, m, fits)) in
    parse-decimal 64 n text r small small is.written parses

-- ---- addresses

-- each byte of a numeral is a digit
pub digit_in : (text : List ℕ) (i : ℕ) → AllDigits 16 text → i < length text → digit_value (get_or text i 0) < 16
digit_in [] i all within = absurd (omega (arith, within))
digit_in (c ∷ cs) zero all within = all.0
digit_in (c ∷ cs) (suc i) all within = digit_in cs i all.1 (omega (arith, within))

-- seven digits and one more make a number of 32 bits
pub eight_digits : (text : List ℕ) (i : ℕ) → i < length text → length text ≤ 8 → AllDigits 16 (take i text) → digits_value 16 (take i text) * 16 + 16 ≤ 2 ^ 32
eight_digits text i within short all =
    let below = digits_value-lt 16 (take i text) all in
    let count = ap (λ (k : ℕ). 16 ^ k) (length-take-le i text (omega (arith, within))) in
    let most = pow-le-pow_right {n = 16} (omega arith) {i = i} {j = 7} (omega (arith, within, short)) in
    omega (arith, below, count, most)

-- ---- the first space

not_space : (b : ℕ) → digit_value b < 16 → (b == 32) ≡ false
not_space b digit = grind (arith, nat_tests)

-- behind digits the first space is the one that follows them
first_space : (digits rest : List ℕ) → AllDigits 16 digits → position_or_len (λ byte. byte == 32) (digits ++ 32 ∷ rest) ≡ length digits
first_space [] rest all = refl
first_space (b ∷ bs) rest all = rw (not_space b all.0) (let e = first_space bs rest all.1 in omega (arith, e))

-- an address ends at the first space
pub address_ends : (most at n : ℕ) (text : List ℕ) (is : IsStretch most at n text) → position (λ byte. byte == 32) text ≡ Some (length is.first)
address_ends most at n text is =
    let place = ap (position_or_len (λ byte. byte == 32)) is.written ∙ first_space is.first is.count is.is_address.digits.1 in
    let whole = ap length is.written ∙ length-append is.first (32 ∷ is.count) in
    grind (arith, nat_tests)

pub before_space : (most at n space : ℕ) (text : List ℕ) → Some space ≡ position (λ byte. byte == 32) text → (is : IsStretch most at n text) → take space text ≡ is.first
before_space most at n space text found is =
    let same : space ≡ length is.first = (let e = found ∙ address_ends most at n text is in cc) in
    ap (λ (k : ℕ). take k text) same ∙ ap (take (length is.first)) is.written ∙ take-append_seam is.first (32 ∷ is.count)

pub behind_space : (most at n space : ℕ) (text : List ℕ) → Some space ≡ position (λ byte. byte == 32) text → (is : IsStretch most at n text) → drop (space + 1) text ≡ is.count
behind_space most at n space text found is =
    let same : space ≡ length is.first = (let e = found ∙ address_ends most at n text is in cc) in
    ap (λ (k : ℕ). drop (k + 1) text) same ∙ ap (drop (length is.first + 1)) is.written ∙ drop-append-add is.first (32 ∷ is.count) 1

-- all that stands behind the first k bytes
pub all_behind : (k : ℕ) (text : List ℕ) → take (length text - k) (drop k text) ≡ drop k text
all_behind k text = ap (λ (n : ℕ). take n (drop k text)) (sym (length-drop k text)) ∙ take-length (drop k text)

-- what stands round a space makes the text
pub around_space : (space : ℕ) (text : List ℕ) → Some space ≡ position (λ byte. byte == 32) text → text ≡ take space text ++ (32 ∷ drop (space + 1) text)
around_space space text found =
    let (within, passes, _) = position-Some (λ byte. byte == 32) text space 0 (sym found) in
    let at : get_or text space 0 ≡ 32 = grind (arith, nat_tests) in
    let next : suc space ≡ space + 1 = omega arith in
    let rest = drop-cons text space 0 within ∙ ap (λ (b : ℕ). b ∷ drop (suc space) text) at ∙ ap (λ (k : ℕ). 32 ∷ drop k text) next in
    sym (take-append-drop space text) ∙ ap (λ (xs : List ℕ). take space text ++ xs) rest
