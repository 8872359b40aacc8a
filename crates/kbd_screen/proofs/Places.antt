-- The places of the queue.
use Rattle.std.proofs.Common.{ℕ, ◌-◌, ◌≡◌, List, [], ◌∷◌, ◌++◌, length, refl, ap, arith, All, length-append}
use Rattle.std.specs.Prelude.{replicate}
use Rattle.std.specs.List.{AllByRecursion}
use Rattle.std.proofs.lemmas.List.Elements.{recursion_from_All}
use Rattle.mdl_dev.specs.KeyboardImage.{places_of}

zeros_by_recursion : (xs : List ℕ) → AllByRecursion (λ x. x ≡ 0) xs → replicate (length xs) 0 ≡ xs
zeros_by_recursion [] h = refl
zeros_by_recursion (x ∷ xs) h = cc (zeros_by_recursion xs h.1, h.0)

-- a list of zeros is so many zeros
pub zeros : (xs : List ℕ) → All (λ x. x ≡ 0) xs → replicate (length xs) 0 ≡ xs
zeros xs h = zeros_by_recursion xs (recursion_from_All (λ x. x ≡ 0) xs h)

-- the places are the bytes that wait and what is free
pub places_are_whole : (waiting free places : List ℕ) → waiting ++ free ≡ places → length places ≡ 16 → All (λ x. x ≡ 0) free → places_of waiting ≡ places
places_are_whole waiting free places whole h zero =
    let rest : 16 - length waiting ≡ length free = omega (arith, length-append waiting free, ap length whole) in
    rw (rest, zeros free zero) whole
