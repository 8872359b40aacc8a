-- Breakpoints one after the other.
use Rattle.std.proofs.Common.{◌≡◌, ℕ, suc, ◌+◌, ◌/◌, ◌%◌, ◌^◌, ◌<◌, List, [], ◌∷◌, length, drop, drop-cons, get_or, ap, sym, ◌∙◌, arith, Option, Some, None}
use Rattle.std.specs.Prelude.{if◌then◌else◌, bit_or, IfSome}
use Rattle.mdl_state.specs.declared.Size.{Size}
use Rattle.mdl_state.specs.declared.Size.TheVariants.{B1}
use Rattle.mdl_state.specs.declared.Who.{Who}
use Rattle.mdl_state.specs.declared.Access.{Access}
use Rattle.mdl_state.specs.declared.Watch.{Watch}
use Rattle.mdl_state.specs.State.{Mem}
use Rattle.mdl_state.specs.Serving.{Pick, Passed, by_pick}
use Rattle.mdl_state.specs.Accesses.{read_at}
use Rattle.mdl_state.specs.Watches.{meets, hits_after, watching}
use Rattle.mdl_state.specs.WatchLaws.{read_within}

-- the first of those that are left
pub one_more : (ws : List Watch) (i : ℕ) (d : Watch) (lin : ℕ) (size : Size) (access : Access) (hits more : ℕ) → i < length ws
    → more ≡ (if meets (get_or ws i d) lin size access then bit_or hits (get_or ws i d).bits else hits)
    → hits_after (drop (i + 1) ws) lin size access more ≡ hits_after (drop i ws) lin size access hits
one_more ws i d lin size access hits more h e =
    let next : i + 1 ≡ suc i = omega arith in
    ap (λ (n : ℕ). hits_after (drop n ws) lin size access more) next
    ∙ ap (hits_after (drop (suc i) ws) lin size access) e
    ∙ sym (ap (λ (vs : List Watch). hits_after vs lin size access hits) (drop-cons ws i d h))

-- ---- eight bytes at hand

-- reading eight bytes that are at hand, where no breakpoint is looked for
pub near_beside : (pick : Pick) (m : Mem) (ws : List Watch) (hits lin : ℕ) (who : Who) (o : Option ℕ) → length ws ≡ 0
    → IfSome o (λ word. (i : ℕ) → i < 8 → (Passed (word / 256 ^ i % 256), m) ≡ read_at (by_pick pick) m ((lin + i) % 2 ^ 32) B1 who)
    → IfSome o (λ word. (i : ℕ) → i < 8 → (Passed (word / 256 ^ i % 256), watching m ws hits) ≡ read_at (by_pick pick) (watching m ws hits) ((lin + i) % 2 ^ 32) B1 who)
near_beside pick m ws hits lin who None e h = tt
near_beside pick m [] hits lin who (Some word) e h = λ i small. read_within pick m m [] hits ((lin + i) % 2 ^ 32) B1 who (Passed (word / 256 ^ i % 256)) (h i small)
near_beside pick m (w ∷ ws) hits lin who (Some word) e h = absurd (omega (arith, e))
