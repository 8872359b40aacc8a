-- An access lies within a segment where its first and its last byte do.
use Rattle.std.proofs.Common.{◌≡◌, ℕ, ◌+◌, ◌-◌, ◌&&◌, Bool, true, false, arith}
use Rattle.std.specs.Prelude.{nat_le, nat_lt}
use Rattle.std.proofs.lemmas.Bool.Decides.{nat_tests}
use Rattle.mdl_state.specs.declared.Size.{Size}
use Rattle.mdl_state.specs.declared.Size.TheVariants.{B1, B2, B4}
use Rattle.mdl_state.specs.declared.Hidden.{Hidden}
use Rattle.mdl_state.specs.Bytes.{bytes_of}
use Rattle.mdl_cpu.specs.Segments.{grows_down}
use Rattle.mdl_cpu.specs.Access.{all_inside, top_of}

-- where the offsets are those at or below the limit
pub inside_up : (protected : Bool) (h : Hidden) (o : ℕ) (size : Size) → (protected && grows_down h) ≡ false → all_inside protected h o (bytes_of size) ≡ nat_le (o + (bytes_of size - 1)) h.limit
inside_up protected h o B1 up = rw up (grind (arith, nat_tests))
inside_up protected h o B2 up = rw up (grind (arith, nat_tests))
inside_up protected h o B4 up = rw up (grind (arith, nat_tests))

-- where they are those above it
pub inside_down : (protected : Bool) (h : Hidden) (o : ℕ) (size : Size) → (protected && grows_down h) ≡ true → all_inside protected h o (bytes_of size) ≡ (nat_lt h.limit o && nat_le (o + (bytes_of size - 1)) (top_of h))
inside_down protected h o B1 down = rw down (grind (arith, nat_tests))
inside_down protected h o B2 down = rw down (grind (arith, nat_tests))
inside_down protected h o B4 down = rw down (grind (arith, nat_tests))

pub ruleset inside = (inside_up, inside_down)
