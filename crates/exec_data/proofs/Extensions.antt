-- A signed number fits each size that is no smaller.
use Rattle.std.proofs.Common.{◌≡◌, ℕ, ◌<◌, ◌≤◌, arith, true}
use Rattle.std.proofs.lemmas.Bool.Decides.{nat_tests}
use Rattle.std.proofs.lemmas.Int.{ints}
use Rattle.mdl_state.specs.declared.Size.{Size}
use Rattle.mdl_state.specs.declared.Size.TheVariants.{B1, B2, B4}
use Rattle.mdl_state.specs.Bytes.{bytes_of, bound_of}
use Rattle.mdl_num.specs.Sizes.{signed_of, fits_signed}

pub signed_fits : (from to : Size) (value : ℕ) → value < bound_of from → bytes_of from ≤ bytes_of to → fits_signed to (signed_of from value) ≡ true
unfolding signed_of fits_signed
signed_fits B1 B1 value h w = grind (arith, nat_tests, ints)
signed_fits B1 B2 value h w = grind (arith, nat_tests, ints)
signed_fits B1 B4 value h w = grind (arith, nat_tests, ints)
signed_fits B2 B1 value h w = absurd (omega arith)
signed_fits B2 B2 value h w = grind (arith, nat_tests, ints)
signed_fits B2 B4 value h w = grind (arith, nat_tests, ints)
signed_fits B4 B1 value h w = absurd (omega arith)
signed_fits B4 B2 value h w = absurd (omega arith)
signed_fits B4 B4 value h w = grind (arith, nat_tests, ints)
