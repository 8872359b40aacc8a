-- Bits of the registers that the code makes.
use Rattle.std.proofs.Common.{◌≡◌, ◌≢◌, ℕ, ◌*◌, ◌%◌, ◌^◌, ◌<◌, ◌&&◌, ◌||◌, not, false, sym, arith, bit_and, bit_or}
use Rattle.std.specs.Int.{w8, bit_not}
use Rattle.std.proofs.lemmas.Nat.Bits.{bit_at_and, bit_at_or, bit_at_not, bit_at-lt, bit_at_set_other}
use Rattle.mdl_dev.specs.Pic.{has}
use Rattle.mdl_dev.specs.declared.pic.TheConstants.{CASCADE}

pub has_and_not : (a b line : ℕ) → b < 256 → line < 8 → has (bit_and a (bit_not w8 b)) line ≡ (has a line && not (has b line))
has_and_not a b line small h = grind (arith, bit_at_and a (bit_not w8 b) line, bit_at_not w8 b line small h, bit_at-lt a line, bit_at-lt b line)

pub has_or : (a b line : ℕ) → has (bit_or a b) line ≡ (has a line || has b line)
has_or a b line = grind (arith, bit_at_or a b line, bit_at-lt a line, bit_at-lt b line)

-- to set a line's bit leaves that of the second chip's line
pub set_other : (register line : ℕ) → line < 8 → line ≢ CASCADE → has (bit_or register (1 * 2 ^ line % 256)) CASCADE ≡ has register CASCADE
set_other register line h apart = grind (arith, bit_at_set_other w8 register line h CASCADE (λ same. apart (sym same)))

-- to clear a line's bit sets none
pub stays_clear : (register line : ℕ) → has register CASCADE ≡ false → has (bit_and register (bit_not w8 (1 * 2 ^ line % 256))) CASCADE ≡ false
stays_clear register line clear = grind (arith, bit_at_and register (bit_not w8 (1 * 2 ^ line % 256)) CASCADE, bit_at-lt register CASCADE)
