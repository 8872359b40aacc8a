-- A byte stays a byte where one of its two low bits is set.
use Rattle.std.proofs.Common.{◌≢◌, ◌≤◌, ◌<◌, ℕ, zero, suc, ◌+◌, ◌*◌, ◌/◌, ◌%◌, ◌^◌, arith}

pub marked_byte : (byte n : ℕ) → byte < 256 → n ≤ 1 → byte / (1 * 2 ^ n % 4294967296) % 2 ≢ 1 → byte + 1 * 2 ^ n % 4294967296 < 256
marked_byte byte zero b h e = omega (arith, b, e)
marked_byte byte (suc zero) b h e = omega (arith, b, e)
marked_byte byte (suc (suc n)) b h e = omega (arith, h)
