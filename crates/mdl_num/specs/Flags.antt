-- The status flags of EFLAGS. Manual, chapter 2, and the appendix on flags.
use Rattle.std.specs.Prelude.{ℕ, suc, ◌+◌, ◌*◌, ◌/◌, ◌%◌, ◌^◌, ◌==◌, Bool, nat_le, count_ones}
use Rattle.std.specs.Int.{bit_at, from_bool}
use Rattle.mdl_state.specs.declared.Size.{Size}
use Rattle.mdl_num.specs.Sizes.{half_of}
use Rattle.mdl_num.specs.declared.status.Flag.{Flag}
use Rattle.mdl_num.specs.declared.status.Flag.TheVariants.{Tells, Undefined, Stays}
use Rattle.mdl_num.specs.declared.status.Status.{Status}
use Rattle.mdl_num.specs.declared.status.TheConstants.{CF, PF, AF, ZF, SF, OF}

-- bit k is 1
unfoldable pub is_set : ℕ → ℕ → Bool
is_set n k = bit_at n k == 1

-- the bits above bit k, another bit in its place, and the bits below it
unfoldable pub with_bit : ℕ → ℕ → ℕ → ℕ
with_bit n k b = n / 2 ^ suc k * 2 ^ suc k + (b * 2 ^ k + n % 2 ^ k)

-- EFLAGS after one flag. An undefined flag is that of the number `free`.
abbrev pub put : ℕ → Flag → ℕ → ℕ → ℕ
put k (Tells b) free old = with_bit old k (from_bool b)
put k Undefined free old = with_bit old k (bit_at free k)
put k Stays free old = old

-- EFLAGS after an operation: each of the six by its rule, and every other bit as it was
unfoldable pub flags_after : Status → ℕ → ℕ → ℕ
flags_after s old free =
    put OF s.overflow free (put SF s.sign free (put ZF s.zero free
    (put AF s.adjust free (put PF s.parity free (put CF s.carry free old)))))

-- PF: the low byte has an even number of ones
unfoldable pub has_even_parity : ℕ → Bool
has_even_parity n = count_ones (n % 256) % 2 == 0

-- PF, ZF and SF tell of the result; the rules of CF, AF and OF are given
unfoldable pub status_of_result : Size → ℕ → Flag → Flag → Flag → Status
status_of_result size value cf af of = record {
  carry = cf;
  parity = Tells (has_even_parity value);
  adjust = af;
  zero = Tells (value == 0);
  sign = Tells (nat_le (half_of size) value);
  overflow = of;
}

-- no flag changes
unfoldable pub untouched_status : Status
untouched_status = record {
  carry = Stays;
  parity = Stays;
  adjust = Stays;
  zero = Stays;
  sign = Stays;
  overflow = Stays;
}
