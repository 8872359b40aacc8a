-- Bit tests and scans. Manual, chapters 3 and 17.
use Rattle.std.specs.Prelude.{ℕ, ◌-◌, ◌==◌, Bool, not, if◌then◌else◌}
use Rattle.std.specs.Int.{from_bool, w32, trailing_zeros, leading_zeros}
use Rattle.mdl_num.specs.Flags.{is_set, with_bit}
use Rattle.mdl_num.specs.declared.results.BitOp.{BitOp}
use Rattle.mdl_num.specs.declared.results.BitOp.TheVariants.{Bt, Bts, Btr, Btc}
use Rattle.mdl_num.specs.declared.status.Flag.TheVariants.{Tells, Undefined, Stays}
use Rattle.mdl_num.specs.declared.status.Status.{Status}

-- BT leaves the bit, BTS sets it, BTR clears it and BTC changes it
unfoldable pub bit_test_value : BitOp → ℕ → ℕ → ℕ
bit_test_value Bt a k = a
bit_test_value Bts a k = with_bit a k 1
bit_test_value Btr a k = with_bit a k 0
bit_test_value Btc a k = with_bit a k (from_bool (not (is_set a k)))

-- Own: Undefined flags. CF is the bit as it was; PF stays, and the others are undefined.
unfoldable pub bit_test_status : ℕ → ℕ → Status
bit_test_status a k = record {
  carry = Tells (is_set a k);
  parity = Stays;
  adjust = Undefined;
  zero = Undefined;
  sign = Undefined;
  overflow = Undefined;
}

-- Own: A scan of 0. BSF gives the place of the lowest 1, BSR that of the highest; the destination stays where there is none.
unfoldable pub scan_value : Bool → ℕ → ℕ → ℕ
scan_value up source dest =
    if source == 0 then dest
    else if up then trailing_zeros w32 source else (31 - leading_zeros w32 source)

-- ZF tells that there is none; the others are undefined
unfoldable pub scan_status : ℕ → Status
scan_status source = record {
  carry = Undefined;
  parity = Undefined;
  adjust = Undefined;
  zero = Tells (source == 0);
  sign = Undefined;
  overflow = Undefined;
}
