-- Decimal adjustments of AL and AX. Manual, chapters 3 and 17.
use Rattle.std.specs.Prelude.{ℕ, ◌+◌, ◌-◌, ◌*◌, ◌/◌, ◌%◌, nat_lt, Bool, ◌&&◌, ◌||◌, if◌then◌else◌}
use Rattle.mdl_state.specs.declared.Size.TheVariants.{B1}
use Rattle.mdl_num.specs.Flags.{is_set, status_of_result}
use Rattle.mdl_num.specs.declared.status.Flag.TheVariants.{Tells, Undefined}
use Rattle.mdl_num.specs.declared.status.Status.{Status}
use Rattle.mdl_num.specs.declared.status.TheConstants.{CF, AF}

-- the two bytes of AX
abbrev pub ah_of : ℕ → ℕ
ah_of ax = ax / 256

abbrev pub al_of : ℕ → ℕ
al_of ax = ax % 256

abbrev pub ax_of : ℕ → ℕ → ℕ
ax_of ah al = ah * 256 + al

-- the low digit is no decimal digit, or has carried
unfoldable pub is_low_corrected : ℕ → ℕ → Bool
is_low_corrected ax flags = nat_lt 9 (ax % 16) || is_set flags AF

-- Own: The high correction of DAA and DAS. AL at the start is above 99h, or has carried.
unfoldable pub is_high_corrected : ℕ → ℕ → Bool
is_high_corrected ax flags = nat_lt 0x99 (al_of ax) || is_set flags CF

-- 6 for the low digit, 60h for the high one
unfoldable pub correction : ℕ → ℕ → ℕ
correction ax flags =
    (if is_low_corrected ax flags then 6 else 0) + (if is_high_corrected ax flags then 0x60 else 0)

-- DAA
unfoldable pub daa_al : ℕ → ℕ → ℕ
daa_al ax flags = (al_of ax + correction ax flags) % 256

unfoldable pub daa_value : ℕ → ℕ → ℕ
daa_value ax flags = ax_of (ah_of ax) (daa_al ax flags)

-- Own: Undefined flags. OF is undefined.
unfoldable pub daa_status : ℕ → ℕ → Status
daa_status ax flags = status_of_result B1 (daa_al ax flags)
    (Tells (is_high_corrected ax flags)) (Tells (is_low_corrected ax flags)) Undefined

-- DAS
unfoldable pub das_al : ℕ → ℕ → ℕ
das_al ax flags = (256 + al_of ax - correction ax flags) % 256

unfoldable pub das_value : ℕ → ℕ → ℕ
das_value ax flags = ax_of (ah_of ax) (das_al ax flags)

-- Own: The borrow of DAS. The low correction alone sets CF too where it borrows.
unfoldable pub das_status : ℕ → ℕ → Status
das_status ax flags = status_of_result B1 (das_al ax flags)
    (Tells (is_high_corrected ax flags || (is_low_corrected ax flags && nat_lt (al_of ax) 6)))
    (Tells (is_low_corrected ax flags)) Undefined

-- Own: AAA and AAS carry nothing from AL. AH changes by 1, and AL keeps its low digit.
unfoldable pub aaa_value : ℕ → ℕ → ℕ
aaa_value ax flags =
    if is_low_corrected ax flags then ax_of ((ah_of ax + 1) % 256) ((al_of ax + 6) % 16)
    else ax_of (ah_of ax) (al_of ax % 16)

unfoldable pub aas_value : ℕ → ℕ → ℕ
aas_value ax flags =
    if is_low_corrected ax flags then ax_of ((256 + ah_of ax - 1) % 256) ((256 + al_of ax - 6) % 16)
    else ax_of (ah_of ax) (al_of ax % 16)

-- CF and AF of AAA and AAS tell of the correction; the others are undefined
unfoldable pub ascii_status : ℕ → ℕ → Status
ascii_status ax flags = record {
  carry = Tells (is_low_corrected ax flags);
  parity = Undefined;
  adjust = Tells (is_low_corrected ax flags);
  zero = Undefined;
  sign = Undefined;
  overflow = Undefined;
}

-- AAM: the digits of AL to this base; AAD: the number of two such digits
unfoldable pub aam_value : ℕ → ℕ → ℕ
aam_value ax by = ax_of (al_of ax / by) (al_of ax % by)

unfoldable pub aad_value : ℕ → ℕ → ℕ
aad_value ax by = (al_of ax + ah_of ax * by) % 256

-- after AAM and AAD the flags tell of AL, and CF, AF and OF are undefined
unfoldable pub digits_status : ℕ → Status
digits_status al = status_of_result B1 al Undefined Undefined Undefined
