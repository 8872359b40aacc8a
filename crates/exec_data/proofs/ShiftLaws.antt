-- The flags that shifts leave need none of those before; those of SHL are a sum's.
use Rattle.std.proofs.Common.{◌≡◌, ◌≢◌, ℕ, suc, ◌+◌, ◌-◌, ◌*◌, ◌%◌, ◌^◌, ◌<◌, refl, sym, ◌∙◌, ap, arith, Bool, true, false, pow-suc}
use Rattle.std.specs.Prelude.{◌==◌, nat_le, if◌then◌else◌}
use Rattle.std.specs.Int.{bit_at, from_bool}
use Rattle.std.proofs.lemmas.Bool.Decides.{nat_tests}
use Rattle.std.proofs.Math.Nat.{mul_assoc, mul_comm}
use Rattle.mdl_state.specs.declared.Size.{Size}
use Rattle.mdl_state.specs.declared.Size.TheVariants.{B1, B2, B4}
use Rattle.mdl_state.specs.Bytes.{bits_of, bound_of}
use Rattle.mdl_num.specs.Sizes.{signed_of, fits_signed}
use Rattle.mdl_num.specs.Flags.{is_set, with_bit, put, flags_after, status_of_result}
use Rattle.mdl_num.specs.Sums.{sum_value, sum_overflows, sum_status}
use Rattle.mdl_num.specs.Shifts.{masked, shifted, shift_value, shifts_out, sign_differs, shift_status, shift_flags}
use Rattle.mdl_num.specs.declared.results.ShiftOp.{ShiftOp}
use Rattle.mdl_num.specs.declared.results.ShiftOp.TheVariants.{Shl}
use Rattle.mdl_num.specs.declared.status.Flag.{Flag}
use Rattle.mdl_num.specs.declared.status.Flag.TheVariants.{Tells, Undefined, Stays}
use Rattle.mdl_num.specs.declared.status.Status.{Status}
use Rattle.mdl_num.specs.declared.status.TheConstants.{CF, PF, AF, ZF, SF, OF}
use Rattle.lazy_flags.specs.Keeper.{copied, with_status, kept}
use Rattle.lazy_flags.specs.declared.operation.FlagOp.TheVariants.{Add}
use Rattle.lazy_flags.proofs.Packing.{from_bool-is_set, left_carry, left_parity, left_adjust, left_zero, left_sign, left_overflow}
use Rattle.operands.proofs.Statuses.{packed_again, sum_kept}

-- ---- flags that all change

-- bit k of n is as the rule says, which leaves no flag as it was
abbrev Says : Flag → ℕ → ℕ → Type 0
Says (Tells b) k n = bit_at n k ≡ from_bool b
Says Undefined k n = n ≡ n
Says Stays k n = ⊥

said : (k : ℕ) (f : Flag) (n m : ℕ) → Says f k n → put k f n m ≡ copied k n m
said k (Tells b) n m s = ap (λ x. with_bit m k x) (sym s ∙ sym (from_bool-is_set n k))
said k Undefined n m s = ap (λ x. with_bit m k x) (sym (from_bool-is_set n k))
said k Stays n m s = absurd s

-- n has each of its flags as the rules say
record Said (s : Status) (n : ℕ) : Type 0 where
  carry : Says s.carry CF n
  parity : Says s.parity PF n
  adjust : Says s.adjust AF n
  zero : Says s.zero ZF n
  sign : Says s.sign SF n
  overflow : Says s.overflow OF n

-- these are the flags that the rules leave, whatever was before
all_said : (s : Status) (n m : ℕ) → Said s n → flags_after s m n ≡ with_status m n
unfolding flags_after with_status
all_said s n m h =
    let carry = said CF s.carry n m h.carry in
    let parity = ap (put PF s.parity n) carry ∙ said PF s.parity n _ h.parity in
    let adjust = ap (put AF s.adjust n) parity ∙ said AF s.adjust n _ h.adjust in
    let zero = ap (put ZF s.zero n) adjust ∙ said ZF s.zero n _ h.zero in
    let sign = ap (put SF s.sign n) zero ∙ said SF s.sign n _ h.sign in
    ap (put OF s.overflow n) sign ∙ said OF s.overflow n _ h.overflow

abbrev changes : Flag → Bool
changes Stays = false
changes _ = true

says : (f : Flag) (k n : ℕ) → changes f ≡ true → ((b : Bool) → f ≡ Tells b → bit_at n k ≡ from_bool b) → Says f k n
says (Tells b) k n c told = told b refl
says Undefined k n c told = refl
says Stays k n c told = absurd (cc)

record Changes (s : Status) : Type 0 where
  carry : changes s.carry ≡ true
  parity : changes s.parity ≡ true
  adjust : changes s.adjust ≡ true
  zero : changes s.zero ≡ true
  sign : changes s.sign ≡ true
  overflow : changes s.overflow ≡ true

left_said : (s : Status) (m n : ℕ) → Changes s → n ≡ flags_after s m n → Said s n
left_said s m n c left = record {
  carry = says s.carry CF n c.carry (λ b e. ap (λ x. bit_at x CF) left ∙ left_carry s m n b e);
  parity = says s.parity PF n c.parity (λ b e. ap (λ x. bit_at x PF) left ∙ left_parity s m n b e);
  adjust = says s.adjust AF n c.adjust (λ b e. ap (λ x. bit_at x AF) left ∙ left_adjust s m n b e);
  zero = says s.zero ZF n c.zero (λ b e. ap (λ x. bit_at x ZF) left ∙ left_zero s m n b e);
  sign = says s.sign SF n c.sign (λ b e. ap (λ x. bit_at x SF) left ∙ left_sign s m n b e);
  overflow = says s.overflow OF n c.overflow (λ b e. ap (λ x. bit_at x OF) left ∙ left_overflow s m n b e);
}

-- where each flag changes, the flags before may be any
forgotten : (s : Status) (e F n : ℕ) → Changes s → n ≡ flags_after s e n → n ≡ flags_after s (with_status e F) n
forgotten s e F n c left =
    let all = left_said s e n c left in
    left ∙ all_said s n e all ∙ sym (packed_again e F n) ∙ sym (all_said s n (with_status e F) all)

-- ---- shifts by a count that is not 0

perhaps : (b x : Bool) → changes (if b then Tells x else Undefined) ≡ true
perhaps true x = refl
perhaps false x = refl

none_zero : (n : ℕ) → n ≢ 0 → (n == 0) ≡ false
none_zero n h = grind (arith, nat_tests)

-- what a shift does with the flags then
abbrev moving : Size → ℕ → ℕ → Bool → ℕ → Status
moving size before value out n = status_of_result size value
    (if nat_le n (bits_of size) then Tells out else Undefined)
    Undefined
    (if n == 1 then Tells (sign_differs size before value) else Undefined)

moves : (op : ShiftOp) (size : Size) (a count : ℕ) → count % 32 ≢ 0
    → shift_flags op size a count ≡ moving size a (shift_value op size a count) (shifts_out op size a (masked count)) (masked count)
unfolding shift_flags shift_status
moves op size a count h = rw (none_zero (count % 32) h) refl

move_changes : (size : Size) (before value : ℕ) (out : Bool) (n : ℕ) → Changes (moving size before value out n)
unfolding status_of_result
move_changes size before value out n = record {
  carry = perhaps (nat_le n (bits_of size)) out;
  parity = refl;
  adjust = refl;
  zero = refl;
  sign = refl;
  overflow = perhaps (n == 1) (sign_differs size before value);
}

pub shift_forgets : (op : ShiftOp) (size : Size) (a count e F n : ℕ) → count % 32 ≢ 0 → n ≡ flags_after (shift_flags op size a count) e n
    → n ≡ flags_after (shift_flags op size a count) (with_status e F) n
shift_forgets op size a count e F n h left =
    rw (moves op size a count h) (forgotten (moving size a _ _ (count % 32)) e F n (move_changes size a _ _ (count % 32)) (rw (moves op size a count h) at left))

-- ---- SHL

next : (n : ℕ) → n ≢ 0 → n ≡ suc (n - 1)
next n h = omega arith

half_and_half : (size : Size) (q : ℕ) → (q % bound_of size + q % bound_of size + 0) % bound_of size ≡ 2 * q % bound_of size
half_and_half B1 q = omega arith
half_and_half B2 q = omega arith
half_and_half B4 q = omega arith

half_carries : (size : Size) (q : ℕ) → nat_le (bound_of size) (q % bound_of size + q % bound_of size + 0) ≡ is_set (2 * q) (bits_of size)
unfolding is_set
half_carries B1 q = grind (arith, nat_tests)
half_carries B2 q = grind (arith, nat_tests)
half_carries B4 q = grind (arith, nat_tests)

twice_overflows : (size : Size) (a : ℕ) → a < bound_of size → sum_overflows size a a false ≡ sign_differs size a (2 * a % bound_of size)
unfolding sum_overflows signed_of fits_signed sign_differs
twice_overflows B1 a h = grind (arith, nat_tests)
twice_overflows B2 a h = grind (arith, nat_tests)
twice_overflows B4 a h = grind (arith, nat_tests)

doubled : (a k : ℕ) → a * 2 ^ suc k ≡ 2 * (a * 2 ^ k)
doubled a k = ap (λ m. a * m) (pow-suc 2 k) ∙ sym (mul_assoc a (2 ^ k) 2) ∙ mul_comm (a * 2 ^ k) 2

-- the count that is one less moves half as far
twice : (a n : ℕ) → n ≢ 0 → a * 2 ^ n ≡ 2 * (a * 2 ^ (n - 1))
twice a n h = ap (λ m. a * 2 ^ m) (next n h) ∙ doubled a (n - 1)

pub left_value : (size : Size) (a count half : ℕ) → count % 32 ≢ 0 → half ≡ a * 2 ^ (count % 32 - 1) % bound_of size
    → sum_value size half half false ≡ shift_value Shl size a count
unfolding sum_value shifted
left_value size a count half h is =
    rw is (half_and_half size (a * 2 ^ (count % 32 - 1)) ∙ sym (ap (λ m. m % bound_of size) (twice a (count % 32) h)))

left_carries : (size : Size) (a count half : ℕ) → count % 32 ≢ 0 → half ≡ a * 2 ^ (count % 32 - 1) % bound_of size
    → nat_le (bound_of size) (half + half + 0) ≡ shifts_out Shl size a (count % 32)
unfolding shifts_out
left_carries size a count half h is =
    rw is (half_carries size (a * 2 ^ (count % 32 - 1)) ∙ sym (ap (λ m. is_set m (bits_of size)) (twice a (count % 32) h)))

small_left : (size : Size) (a : ℕ) → a < bound_of size → a * 2 ^ (1 - 1) % bound_of size ≡ a
small_left B1 a h = omega arith
small_left B2 a h = omega arith
small_left B4 a h = omega arith

left_over : (size : Size) (a count half : ℕ) → a < bound_of size → count % 32 ≡ 1 → half ≡ a * 2 ^ (count % 32 - 1) % bound_of size
    → sum_overflows size half half false ≡ sign_differs size a (shift_value Shl size a count)
unfolding shifted
left_over size a count half small one is =
    let same : half ≡ a = is ∙ rw one (small_left size a small) in
    rw (same, one) (twice_overflows size a small ∙ ap (λ m. sign_differs size a (m % bound_of size)) (mul_comm 2 a))

weak : (b x y : Bool) (k n : ℕ) → (b ≡ true → x ≡ y) → bit_at n k ≡ from_bool x → Says (if b then Tells y else Undefined) k n
weak true x y k n e s = s ∙ ap from_bool (e refl)
weak false x y k n e s = refl

is_one : (n : ℕ) → (n == 1) ≡ true → n ≡ 1
is_one n h = grind (arith, nat_tests)

sum_changes : (size : Size) (a b : ℕ) → Changes (sum_status size a b false)
unfolding sum_status status_of_result
sum_changes size a b = record { carry = refl; parity = refl; adjust = refl; zero = refl; sign = refl; overflow = refl }

-- the flags of half of the value, added to itself, are those of SHL
left_said_so : (size : Size) (a count half n : ℕ) → a < bound_of size → count % 32 ≢ 0 → half ≡ a * 2 ^ (count % 32 - 1) % bound_of size
    → Said (sum_status size half half false) n
    → Said (moving size a (shift_value Shl size a count) (shifts_out Shl size a (masked count)) (masked count)) n
unfolding sum_status status_of_result
left_said_so size a count half n small h is all = record {
  carry = weak _ _ _ CF n (λ _. left_carries size a count half h is) all.carry;
  parity = rw (left_value size a count half h is) at all.parity;
  adjust = refl;
  zero = rw (left_value size a count half h is) at all.zero;
  sign = rw (left_value size a count half h is) at all.sign;
  overflow = weak _ _ _ OF n (λ e. left_over size a count half small (is_one _ e) is) all.overflow;
}

pub left_status : (size : Size) (a count half e F G : ℕ) → a < bound_of size → count % 32 ≢ 0 → half ≡ a * 2 ^ (count % 32 - 1) % bound_of size
    → G ≡ kept Add half half size → with_status e G ≡ flags_after (shift_flags Shl size a count) (with_status e F) (with_status e G)
left_status size a count half e F G small h is left =
    let n = with_status e G in
    let before = sum_kept size half half e F G left in
    let all : Said (sum_status size half half false) n = left_said (sum_status size half half false) (with_status e F) n (sum_changes size half half) before in
    rw (moves Shl size a count h)
    (before ∙ all_said (sum_status size half half false) n (with_status e F) all ∙ sym (all_said _ n (with_status e F) (left_said_so size a count half n small h is all)))

pub ruleset left_shifts = (left_status, left_value)

pub ruleset shifts_by_some = (shift_forgets)
