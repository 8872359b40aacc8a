-- What the keeper is seen as tells the flags and the last operation.
use Rattle.std.proofs.lemmas.Bool.{cases_eq}
use Rattle.std.proofs.Common.{◌≡◌, inl, inr, ◌≢◌, ℕ, ◌+◌, ◌*◌, ◌^◌, ◌<◌, refl, sym, ◌∙◌, ap, arith, Bool, true, false, List, [], ◌∷◌, get_or}
use Rattle.std.specs.Prelude.{IsTrue, ◌==◌}
use Rattle.std.specs.Int.{bit_at, from_bool}
use Rattle.std.proofs.lemmas.Nat.Bits.{bit_at-lt, bit_at_cat_low}
use Rattle.mdl_state.specs.declared.Size.{Size}
use Rattle.mdl_state.specs.declared.Size.TheVariants.{B1, B2, B4}
use Rattle.mdl_num.specs.Flags.{is_set, with_bit, put, flags_after, status_of_result}
use Rattle.mdl_num.specs.Sums.{sum_status, difference_status, logic_status, increment_status, decrement_status}
use Rattle.mdl_num.specs.declared.status.Flag.{Flag}
use Rattle.mdl_num.specs.declared.status.Flag.TheVariants.{Tells, Undefined, Stays}
use Rattle.mdl_num.specs.declared.status.TheConstants.{CF, PF, AF, ZF, SF, OF}
use Rattle.mdl_num.specs.declared.status.Status.{Status}
use Rattle.mdl_num.proofs.Places.{bit_at-with_bit, with_bit-lt, from_bool-lt}
use Rattle.lazy_flags.specs.Keeper.{with_status, is_status_bit, operation_status, plain_status, operation_number, size_number, left, kept}
use Rattle.lazy_flags.specs.declared.operation.FlagOp.{FlagOp}
use Rattle.lazy_flags.specs.declared.operation.FlagOp.TheVariants.{Add, AddCarry, Sub, SubBorrow, Logic, Inc, Dec, Plain}
use Rattle.lazy_flags.proofs.Packing.{put_other, left_carry, left_parity, left_adjust, left_zero, left_sign, left_overflow, with_status-operation, with_status-increment, with_status-decrement}

-- ---- the flags

low_bit : (op : FlagOp) (a b : ℕ) (size : Size) (k : ℕ) → k < 12 → bit_at (kept op a b size) k ≡ bit_at (left op a b size) k
unfolding kept
low_bit op a b size k h = bit_at_cat_low (operation_number op + 16 * (size_number size + 4 * (a + 2 ^ 32 * b))) 12 (left op a b size) k h

low_flag : (op : FlagOp) (a b : ℕ) (size : Size) (k : ℕ) → k < 12 → is_set (kept op a b size) k ≡ is_set (left op a b size) k
unfolding is_set
low_flag op a b size k h = ap (λ n. n == 1) (low_bit op a b size k h)

status_low : (k : ℕ) → IsTrue (is_status_bit k) → k < 12
status_low k h = grind arith

pub kept_flag : (op : FlagOp) (a b : ℕ) (size : Size) (k : ℕ) → IsTrue (is_status_bit k) → is_set (left op a b size) k ≡ is_set (kept op a b size) k
kept_flag op a b size k h = sym (low_flag op a b size k (status_low k h))

pub kept_packed : (op : FlagOp) (a b : ℕ) (size : Size) (e : ℕ) → with_status e (left op a b size) ≡ with_status e (kept op a b size)
unfolding with_status
kept_packed op a b size e = sym (rw (
  low_flag op a b size CF (omega arith),
  low_flag op a b size PF (omega arith),
  low_flag op a b size AF (omega arith),
  low_flag op a b size ZF (omega arith),
  low_flag op a b size SF (omega arith),
  low_flag op a b size OF (omega arith),
) refl)

no_adjust : (s : Status) → s.adjust ≡ Undefined → bit_at (flags_after s 0 0) AF ≡ bit_at 0 AF
unfolding flags_after
no_adjust s e =
    put_other OF s.overflow 0 _ AF (omega arith) ∙ put_other SF s.sign 0 _ AF (omega arith) ∙ put_other ZF s.zero 0 _ AF (omega arith)
    ∙ rw e (bit_at-with_bit _ AF (bit_at 0 AF) (bit_at-lt 0 AF))

-- what an operation leaves goes by its rules, whatever an undefined flag is taken from
pub left_again : (op : FlagOp) (a b : ℕ) (size : Size) → left op a b size ≡ flags_after (operation_status op size a b) 0 (left op a b size)
unfolding left flags_after operation_status sum_status difference_status logic_status status_of_result
left_again Add a b size = refl
left_again (AddCarry carry) a b size = refl
left_again Sub a b size = refl
left_again (SubBorrow borrow) a b size = refl
left_again Logic a b size = rw (no_adjust (logic_status size a) refl) refl
left_again (Inc carry) a b size = refl
left_again (Dec carry) a b size = refl
left_again Plain a b size = refl

pub kept_operation : (op : FlagOp) (size : Size) (a b e G : ℕ) → G ≡ kept op a b size → with_status e G ≡ flags_after (operation_status op size a b) e (with_status e G)
kept_operation op size a b e G is =
    let same : with_status e (left op a b size) ≡ with_status e G = kept_packed op a b size e ∙ ap (with_status e) (sym is) in
    rw same at (with_status-operation op size a b e (left op a b size) (left_again op a b size))

pub kept_increment : (size : Size) (a b e G : ℕ) → G ≡ kept (Inc (is_set e CF)) a b size → with_status e G ≡ flags_after (increment_status size a) e (with_status e G)
kept_increment size a b e G is =
    let same : with_status e (left (Inc (is_set e CF)) a b size) ≡ with_status e G = kept_packed (Inc (is_set e CF)) a b size e ∙ ap (with_status e) (sym is) in
    rw same at (with_status-increment size a b e (left (Inc (is_set e CF)) a b size) (left_again (Inc (is_set e CF)) a b size))

pub kept_decrement : (size : Size) (a b e G : ℕ) → G ≡ kept (Dec (is_set e CF)) a b size → with_status e G ≡ flags_after (decrement_status size a) e (with_status e G)
kept_decrement size a b e G is =
    let same : with_status e (left (Dec (is_set e CF)) a b size) ≡ with_status e G = kept_packed (Dec (is_set e CF)) a b size e ∙ ap (with_status e) (sym is) in
    rw same at (with_status-decrement size a b e (left (Dec (is_set e CF)) a b size) (left_again (Dec (is_set e CF)) a b size))

pub left_plain : (G b : ℕ) (size : Size) → left Plain G b size ≡ with_status 0 G
unfolding left operation_status with_status flags_after
left_plain G b size = refl

-- the flags of a number, packed
pub kept_number : (e G : ℕ) → with_status e (kept Plain G 0 B4) ≡ with_status e (with_status 0 G)
kept_number e G = sym (kept_packed Plain G 0 B4 e) ∙ ap (with_status e) (left_plain G 0 B4)

-- ---- the flags that are worked out one by one

told : (n k : ℕ) (b : Bool) → bit_at n k ≡ from_bool b → is_set n k ≡ b
unfolding is_set
told n k true e = ap (λ m. m == 1) e
told n k false e = ap (λ m. m == 1) e

pub carry_told : (op : FlagOp) (a b : ℕ) (size : Size) (on : Bool) → (operation_status op size a b).carry ≡ Tells on → is_set (kept op a b size) CF ≡ on
unfolding left
carry_told op a b size on e = low_flag op a b size CF (omega arith) ∙ told _ CF on (left_carry (operation_status op size a b) 0 0 on e)

pub parity_told : (op : FlagOp) (a b : ℕ) (size : Size) (on : Bool) → (operation_status op size a b).parity ≡ Tells on → is_set (kept op a b size) PF ≡ on
unfolding left
parity_told op a b size on e = low_flag op a b size PF (omega arith) ∙ told _ PF on (left_parity (operation_status op size a b) 0 0 on e)

pub zero_told : (op : FlagOp) (a b : ℕ) (size : Size) (on : Bool) → (operation_status op size a b).zero ≡ Tells on → is_set (kept op a b size) ZF ≡ on
unfolding left
zero_told op a b size on e = low_flag op a b size ZF (omega arith) ∙ told _ ZF on (left_zero (operation_status op size a b) 0 0 on e)

pub sign_told : (op : FlagOp) (a b : ℕ) (size : Size) (on : Bool) → (operation_status op size a b).sign ≡ Tells on → is_set (kept op a b size) SF ≡ on
unfolding left
sign_told op a b size on e = low_flag op a b size SF (omega arith) ∙ told _ SF on (left_sign (operation_status op size a b) 0 0 on e)

none_left : (k : ℕ) → IsTrue (is_status_bit k) → k ≢ CF → k ≢ PF → k ≢ AF → k ≢ ZF → k ≢ SF → k ≢ OF → ⊥
none_left k h c p j z n o = grind arith

adjust_told : (op : FlagOp) (a b : ℕ) (size : Size) (on : Bool) → (operation_status op size a b).adjust ≡ Tells on → is_set (kept op a b size) AF ≡ on
unfolding left
adjust_told op a b size on e = low_flag op a b size AF (omega arith) ∙ told _ AF on (left_adjust (operation_status op size a b) 0 0 on e)

overflow_told : (op : FlagOp) (a b : ℕ) (size : Size) (on : Bool) → (operation_status op size a b).overflow ≡ Tells on → is_set (kept op a b size) OF ≡ on
unfolding left
overflow_told op a b size on e = low_flag op a b size OF (omega arith) ∙ told _ OF on (left_overflow (operation_status op size a b) 0 0 on e)

-- a number that has the flags tells each of them
pub plain_told : (a b : ℕ) (size : Size) (k : ℕ) → IsTrue (is_status_bit k) → is_set (kept Plain a b size) k ≡ is_set a k
unfolding operation_status
plain_told a b size k h =
    elim (cases_eq k CF) [
      | inl e ↦ rw e (carry_told Plain a b size (is_set a CF) refl)
      | inr c ↦
          elim (cases_eq k PF) [
            | inl e ↦ rw e (parity_told Plain a b size (is_set a PF) refl)
            | inr p ↦
                elim (cases_eq k AF) [
                  | inl e ↦ rw e (adjust_told Plain a b size (is_set a AF) refl)
                  | inr j ↦
                      elim (cases_eq k ZF) [
                        | inl e ↦ rw e (zero_told Plain a b size (is_set a ZF) refl)
                        | inr z ↦
                            elim (cases_eq k SF) [
                              | inl e ↦ rw e (sign_told Plain a b size (is_set a SF) refl)
                              | inr n ↦
                                  elim (cases_eq k OF) [ inl e ↦ rw e (overflow_told Plain a b size (is_set a OF) refl) | inr o ↦ absurd (none_left k h c p j z n o) ]
                            ]
                      ]
                ]
          ]
    ]

pub ruleset told_flags = (carry_told, parity_told, zero_told, sign_told, plain_told)

-- ---- the last operation

put_lt : (k : ℕ) (f : Flag) (n : ℕ) → n < 2 ^ 12 → k < 12 → put k f 0 n < 2 ^ 12
put_lt k (Tells b) n small h = with_bit-lt n k (from_bool b) 12 small h (from_bool-lt b)
put_lt k Undefined n small h = with_bit-lt n k (bit_at 0 k) 12 small h (bit_at-lt 0 k)
put_lt k Stays n small h = small

left_small : (op : FlagOp) (a b : ℕ) (size : Size) → left op a b size < 2 ^ 12
unfolding left flags_after
left_small op a b size =
    let s : Status = operation_status op size a b in
    put_lt OF s.overflow _ (put_lt SF s.sign _ (put_lt ZF s.zero _ (put_lt AF s.adjust _ (put_lt PF s.parity _ (put_lt CF s.carry 0 (omega arith) (omega arith))
    (omega arith)) (omega arith)) (omega arith)) (omega arith)) (omega arith)

operations : List FlagOp
operations = Add ∷ AddCarry false ∷ AddCarry true ∷ Sub ∷ SubBorrow false ∷ SubBorrow true ∷ Logic ∷ Inc false ∷ Inc true ∷ Dec false ∷ Dec true ∷ Plain ∷ []

operation_back : (op : FlagOp) → get_or operations (operation_number op) Plain ≡ op
unfolding operations
operation_back Add = refl
operation_back (AddCarry false) = refl
operation_back (AddCarry true) = refl
operation_back Sub = refl
operation_back (SubBorrow false) = refl
operation_back (SubBorrow true) = refl
operation_back Logic = refl
operation_back (Inc false) = refl
operation_back (Inc true) = refl
operation_back (Dec false) = refl
operation_back (Dec true) = refl
operation_back Plain = refl

operation_small : (op : FlagOp) → operation_number op < 16
operation_small Add = omega arith
operation_small (AddCarry false) = omega arith
operation_small (AddCarry true) = omega arith
operation_small Sub = omega arith
operation_small (SubBorrow false) = omega arith
operation_small (SubBorrow true) = omega arith
operation_small Logic = omega arith
operation_small (Inc false) = omega arith
operation_small (Inc true) = omega arith
operation_small (Dec false) = omega arith
operation_small (Dec true) = omega arith
operation_small Plain = omega arith

size_back : (size : Size) → get_or (B1 ∷ B2 ∷ B4 ∷ []) (size_number size) B1 ≡ size
size_back B1 = refl
size_back B2 = refl
size_back B4 = refl

size_small : (size : Size) → size_number size < 4
size_small B1 = omega arith
size_small B2 = omega arith
size_small B4 = omega arith

parts : (x y n m a b c d p q : ℕ) → x < 16 → y < 16 → n < 4 → m < 4 → a < 2 ^ 32 → c < 2 ^ 32 → p < 2 ^ 12 → q < 2 ^ 12
    → (x + 16 * (n + 4 * (a + 2 ^ 32 * b))) * 2 ^ 12 + p ≡ (y + 16 * (m + 4 * (c + 2 ^ 32 * d))) * 2 ^ 12 + q
    → (x ≡ y) × (n ≡ m) × (a ≡ c) × (b ≡ d)
parts x y n m a b c d p q lx ly ln lm la lc lp lq e =
    let high : x + 16 * (n + 4 * (a + 2 ^ 32 * b)) ≡ y + 16 * (m + 4 * (c + 2 ^ 32 * d)) = omega arith in
    let first : x ≡ y = omega arith in
    let rest : n + 4 * (a + 2 ^ 32 * b) ≡ m + 4 * (c + 2 ^ 32 * d) = omega arith in
    let second : n ≡ m = omega arith in
    let both : a + 2 ^ 32 * b ≡ c + 2 ^ 32 * d = omega arith in
    (first, second, omega arith, omega arith)

-- the number that the keeper is seen as is that of one operation alone
pub same_last : (op : FlagOp) (a b : ℕ) (size : Size) (op' : FlagOp) (a' b' : ℕ) (size' : Size) → a < 2 ^ 32 → a' < 2 ^ 32
    → kept op a b size ≡ kept op' a' b' size' → (op ≡ op') × (a ≡ a') × (b ≡ b') × (size ≡ size')
unfolding kept
same_last op a b size op' a' b' size' la lc e =
    let all = parts (operation_number op) (operation_number op') (size_number size) (size_number size') a b a' b' (left op a b size) (left op' a' b' size')
    (operation_small op) (operation_small op') (size_small size) (size_small size') la lc (left_small op a b size) (left_small op' a' b' size') e in (
      sym (operation_back op) ∙ ap (λ n. get_or operations n Plain) all.0 ∙ operation_back op',
      all.2,
      all.3,
      sym (size_back size) ∙ ap (λ n. get_or (B1 ∷ B2 ∷ B4 ∷ []) n B1) all.1 ∙ size_back size',
    )
