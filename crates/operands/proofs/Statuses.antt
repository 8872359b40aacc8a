-- Status flags that are packed into EFLAGS, unpacked, and packed again.
use Rattle.std.proofs.Common.{◌≡◌, ◌≢◌, ℕ, refl, sym, ◌∙◌, ap, arith, inl, inr, Bool, false, zero, suc, ◌<◌}
use mathlib.Core.Bool.{beq}
use Rattle.std.specs.Prelude.{◌==◌, not}
use Rattle.std.specs.Int.{bit_at}
use Rattle.std.proofs.lemmas.Bool.{cases_eq}
use Rattle.std.proofs.lemmas.Nat.Bits.{bit_at-lt, same_from_bits}
use Rattle.mdl_state.specs.declared.Size.{Size}
use Rattle.mdl_state.specs.declared.Size.TheVariants.{B4}
use Rattle.mdl_num.specs.Flags.{is_set, flags_after, untouched_status}
use Rattle.mdl_num.specs.Sums.{sum_status, difference_status, logic_status, increment_status, decrement_status}
use Rattle.mdl_num.specs.declared.status.Status.{Status}
use Rattle.mdl_num.specs.declared.status.TheConstants.{CF, PF, AF, ZF, SF, OF}
use Rattle.mdl_num.proofs.FlagLemmas.{bit_at-flags_after}
use Rattle.lazy_flags.specs.Keeper.{with_status, operation_status, kept}
use Rattle.lazy_flags.specs.declared.operation.FlagOp.TheVariants.{Add, AddCarry, Sub, SubBorrow, Logic, Inc, Dec, Plain}
use Rattle.lazy_flags.proofs.Packing.{copied_own, copied_other}
use Rattle.lazy_flags.proofs.Kept.{kept_operation, kept_increment, kept_decrement, kept_number}

-- ---- the bits of packed flags

pub overflow_bit : (e F : ℕ) → bit_at (with_status e F) OF ≡ bit_at F OF
unfolding with_status
overflow_bit e F = copied_own OF F _

pub sign_bit : (e F : ℕ) → bit_at (with_status e F) SF ≡ bit_at F SF
unfolding with_status
sign_bit e F = copied_other OF F _ SF (omega arith) ∙ copied_own SF F _

pub zero_bit : (e F : ℕ) → bit_at (with_status e F) ZF ≡ bit_at F ZF
unfolding with_status
zero_bit e F = copied_other OF F _ ZF (omega arith) ∙ copied_other SF F _ ZF (omega arith) ∙ copied_own ZF F _

adjust_bit : (e F : ℕ) → bit_at (with_status e F) AF ≡ bit_at F AF
unfolding with_status
adjust_bit e F = copied_other OF F _ AF (omega arith) ∙ copied_other SF F _ AF (omega arith) ∙ copied_other ZF F _ AF (omega arith)
    ∙ copied_own AF F _

pub parity_bit : (e F : ℕ) → bit_at (with_status e F) PF ≡ bit_at F PF
unfolding with_status
parity_bit e F = copied_other OF F _ PF (omega arith) ∙ copied_other SF F _ PF (omega arith) ∙ copied_other ZF F _ PF (omega arith)
    ∙ copied_other AF F _ PF (omega arith) ∙ copied_own PF F _

pub carry_bit : (e F : ℕ) → bit_at (with_status e F) CF ≡ bit_at F CF
unfolding with_status
carry_bit e F = copied_other OF F _ CF (omega arith) ∙ copied_other SF F _ CF (omega arith) ∙ copied_other ZF F _ CF (omega arith)
    ∙ copied_other AF F _ CF (omega arith) ∙ copied_other PF F _ CF (omega arith) ∙ copied_own CF F _

-- a bit that is no status flag's is that of EFLAGS
pub other_bit : (e F j : ℕ) → j ≢ CF → j ≢ PF → j ≢ AF → j ≢ ZF → j ≢ SF → j ≢ OF → bit_at (with_status e F) j ≡ bit_at e j
unfolding with_status
other_bit e F j c p a z n o = copied_other OF F _ j o ∙ copied_other SF F _ j n ∙ copied_other ZF F _ j z
    ∙ copied_other AF F _ j a ∙ copied_other PF F _ j p ∙ copied_other CF F _ j c

-- so is one above SF that is not OF
pub kept_bit : (e F j : ℕ) → SF < j → j ≢ OF → bit_at (with_status e F) j ≡ bit_at e j
kept_bit e F j high o = other_bit e F j (omega (arith, high)) (omega (arith, high)) (omega (arith, high)) (omega (arith, high)) (omega (arith, high)) o

pub kept_flag : (e F j : ℕ) → SF < j → j ≢ OF → is_set (with_status e F) j ≡ is_set e j
unfolding is_set
kept_flag e F j high o = rw (kept_bit e F j high o) refl

same_flags : (x y : ℕ) → bit_at x CF ≡ bit_at y CF → bit_at x PF ≡ bit_at y PF → bit_at x AF ≡ bit_at y AF
    → bit_at x ZF ≡ bit_at y ZF → bit_at x SF ≡ bit_at y SF → bit_at x OF ≡ bit_at y OF
    → ((j : ℕ) → j ≢ CF → j ≢ PF → j ≢ AF → j ≢ ZF → j ≢ SF → j ≢ OF → bit_at x j ≡ bit_at y j) → x ≡ y
same_flags x y c p a z n o rest = same_from_bits x y (λ j.
    elim (cases_eq j CF) [
      | inl e ↦ rw e c
      | inr c' ↦
          elim (cases_eq j PF) [
            | inl e ↦ rw e p
            | inr p' ↦
                elim (cases_eq j AF) [
                  | inl e ↦ rw e a
                  | inr a' ↦
                      elim (cases_eq j ZF) [
                        | inl e ↦ rw e z
                        | inr z' ↦
                            elim (cases_eq j SF) [
                              | inl e ↦ rw e n
                              | inr n' ↦
                                  elim (cases_eq j OF) [ inl e ↦ rw e o | inr o' ↦ rest j c' p' a' z' n' o' ]
                            ]
                      ]
                ]
          ]
    ])

-- the flags that are packed last are those that stand
pub packed_again : (e F G : ℕ) → with_status (with_status e F) G ≡ with_status e G
packed_again e F G = same_flags _ _
    (carry_bit (with_status e F) G ∙ sym (carry_bit e G)) (parity_bit (with_status e F) G ∙ sym (parity_bit e G))
    (adjust_bit (with_status e F) G ∙ sym (adjust_bit e G)) (zero_bit (with_status e F) G ∙ sym (zero_bit e G))
    (sign_bit (with_status e F) G ∙ sym (sign_bit e G)) (overflow_bit (with_status e F) G ∙ sym (overflow_bit e G))
    (λ j c p a z n o. other_bit (with_status e F) G j c p a z n o ∙ other_bit e F j c p a z n o ∙ sym (other_bit e G j c p a z n o))

-- flags that are packed into themselves
pub own_flags : (e : ℕ) → with_status e e ≡ e
own_flags e = same_flags _ _ (carry_bit e e) (parity_bit e e) (adjust_bit e e) (zero_bit e e) (sign_bit e e) (overflow_bit e e)
    (λ j c p a z n o. other_bit e e j c p a z n o)

-- EFLAGS as an operation leaves it is what its flags make, packed into EFLAGS as it was
pub unpacked : (s : Status) (e F G : ℕ) → G ≡ flags_after s (with_status e F) G → with_status e (kept Plain G 0 B4) ≡ G
unpacked s e F G left = kept_number e G ∙ same_flags _ _
    (carry_bit e (with_status 0 G) ∙ carry_bit 0 G) (parity_bit e (with_status 0 G) ∙ parity_bit 0 G)
    (adjust_bit e (with_status 0 G) ∙ adjust_bit 0 G) (zero_bit e (with_status 0 G) ∙ zero_bit 0 G)
    (sign_bit e (with_status 0 G) ∙ sign_bit 0 G) (overflow_bit e (with_status 0 G) ∙ overflow_bit 0 G)
    (λ j c p a z n o. other_bit e (with_status 0 G) j c p a z n o ∙ sym (ap (λ m. bit_at m j) left
    ∙ bit_at-flags_after s (with_status e F) G j c p a z n o ∙ other_bit e F j c p a z n o))

-- ---- the flags of packed flags

pub packed_carry : (e F : ℕ) → is_set (with_status e F) CF ≡ is_set F CF
unfolding is_set
packed_carry e F = rw (carry_bit e F) refl

pub packed_zero : (e F : ℕ) → is_set (with_status e F) ZF ≡ is_set F ZF
unfolding is_set
packed_zero e F = rw (zero_bit e F) refl

pub packed_parity : (e F : ℕ) → is_set (with_status e F) PF ≡ is_set F PF
unfolding is_set
packed_parity e F = rw (parity_bit e F) refl

pub packed_sign : (e F : ℕ) → is_set (with_status e F) SF ≡ is_set F SF
unfolding is_set
packed_sign e F = rw (sign_bit e F) refl

pub packed_overflow : (e F : ℕ) → is_set (with_status e F) OF ≡ is_set F OF
unfolding is_set
packed_overflow e F = rw (overflow_bit e F) refl

test_differs : (x y m n : ℕ) → x < 2 → y < 2 → x ≡ m → y ≡ n → beq (x == 1) (y == 1) ≡ (m == n)
test_differs zero zero m n p q e f = rw (← e, ← f) refl
test_differs zero (suc zero) m n p q e f = rw (← e, ← f) refl
test_differs (suc zero) zero m n p q e f = rw (← e, ← f) refl
test_differs (suc zero) (suc zero) m n p q e f = rw (← e, ← f) refl
test_differs (suc (suc x)) y m n p q e f = absurd (omega arith)
test_differs zero (suc (suc y)) m n p q e f = absurd (omega arith)
test_differs (suc zero) (suc (suc y)) m n p q e f = absurd (omega arith)

-- whether SF and OF differ
pub packed_less : (e F : ℕ) → not (bit_at (with_status e F) SF == bit_at (with_status e F) OF) ≡ not (beq (is_set F SF) (is_set F OF))
unfolding is_set
packed_less e F = ap not (sym (test_differs (bit_at F SF) (bit_at F OF) _ _ (bit_at-lt F SF) (bit_at-lt F OF) (sym (sign_bit e F)) (sym (overflow_bit e F))))

pub ruleset packed_bits = (packed_carry, packed_zero, packed_parity, packed_sign, packed_overflow)

-- ---- what the keeper's operations leave, packed

pub sum_kept : (size : Size) (a b e F G : ℕ) → G ≡ kept Add a b size
    → with_status e G ≡ flags_after (sum_status size a b false) (with_status e F) (with_status e G)
unfolding operation_status
sum_kept size a b e F G left = rw packed_again at (kept_operation Add size a b (with_status e F) G left)

pub sum_carried : (size : Size) (a b : ℕ) (carry : Bool) (e F G : ℕ) → G ≡ kept (AddCarry carry) a b size
    → with_status e G ≡ flags_after (sum_status size a b carry) (with_status e F) (with_status e G)
unfolding operation_status
sum_carried size a b carry e F G left = rw packed_again at (kept_operation (AddCarry carry) size a b (with_status e F) G left)

pub difference_kept : (size : Size) (a b e F G : ℕ) → G ≡ kept Sub a b size
    → with_status e G ≡ flags_after (difference_status size a b false) (with_status e F) (with_status e G)
unfolding operation_status
difference_kept size a b e F G left = rw packed_again at (kept_operation Sub size a b (with_status e F) G left)

pub difference_borrowed : (size : Size) (a b : ℕ) (borrow : Bool) (e F G : ℕ) → G ≡ kept (SubBorrow borrow) a b size
    → with_status e G ≡ flags_after (difference_status size a b borrow) (with_status e F) (with_status e G)
unfolding operation_status
difference_borrowed size a b borrow e F G left = rw packed_again at (kept_operation (SubBorrow borrow) size a b (with_status e F) G left)

pub logic_kept : (size : Size) (value b e F G : ℕ) → G ≡ kept Logic value b size
    → with_status e G ≡ flags_after (logic_status size value) (with_status e F) (with_status e G)
unfolding operation_status
logic_kept size value b e F G left = rw packed_again at (kept_operation Logic size value b (with_status e F) G left)

pub increment_kept : (size : Size) (a b e F G : ℕ) → G ≡ kept (Inc (is_set F CF)) a b size
    → with_status e G ≡ flags_after (increment_status size a) (with_status e F) (with_status e G)
increment_kept size a b e F G left = rw packed_again at
    (kept_increment size a b (with_status e F) G (rw (packed_carry e F) left))

pub decrement_kept : (size : Size) (a b e F G : ℕ) → G ≡ kept (Dec (is_set F CF)) a b size
    → with_status e G ≡ flags_after (decrement_status size a) (with_status e F) (with_status e G)
decrement_kept size a b e F G left = rw packed_again at
    (kept_decrement size a b (with_status e F) G (rw (packed_carry e F) left))

-- where no flag changes
pub untouched : (old free : ℕ) → old ≡ flags_after untouched_status old free
unfolding flags_after untouched_status
untouched old free = refl

pub ruleset statuses = (sum_kept, sum_carried, difference_kept, difference_borrowed, logic_kept, increment_kept, decrement_kept, untouched, packed_carry)
