-- The packed flags of an operation are what the operation leaves in EFLAGS.
use Rattle.std.proofs.Common.{◌≡◌, ◌≢◌, ℕ, refl, sym, ◌∙◌, ap, arith, Bool, true, false}
use Rattle.std.specs.Int.{bit_at, from_bool}
use Rattle.std.proofs.lemmas.Nat.Bits.{bit_at-lt}
use Rattle.std.proofs.lemmas.Bool.Decides.{nat_tests}
use Rattle.mdl_state.specs.declared.Size.{Size}
use Rattle.mdl_num.specs.Flags.{is_set, with_bit, put, flags_after, status_of_result}
use Rattle.mdl_num.specs.Sums.{sum_status, difference_status, logic_status, increment_status, decrement_status}
use Rattle.mdl_num.specs.declared.status.Flag.{Flag}
use Rattle.mdl_num.specs.declared.status.Flag.TheVariants.{Tells, Undefined, Stays}
use Rattle.mdl_num.specs.declared.status.Status.{Status}
use Rattle.mdl_num.specs.declared.status.TheConstants.{CF, PF, AF, ZF, SF, OF}
use Rattle.mdl_num.proofs.Places.{bit_at-with_bit, bit_at-with_bit_other, from_bool-lt, with_bit-same}
use Rattle.lazy_flags.specs.Keeper.{copied, with_status, operation_status, plain_status}
use Rattle.lazy_flags.specs.declared.operation.FlagOp.{FlagOp}
use Rattle.lazy_flags.specs.declared.operation.FlagOp.TheVariants.{Add, AddCarry, Sub, SubBorrow, Logic, Inc, Dec, Plain}

-- a bit as a truth value, and as a bit again
pub from_bool-is_set : (n k : ℕ) → from_bool (is_set n k) ≡ bit_at n k
unfolding is_set
from_bool-is_set n k = grind (arith, nat_tests, bit_at-lt n k)

pub ruleset bits = (from_bool-is_set)

pub put_other : (k : ℕ) (f : Flag) (free n j : ℕ) → j ≢ k → bit_at (put k f free n) j ≡ bit_at n j
put_other k (Tells b) free n j e = bit_at-with_bit_other n k (from_bool b) j (from_bool-lt b) e
put_other k Undefined free n j e = bit_at-with_bit_other n k (bit_at free k) j (bit_at-lt free k) e
put_other k Stays free n j e = refl

pub copied_other : (k from n j : ℕ) → j ≢ k → bit_at (copied k from n) j ≡ bit_at n j
copied_other k from n j e = bit_at-with_bit_other n k (from_bool (is_set from k)) j (from_bool-lt (is_set from k)) e

pub copied_own : (k from n : ℕ) → bit_at (copied k from n) k ≡ bit_at from k
copied_own k from n = bit_at-with_bit n k (from_bool (is_set from k)) (from_bool-lt (is_set from k)) ∙ from_bool-is_set from k

put_own : (k : ℕ) (f : Flag) (free n : ℕ) (b : Bool) → f ≡ Tells b → bit_at (put k f free n) k ≡ from_bool b
put_own k f free n b e = rw e (bit_at-with_bit n k (from_bool b) (from_bool-lt b))

-- what F, the keeper's flags, and G, the packed ones, must tell of a flag of n
abbrev Agrees : Flag → ℕ → ℕ → ℕ → ℕ → Type 0
Agrees (Tells b) k F G n = bit_at F k ≡ from_bool b
Agrees Undefined k F G n = bit_at G k ≡ bit_at F k
Agrees Stays k F G n = bit_at n k ≡ bit_at F k

step : (k : ℕ) (f : Flag) (F G n : ℕ) → Agrees f k F G n → copied k F n ≡ put k f G n
step k (Tells b) F G n h = ap (λ m. with_bit n k m) (from_bool-is_set F k ∙ h)
step k Undefined F G n h = ap (λ m. with_bit n k m) (from_bool-is_set F k ∙ sym h)
step k Stays F G n h = ap (λ m. with_bit n k m) (from_bool-is_set F k ∙ sym h) ∙ with_bit-same n k

-- the packed adjust flag is the keeper's
packed_adjust : (e F : ℕ) → bit_at (with_status e F) AF ≡ bit_at F AF
unfolding with_status
packed_adjust e F = copied_other OF F _ AF (omega arith) ∙ copied_other SF F _ AF (omega arith) ∙ copied_other ZF F _ AF (omega arith)
    ∙ copied_own AF F _

-- where the rules agree with the packed flags, these are what the rules leave
packed : (s : Status) (e F G : ℕ) → with_status e F ≡ G
    → Agrees s.carry CF F G e
    → Agrees s.parity PF F G (put CF s.carry G e)
    → Agrees s.adjust AF F G (put PF s.parity G (put CF s.carry G e))
    → Agrees s.zero ZF F G (put AF s.adjust G (put PF s.parity G (put CF s.carry G e)))
    → Agrees s.sign SF F G (put ZF s.zero G (put AF s.adjust G (put PF s.parity G (put CF s.carry G e))))
    → Agrees s.overflow OF F G (put SF s.sign G (put ZF s.zero G (put AF s.adjust G (put PF s.parity G (put CF s.carry G e)))))
    → with_status e F ≡ flags_after s e G
unfolding with_status flags_after
packed s e F G same c p a z n o =
    let carry = step CF s.carry F G e c in
    let parity = ap (copied PF F) carry ∙ step PF s.parity F G _ p in
    let adjust = ap (copied AF F) parity ∙ step AF s.adjust F G _ a in
    let zero = ap (copied ZF F) adjust ∙ step ZF s.zero F G _ z in
    let sign = ap (copied SF F) zero ∙ step SF s.sign F G _ n in
    ap (copied OF F) sign ∙ step OF s.overflow F G _ o

-- a flag that a rule tells is told in what the rules leave
pub left_carry : (s : Status) (old free : ℕ) (b : Bool) → s.carry ≡ Tells b → bit_at (flags_after s old free) CF ≡ from_bool b
unfolding flags_after
left_carry s old free b e =
    put_other OF s.overflow free _ CF (omega arith) ∙ put_other SF s.sign free _ CF (omega arith) ∙ put_other ZF s.zero free _ CF (omega arith)
    ∙ put_other AF s.adjust free _ CF (omega arith) ∙ put_other PF s.parity free _ CF (omega arith)
    ∙ put_own CF s.carry free old b e

pub left_parity : (s : Status) (old free : ℕ) (b : Bool) → s.parity ≡ Tells b → bit_at (flags_after s old free) PF ≡ from_bool b
unfolding flags_after
left_parity s old free b e =
    put_other OF s.overflow free _ PF (omega arith) ∙ put_other SF s.sign free _ PF (omega arith) ∙ put_other ZF s.zero free _ PF (omega arith)
    ∙ put_other AF s.adjust free _ PF (omega arith) ∙ put_own PF s.parity free _ b e

pub left_adjust : (s : Status) (old free : ℕ) (b : Bool) → s.adjust ≡ Tells b → bit_at (flags_after s old free) AF ≡ from_bool b
unfolding flags_after
left_adjust s old free b e =
    put_other OF s.overflow free _ AF (omega arith) ∙ put_other SF s.sign free _ AF (omega arith) ∙ put_other ZF s.zero free _ AF (omega arith)
    ∙ put_own AF s.adjust free _ b e

pub left_zero : (s : Status) (old free : ℕ) (b : Bool) → s.zero ≡ Tells b → bit_at (flags_after s old free) ZF ≡ from_bool b
unfolding flags_after
left_zero s old free b e =
    put_other OF s.overflow free _ ZF (omega arith) ∙ put_other SF s.sign free _ ZF (omega arith) ∙ put_own ZF s.zero free _ b e

pub left_sign : (s : Status) (old free : ℕ) (b : Bool) → s.sign ≡ Tells b → bit_at (flags_after s old free) SF ≡ from_bool b
unfolding flags_after
left_sign s old free b e = put_other OF s.overflow free _ SF (omega arith) ∙ put_own SF s.sign free _ b e

pub left_overflow : (s : Status) (old free : ℕ) (b : Bool) → s.overflow ≡ Tells b → bit_at (flags_after s old free) OF ≡ from_bool b
unfolding flags_after
left_overflow s old free b e = put_own OF s.overflow free _ b e

abbrev told : Bool → Bool → Bool → Bool → Bool → Bool → Status
told c p a z n o = record { carry = Tells c; parity = Tells p; adjust = Tells a; zero = Tells z; sign = Tells n; overflow = Tells o }

packed_told : (c p a z n o : Bool) (e F : ℕ) → F ≡ flags_after (told c p a z n o) 0 F
    → with_status e F ≡ flags_after (told c p a z n o) e (with_status e F)
packed_told c p a z n o e F left =
    packed (told c p a z n o) e F (with_status e F) refl
    (ap (λ m. bit_at m CF) left ∙ left_carry (told c p a z n o) 0 F c refl)
    (ap (λ m. bit_at m PF) left ∙ left_parity (told c p a z n o) 0 F p refl)
    (ap (λ m. bit_at m AF) left ∙ left_adjust (told c p a z n o) 0 F a refl)
    (ap (λ m. bit_at m ZF) left ∙ left_zero (told c p a z n o) 0 F z refl)
    (ap (λ m. bit_at m SF) left ∙ left_sign (told c p a z n o) 0 F n refl)
    (ap (λ m. bit_at m OF) left ∙ left_overflow (told c p a z n o) 0 F o refl)

packed_kept : (c p a z n o : Bool) (e F : ℕ) → is_set e CF ≡ c → F ≡ flags_after (told c p a z n o) 0 F
    → with_status e F ≡ flags_after (record (told c p a z n o) { carry = Stays }) e (with_status e F)
packed_kept c p a z n o e F kept left =
    packed (record (told c p a z n o) { carry = Stays }) e F (with_status e F) refl
    (sym (from_bool-is_set e CF) ∙ ap from_bool kept ∙ sym (ap (λ m. bit_at m CF) left ∙ left_carry (told c p a z n o) 0 F c refl))
    (ap (λ m. bit_at m PF) left ∙ left_parity (told c p a z n o) 0 F p refl)
    (ap (λ m. bit_at m AF) left ∙ left_adjust (told c p a z n o) 0 F a refl)
    (ap (λ m. bit_at m ZF) left ∙ left_zero (told c p a z n o) 0 F z refl)
    (ap (λ m. bit_at m SF) left ∙ left_sign (told c p a z n o) 0 F n refl)
    (ap (λ m. bit_at m OF) left ∙ left_overflow (told c p a z n o) 0 F o refl)

abbrev untold_adjust : Bool → Bool → Bool → Bool → Bool → Status
untold_adjust c p z n o = record { carry = Tells c; parity = Tells p; adjust = Undefined; zero = Tells z; sign = Tells n; overflow = Tells o }

packed_logic : (c p z n o : Bool) (e F : ℕ) → F ≡ flags_after (untold_adjust c p z n o) 0 F
    → with_status e F ≡ flags_after (untold_adjust c p z n o) e (with_status e F)
packed_logic c p z n o e F left =
    packed (untold_adjust c p z n o) e F (with_status e F) refl
    (ap (λ m. bit_at m CF) left ∙ left_carry (untold_adjust c p z n o) 0 F c refl)
    (ap (λ m. bit_at m PF) left ∙ left_parity (untold_adjust c p z n o) 0 F p refl)
    (packed_adjust e F)
    (ap (λ m. bit_at m ZF) left ∙ left_zero (untold_adjust c p z n o) 0 F z refl)
    (ap (λ m. bit_at m SF) left ∙ left_sign (untold_adjust c p z n o) 0 F n refl)
    (ap (λ m. bit_at m OF) left ∙ left_overflow (untold_adjust c p z n o) 0 F o refl)

-- the keeper's flags F after an operation, packed into EFLAGS, are the flags after that operation
pub with_status-operation : (op : FlagOp) (size : Size) (a b e F : ℕ) → F ≡ flags_after (operation_status op size a b) 0 F
    → with_status e F ≡ flags_after (operation_status op size a b) e (with_status e F)
unfolding operation_status sum_status difference_status logic_status status_of_result
with_status-operation Add size a b e F left = packed_told _ _ _ _ _ _ e F left
with_status-operation (AddCarry carry) size a b e F left = packed_told _ _ _ _ _ _ e F left
with_status-operation Sub size a b e F left = packed_told _ _ _ _ _ _ e F left
with_status-operation (SubBorrow borrow) size a b e F left = packed_told _ _ _ _ _ _ e F left
with_status-operation Logic size a b e F left = packed_logic _ _ _ _ _ e F left
with_status-operation (Inc kept) size a b e F left = packed_told _ _ _ _ _ _ e F left
with_status-operation (Dec kept) size a b e F left = packed_told _ _ _ _ _ _ e F left
with_status-operation Plain size a b e F left = packed_told _ _ _ _ _ _ e F left

-- where the kept carry is that of EFLAGS, they are those after INC and DEC
pub with_status-increment : (size : Size) (a b e F : ℕ) → F ≡ flags_after (operation_status (Inc (is_set e CF)) size a b) 0 F
    → with_status e F ≡ flags_after (increment_status size a) e (with_status e F)
unfolding operation_status sum_status increment_status status_of_result
with_status-increment size a b e F left = packed_kept _ _ _ _ _ _ e F refl left

pub with_status-decrement : (size : Size) (a b e F : ℕ) → F ≡ flags_after (operation_status (Dec (is_set e CF)) size a b) 0 F
    → with_status e F ≡ flags_after (decrement_status size a) e (with_status e F)
unfolding operation_status difference_status decrement_status status_of_result
with_status-decrement size a b e F left = packed_kept _ _ _ _ _ _ e F refl left

carry_alone : (b : Bool) → with_bit 0 CF (from_bool b) ≡ from_bool b
unfolding with_bit
carry_alone true = refl
carry_alone false = refl

-- a carry that is told is one that stays where it stood alone
pub kept_carry : (s : Status) (b : Bool) (free : ℕ)
    → flags_after (record s { carry = Stays }) (from_bool b) free ≡ flags_after (record s { carry = Tells b }) 0 free
unfolding flags_after
kept_carry s b free = rw (carry_alone b) refl

pub left_plain : (a : ℕ) → with_status 0 a ≡ flags_after (plain_status a) 0 (with_status 0 a)
unfolding with_status flags_after
left_plain a = refl
