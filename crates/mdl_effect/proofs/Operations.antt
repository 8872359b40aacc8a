-- Accesses, the stack and operands as parts of plans: what each way through them ends with.
use Rattle.std.proofs.Common.{◌≡◌, ℕ, Bool, true, false, cond, refl, arith}
use Rattle.std.specs.Prelude.{◌||◌, ⊤, nat_le, if◌then◌else◌, Ok, Err}
use Rattle.mdl_state.specs.declared.Size.{Size}
use Rattle.mdl_state.specs.declared.Seg.{Seg}
use Rattle.mdl_state.specs.declared.Seg.TheVariants.{Cs, Ss}
use Rattle.mdl_state.specs.declared.Regs.{Regs}
use Rattle.mdl_state.specs.declared.Fault.{Fault}
use Rattle.mdl_state.specs.Registers.{seg_of}
use Rattle.mdl_state.specs.Attempt.{Plan, Done, Fail, Load, Store, Translate, Get, Hold, Input, then_plan, checked}
use Rattle.mdl_state.specs.Ends.{Ends, then_ends, either_ends}
use Rattle.mdl_insn.specs.declared.instruction.Operand.{Operand}
use Rattle.mdl_insn.specs.declared.instruction.Operand.TheVariants.{Nothing, Gpr, Imm, At, Rel}
use Rattle.mdl_cpu.specs.Segments.{who_of}
use Rattle.mdl_cpu.specs.Addresses.{offset_of}
use Rattle.mdl_cpu.specs.Access.{legal, segment_fault, load_from, store_to}
use Rattle.mdl_cpu.specs.Stack.{push_plan, pop_plan}
use Rattle.mdl_cpu.specs.Steady.{Steady}
use Rattle.mdl_effect.specs.Operands.{After, Made, follow, is_nothing, memory_read, memory_write, memory_change, change_in, reading, writing, updating}
use Rattle.mdl_effect.specs.Kinds.{is_gpr, is_number, is_place, is_direct, is_value, is_target}
use Rattle.mdl_effect.specs.Jumps.{landing, target_by}
use Rattle.mdl_effect.specs.Ways.{IsDefined, Leaves}
use Rattle.mdl_effect.proofs.Registers.{then_stays, reg_stays, eip_stays}

-- ---- accesses

segment_defined : (seg : Seg) → IsDefined (segment_fault seg)
segment_defined Ss = omega arith
segment_defined _ = omega arith

-- each way through a plan, as `Ends` says it
pub record Ways {A : Type 0} (P : A → Type 0) (plan : Plan A) : Type 0 where
  pub ends : Ends P IsDefined plan

pub passes : {A : Type 0} {P : A → Type 0} {x : A} → P x → Ways P (Done x)
passes h = record { ends = h }

-- weaker facts
pub weaker : {A : Type 0} (P R : A → Type 0) (Q S : Fault → Type 0) (plan : Plan A) → ((x : A) → P x → R x) → ((fault : Fault) → Q fault → S fault) → Ends P Q plan → Ends R S plan
weaker P R Q S (Done x) f g h = f x h
weaker P R Q S (Fail fault) f g h = g fault h
weaker P R Q S (Load lin size who k) f g h = λ value. weaker P R Q S (k value) f g (h value)
weaker P R Q S (Store lin size value who k) f g h = weaker P R Q S k f g h
weaker P R Q S (Translate lin size access k) f g h = λ place. weaker P R Q S (k place) f g (h place)
weaker P R Q S (Get place size k) f g h = λ value. weaker P R Q S (k value) f g (h value)
weaker P R Q S (Hold place size value k) f g h = weaker P R Q S k f g h
weaker P R Q S (Input port size k) f g h = λ value. weaker P R Q S (k value) f g (h value)

-- an instruction that goes on behind itself
pub follows : {o r : Regs} → Steady o r → Ways (Leaves o) (follow r)
follows h = record { ends = (h, tt) }

pub fails : {A : Type 0} {P : A → Type 0} {fault : Fault} → IsDefined fault → Ways P (Fail fault)
fails h = record { ends = h }

pub then_way : {A B : Type 0} {R : A → Type 0} {P : B → Type 0} {plan : Plan A} {f : A → Plan B} → Ways R plan → ((x : A) → R x → Ways P (f x)) → Ways P (then_plan plan f)
then_way {A} {B} {R} {P} {plan} {f} h k = record { ends = then_ends R P IsDefined plan f h.ends (λ x y. (k x y).ends) }

pub either_way : {A : Type 0} {P : A → Type 0} (b : Bool) {p q : Plan A} → Ways P p → Ways P q → Ways P (if b then p else q)
either_way {A} {P} b {p} {q} h k = record { ends = either_ends P IsDefined b p q h.ends k.ends }

test_way : {A : Type 0} (P : A → Type 0) (c : Bool) (at : ℕ) (fault : Fault) (k : ℕ → Plan A) → IsDefined fault → ((x : ℕ) → Ways P (k x))
    → Ways P (checked (cond c (Ok at) (Err fault)) k)
test_way P true at fault k d h = h at
test_way P false at fault k d h = record { ends = d }

-- an access that the segment may refuse
pub legal_way : {A : Type 0} {P : A → Type 0} (r : Regs) (seg : Seg) (offset : ℕ) (size : Size) (write : Bool) (k : ℕ → Plan A)
    → ((x : ℕ) → Ways P (k x)) → Ways P (checked (legal r seg offset size write) k)
unfolding legal
legal_way {A} {P} r seg offset size write k h = test_way P _ _ (segment_fault seg) k (segment_defined seg) h

load_any : (r : Regs) (seg : Seg) (offset : ℕ) (size : Size) → Ways (λ (_ : ℕ). ⊤) (load_from r seg offset size)
load_any r seg offset size = legal_way r seg offset size false (λ at. Load at size (who_of r) (λ value. Done value)) (λ at. record { ends = λ value. tt })

pub store_any : (r : Regs) (seg : Seg) (offset : ℕ) (size : Size) (value : ℕ) → Ways (λ (_ : Unit {0}). ⊤) (store_to r seg offset size value)
store_any r seg offset size value = legal_way r seg offset size true (λ at. Store at size value (who_of r) (Done tt)) (λ at. record { ends = tt })

-- what follows a read, and a write
pub load_then : {A : Type 0} {P : A → Type 0} (r : Regs) (seg : Seg) (offset : ℕ) (size : Size) (f : ℕ → Plan A)
    → ((value : ℕ) → Ways P (f value)) → Ways P (then_plan (load_from r seg offset size) f)
load_then r seg offset size f h = then_way (load_any r seg offset size) (λ value _. h value)

pub store_then : {A : Type 0} {P : A → Type 0} (r : Regs) (seg : Seg) (offset : ℕ) (size : Size) (value : ℕ) (f : Unit {0} → Plan A)
    → ((x : Unit {0}) → Ways P (f x)) → Ways P (then_plan (store_to r seg offset size value) f)
store_then r seg offset size value f h = then_way (store_any r seg offset size value) (λ x _. h x)

-- ---- the stack and segment registers

pub push_way : (o r : Regs) (size : Size) (value : ℕ) → Steady o r → Ways (Steady o) (push_plan r size value)
unfolding push_plan
push_way o r size value h = store_then _ _ _ _ _ _ (λ _. passes (then_stays h (reg_stays r _ _ _)))

pub push_then : {A : Type 0} {P : A → Type 0} (o r : Regs) (size : Size) (value : ℕ) (f : Regs → Plan A) → Steady o r
    → ((q : Regs) → Steady o q → Ways P (f q)) → Ways P (then_plan (push_plan r size value) f)
push_then o r size value f h k = then_way (push_way o r size value h) k

-- what is popped leaves the mode
abbrev pub Popped : Regs → ℕ × Regs → Type 0
Popped o popped = Steady o popped.1

pub pop_way : (o r : Regs) (size : Size) → Steady o r → Ways (Popped o) (pop_plan r size)
unfolding pop_plan
pop_way o r size h = load_then _ _ _ _ _ (λ value. passes (then_stays h (reg_stays r _ _ _)))

pub pop_then : {A : Type 0} {P : A → Type 0} (o r : Regs) (size : Size) (f : ℕ × Regs → Plan A) → Steady o r
    → ((popped : ℕ × Regs) → Steady o popped.1 → Ways P (f popped)) → Ways P (then_plan (pop_plan r size) f)
pop_then o r size f h k = then_way (pop_way o r size h) k

-- ---- operands

-- an operand that plans read and write: memory, a general register, a number or nothing
abbrev pub is_read : Operand → Bool
is_read Nothing = true
is_read (Gpr n size) = true
is_read (Imm value size) = true
is_read (At mem size) = true
is_read _ = false

pub place_read : (a : Operand) → is_place a ≡ true → is_read a ≡ true
place_read (Gpr n size) e = refl
place_read (At mem size) e = refl
place_read _ e = absurd cc

pub value_read : (a : Operand) → is_value a ≡ true → is_read a ≡ true
value_read (Gpr n size) e = refl
value_read (Imm value size) e = refl
value_read (At mem size) e = refl
value_read _ e = absurd cc

pub direct_read : (a : Operand) → is_direct a ≡ true → is_read a ≡ true
direct_read (Gpr n size) e = refl
direct_read (Imm value size) e = refl
direct_read _ e = absurd cc

pub gpr_read : (a : Operand) → is_gpr a ≡ true → is_read a ≡ true
gpr_read (Gpr n size) e = refl
gpr_read _ e = absurd cc

pub number_read : (a : Operand) → is_number a ≡ true → is_read a ≡ true
number_read (Imm value size) e = refl
number_read _ e = absurd cc

pub maybe_gpr_read : (a : Operand) → (is_gpr a || is_nothing a) ≡ true → is_read a ≡ true
maybe_gpr_read (Gpr n size) e = refl
maybe_gpr_read Nothing e = refl
maybe_gpr_read _ e = absurd cc

pub maybe_place_read : (a : Operand) → (is_place a || is_nothing a) ≡ true → is_read a ≡ true
maybe_place_read (Gpr n size) e = refl
maybe_place_read (At mem size) e = refl
maybe_place_read Nothing e = refl
maybe_place_read _ e = absurd cc

pub maybe_value_read : (a : Operand) → (is_value a || is_nothing a) ≡ true → is_read a ≡ true
maybe_value_read (Gpr n size) e = refl
maybe_value_read (Imm value size) e = refl
maybe_value_read (At mem size) e = refl
maybe_value_read Nothing e = refl
maybe_value_read _ e = absurd cc

pub maybe_number_read : (a : Operand) → (is_number a || is_nothing a) ≡ true → is_read a ≡ true
maybe_number_read (Imm value size) e = refl
maybe_number_read Nothing e = refl
maybe_number_read _ e = absurd cc

pub reads : {P : After → Type 0} (r : Regs) (a : Operand) (k : ℕ → Plan After) → is_read a ≡ true → ((value : ℕ) → Ways P (k value)) → Ways P (reading r a k)
unfolding memory_read
reads r Nothing k e h = h _
reads r (Gpr n size) k e h = h _
reads r (Imm value size) k e h = h _
reads r (At mem size) k e h = load_then r mem.seg (offset_of r mem) size k h
reads r _ k e h = absurd cc

pub writes : {o : Regs} (r : Regs) (a : Operand) (value : ℕ) → is_read a ≡ true → Steady o r → Ways (Leaves o) (writing r a value)
unfolding memory_write
writes r Nothing value e h = follows h
writes r (Gpr n size) value e h = follows (then_stays h (reg_stays r n size value))
writes r (Imm number size) value e h = follows h
writes r (At mem size) value e h = store_then r mem.seg (offset_of r mem) size value _ (λ _. follows h)
writes r _ value e h = absurd cc

pub changes_in : {o : Regs} (r : Regs) (seg : Seg) (offset : ℕ) (size : Size) (make : ℕ → Made) → ((value : ℕ) → Steady o (make value).regs) → Ways (Leaves o) (change_in r seg offset size make)
changes_in r seg offset size make h = legal_way r seg offset size true _ (λ at. record { ends = λ place value. (h value, tt) })

pub updates : {o : Regs} (r : Regs) (a : Operand) (make : ℕ → Made) → is_read a ≡ true → ((value : ℕ) → Steady o (make value).regs) → Ways (Leaves o) (updating r a make)
unfolding memory_change
updates r Nothing make e h = follows (h _)
updates r (Gpr n size) make e h = follows (then_stays (h _) (reg_stays _ n size _))
updates r (Imm number size) make e h = follows (h _)
updates r (At mem size) make e h = changes_in r mem.seg (offset_of r mem) size make h
updates r _ make e h = absurd cc

-- ---- branches

pub lands : (o r moved : Regs) (eip : ℕ) → Steady o moved → Ways (Leaves o) (landing r moved eip)
lands o r moved eip h = either_way (nat_le eip (seg_of r Cs).limit) (passes (then_stays h (eip_stays moved eip), tt)) (fails (omega arith))

pub targets : {o : Regs} (r : Regs) (a : Operand) (size : Size) (back : ℕ) (k : ℕ → Plan After) → is_target a ≡ true → ((eip : ℕ) → Ways (Leaves o) (k eip)) → Ways (Leaves o) (target_by a size r back k)
targets r (Rel displacement) size back k e h = h _
targets r (Gpr n own) size back k e h = reads r (Gpr n own) k refl h
targets r (At mem own) size back k e h = reads r (At mem own) k refl h
targets r _ size back k e h = absurd cc
