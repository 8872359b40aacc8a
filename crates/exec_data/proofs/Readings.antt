-- An instruction that reads memory does what it does on the number read.
use Rattle.std.proofs.Common.{◌≡◌, ◌<◌, ◌&&◌, ℕ, refl, sym, ◌∙◌, ap, Bool, true, false}
use Rattle.std.specs.Prelude.{◌||◌, Result, Ok, Err}
use Rattle.mdl_state.specs.declared.Size.{Size}
use Rattle.mdl_state.specs.declared.Regs.{Regs}
use Rattle.mdl_state.specs.declared.Fault.{Fault}
use Rattle.mdl_state.specs.Bytes.{bound_of}
use Rattle.mdl_state.specs.State.{Mem}
use Rattle.mdl_state.specs.Serving.{Serve, Passed, Failed, on}
use Rattle.mdl_state.specs.Attempt.{Plan, tried, then_plan}
use Rattle.mdl_state.specs.AttemptLaws.{tried-then_plan}
use Rattle.mdl_insn.specs.declared.instruction.Insn.{Insn}
use Rattle.mdl_insn.specs.declared.instruction.Operand.{Operand}
use Rattle.mdl_insn.specs.declared.instruction.Operand.TheVariants.{At, Imm}
use Rattle.mdl_insn.specs.declared.mnemonics.Op.{Op}
use Rattle.mdl_insn.specs.declared.mnemonics.Op.TheVariants as ops
use Rattle.mdl_effect.specs.Operands.{After, is_plain, is_nothing, size_of, memory_read}
use Rattle.mdl_effect.specs.Moves.{move_plan, sign_extend_plan}
use Rattle.mdl_effect.specs.Arithmetic.{binary_plan, compare_plan, multiply_plan, signed_multiply_plan, divide_plan, signed_divide_plan}
use Rattle.mdl_effect.specs.Shifts.{scan_plan}
use Rattle.mdl_effect.specs.DataEffects.{is_data, by_mnemonic, data_effect}
use Rattle.mdl_effect.specs.DataEffects.{is_plain_data}
use Rattle.mdl_effect.specs.Kinds.{is_memory}
use Rattle.mdl_effect.specs.Forms.{IsOf, IsWithin, IsFormedAs}
use Rattle.operands.specs.Whole.{after, done}
use Rattle.exec_data.proofs.PlaceLaws.{not_nothing}
use Rattle.exec_data.specs.Reads.{reads_first, reads_second, with_first, with_second}

-- ---- plans

-- what the instruction does on the number of its second operand, after that is read
abbrev SecondRead : Op → Insn → Regs → ℕ → Type 0
SecondRead op insn r free = by_mnemonic op insn r free ≡ then_plan (memory_read r insn.b) (λ value. by_mnemonic op (with_second insn value) r free)

factor_read : (insn : Insn) (r : Regs) (free : ℕ) (none : Bool) → is_nothing insn.c ≡ none → is_nothing insn.b ≡ false → is_plain insn.b ≡ false
    → SecondRead ops.Imul insn r free
unfolding signed_multiply_plan
factor_read insn r free true c b e = rw (c, b, e) refl
factor_read insn r free false c b e = rw (c, b, e) refl

pub second_read : (op : Op) (insn : Insn) (r : Regs) (free : ℕ) → reads_second op ≡ true → is_plain insn.b ≡ false → SecondRead op insn r free
unfolding move_plan sign_extend_plan binary_plan compare_plan scan_plan
second_read ops.Movzx insn r free o e = rw e refl
second_read ops.Movsx insn r free o e = rw e refl
second_read ops.Bsf insn r free o e = rw e refl
second_read ops.Bsr insn r free o e = rw e refl
second_read ops.Imul insn r free o e = factor_read insn r free (is_nothing insn.c) refl (not_nothing insn.b e) e
second_read ops.Add insn r free o e = rw e refl
second_read ops.Or insn r free o e = rw e refl
second_read ops.Adc insn r free o e = rw e refl
second_read ops.Sbb insn r free o e = rw e refl
second_read ops.And insn r free o e = rw e refl
second_read ops.Sub insn r free o e = rw e refl
second_read ops.Xor insn r free o e = rw e refl
second_read ops.Cmp insn r free o e = rw e refl
second_read ops.Test insn r free o e = rw e refl
second_read _ insn r free o e = absurd cc

-- the same of its first operand
abbrev FirstRead : Op → Insn → Regs → ℕ → Type 0
FirstRead op insn r free = by_mnemonic op insn r free ≡ then_plan (memory_read r insn.a) (λ value. by_mnemonic op (with_first insn value) r free)

pub first_read : (op : Op) (insn : Insn) (r : Regs) (free : ℕ) → reads_first op (is_nothing insn.b) ≡ true → is_plain insn.a ≡ false → is_plain insn.b ≡ true → FirstRead op insn r free
unfolding compare_plan multiply_plan signed_multiply_plan divide_plan signed_divide_plan
first_read ops.Cmp insn r free o e p = rw (e, p) refl
first_read ops.Test insn r free o e p = rw (e, p) refl
first_read ops.Mul insn r free o e p = rw e refl
first_read ops.Imul insn r free o e p = rw (e, o) refl
first_read ops.Div insn r free o e p = rw e refl
first_read ops.Idiv insn r free o e p = rw e refl
first_read _ insn r free o e p = absurd cc

-- ---- forms

number_of : (b : Operand) (size : Size) (value : ℕ) → is_memory b ≡ true → value < bound_of (size_of b) → IsOf size b → IsOf size (Imm value (size_of b))
number_of (At mem own) size value m lt e = (e, rw (← e) lt)
number_of _ size value m lt e = absurd cc

number_within : (b : Operand) (size : Size) (value : ℕ) → is_memory b ≡ true → value < bound_of (size_of b) → IsWithin size b → IsWithin size (Imm value (size_of b))
number_within (At mem own) size value m lt e = (e, lt)
number_within _ size value m lt e = absurd cc

or_true : (x : Bool) → (x || true) ≡ true
or_true true = refl
or_true false = refl

pub second_formed : (op : Op) (insn : Insn) (value : ℕ) → reads_second op ≡ true → is_memory insn.b ≡ true → value < bound_of (size_of insn.b)
    → IsFormedAs op insn → IsFormedAs op (with_second insn value)
second_formed ops.Movzx insn value o m lt f = (f.0, (f.1.0, (refl, number_within insn.b insn.size value m lt f.1.1.1), f.1.2))
second_formed ops.Movsx insn value o m lt f = (f.0, (f.1.0, (refl, number_within insn.b insn.size value m lt f.1.1.1), f.1.2))
second_formed ops.Bsf insn value o m lt f = (f.0, (f.1.0, (refl, number_of insn.b insn.size value m lt f.1.1.1), f.1.2))
second_formed ops.Bsr insn value o m lt f = (f.0, (f.1.0, (refl, number_of insn.b insn.size value m lt f.1.1.1), f.1.2))
second_formed ops.Imul insn value o m lt f = (or_true (is_plain insn.a), (f.1.0, (refl, number_of insn.b insn.size value m lt f.1.1.1), f.1.2))
second_formed ops.Add insn value o m lt f = (or_true (is_plain insn.a), (f.1.0, (refl, number_of insn.b insn.size value m lt f.1.1.1), f.1.2))
second_formed ops.Or insn value o m lt f = (or_true (is_plain insn.a), (f.1.0, (refl, number_of insn.b insn.size value m lt f.1.1.1), f.1.2))
second_formed ops.Adc insn value o m lt f = (or_true (is_plain insn.a), (f.1.0, (refl, number_of insn.b insn.size value m lt f.1.1.1), f.1.2))
second_formed ops.Sbb insn value o m lt f = (or_true (is_plain insn.a), (f.1.0, (refl, number_of insn.b insn.size value m lt f.1.1.1), f.1.2))
second_formed ops.And insn value o m lt f = (or_true (is_plain insn.a), (f.1.0, (refl, number_of insn.b insn.size value m lt f.1.1.1), f.1.2))
second_formed ops.Sub insn value o m lt f = (or_true (is_plain insn.a), (f.1.0, (refl, number_of insn.b insn.size value m lt f.1.1.1), f.1.2))
second_formed ops.Xor insn value o m lt f = (or_true (is_plain insn.a), (f.1.0, (refl, number_of insn.b insn.size value m lt f.1.1.1), f.1.2))
second_formed ops.Cmp insn value o m lt f = (or_true (is_plain insn.a), (f.1.0, (refl, number_of insn.b insn.size value m lt f.1.1.1), f.1.2))
second_formed ops.Test insn value o m lt f = (or_true (is_plain insn.a), (f.1.0, (refl, number_of insn.b insn.size value m lt f.1.1.1), f.1.2))
second_formed _ insn value o m lt f = absurd cc

pub first_formed : (op : Op) (none : Bool) (insn : Insn) (value : ℕ) → reads_first op none ≡ true → is_memory insn.a ≡ true → value < bound_of (size_of insn.a)
    → IsFormedAs op insn → IsFormedAs op (with_first insn value)
first_formed ops.Cmp none insn value o m lt f = (refl, ((refl, number_of insn.a insn.size value m lt f.1.0.1), f.1.1, f.1.2))
first_formed ops.Test none insn value o m lt f = (refl, ((refl, number_of insn.a insn.size value m lt f.1.0.1), f.1.1, f.1.2))
first_formed ops.Imul none insn value o m lt f = (refl, ((refl, number_of insn.a insn.size value m lt f.1.0.1), f.1.1, f.1.2))
first_formed ops.Mul none insn value o m lt f = ((refl, number_of insn.a insn.size value m lt f.0.1), f.1, f.2)
first_formed ops.Div none insn value o m lt f = ((refl, number_of insn.a insn.size value m lt f.0.1), f.1, f.2)
first_formed ops.Idiv none insn value o m lt f = ((refl, number_of insn.a insn.size value m lt f.0.1), f.1, f.2)
first_formed _ none insn value o m lt f = absurd cc

-- ---- attempts

tried_done : (serve : Serve) (result : Result (Unit {0}) Fault) (r : Regs) (m : Mem) → tried serve 0 (done result r) m ≡ (after result r, m)
tried_done serve (Ok _) r m = refl
tried_done serve (Err fault) r m = refl

-- a number that was read, and what is then done with it
read_then : (serve : Serve) (whole : Plan After) (reads : Plan ℕ) (k : ℕ → Plan After) (value : ℕ) (result : Result (Unit {0}) Fault) (r : Regs) (m n : Mem)
    → whole ≡ then_plan reads k → (Passed value, n) ≡ tried serve 0 reads m → done result r ≡ k value → (after result r, n) ≡ tried serve 0 whole m
read_then serve whole reads k value result r m n split read plan =
    sym (tried_done serve result r n) ∙ ap (λ p. tried serve 0 p n) plan
    ∙ ap (λ w. on w (λ x n. tried serve 0 (k x) n)) read ∙ sym (tried-then_plan serve 0 reads k m) ∙ ap (λ p. tried serve 0 p m) (sym split)

read_refused : (serve : Serve) (whole : Plan After) (reads : Plan ℕ) (k : ℕ → Plan After) (fault : Fault) (m n : Mem)
    → whole ≡ then_plan reads k → (Failed fault, n) ≡ tried serve 0 reads m → (Failed fault, n) ≡ tried serve 0 whole m
read_refused serve whole reads k fault m n split read =
    ap (λ w. on w (λ x n. tried serve 0 (k x) n)) read ∙ sym (tried-then_plan serve 0 reads k m) ∙ ap (λ p. tried serve 0 p m) (sym split)

pub second_ran : (serve : Serve) (insn : Insn) (value : ℕ) (result : Result (Unit {0}) Fault) (old new : Regs) (free : ℕ) (m n : Mem)
    → reads_second insn.op ≡ true → is_plain insn.b ≡ false → (Passed value, n) ≡ tried serve 0 (memory_read old insn.b) m
    → done result new ≡ data_effect (with_second insn value) old free → (after result new, n) ≡ tried serve 0 (data_effect insn old free) m
unfolding data_effect
second_ran serve insn value result old new free m n o e read plan =
    read_then serve (by_mnemonic insn.op insn old free) (memory_read old insn.b) (λ value. by_mnemonic insn.op (with_second insn value) old free) value result new m n
    (second_read insn.op insn old free o e) read plan

pub second_refused : (serve : Serve) (insn : Insn) (fault : Fault) (old : Regs) (free : ℕ) (m n : Mem)
    → reads_second insn.op ≡ true → is_plain insn.b ≡ false → (Failed fault, n) ≡ tried serve 0 (memory_read old insn.b) m
    → (Failed fault, n) ≡ tried serve 0 (data_effect insn old free) m
unfolding data_effect
second_refused serve insn fault old free m n o e read =
    read_refused serve (by_mnemonic insn.op insn old free) (memory_read old insn.b) (λ value. by_mnemonic insn.op (with_second insn value) old free) fault m n
    (second_read insn.op insn old free o e) read

pub first_ran : (serve : Serve) (insn : Insn) (value : ℕ) (result : Result (Unit {0}) Fault) (old new : Regs) (free : ℕ) (m n : Mem)
    → reads_first insn.op (is_nothing insn.b) ≡ true → is_plain insn.a ≡ false → is_plain insn.b ≡ true → (Passed value, n) ≡ tried serve 0 (memory_read old insn.a) m
    → done result new ≡ data_effect (with_first insn value) old free → (after result new, n) ≡ tried serve 0 (data_effect insn old free) m
unfolding data_effect
first_ran serve insn value result old new free m n o e p read plan =
    read_then serve (by_mnemonic insn.op insn old free) (memory_read old insn.a) (λ value. by_mnemonic insn.op (with_first insn value) old free) value result new m n
    (first_read insn.op insn old free o e p) read plan

pub first_refused : (serve : Serve) (insn : Insn) (fault : Fault) (old : Regs) (free : ℕ) (m n : Mem)
    → reads_first insn.op (is_nothing insn.b) ≡ true → is_plain insn.a ≡ false → is_plain insn.b ≡ true → (Failed fault, n) ≡ tried serve 0 (memory_read old insn.a) m
    → (Failed fault, n) ≡ tried serve 0 (data_effect insn old free) m
unfolding data_effect
first_refused serve insn fault old free m n o e p read =
    read_refused serve (by_mnemonic insn.op insn old free) (memory_read old insn.a) (λ value. by_mnemonic insn.op (with_first insn value) old free) fault m n
    (first_read insn.op insn old free o e p) read

-- ---- data instructions

second_data : (op : Op) (a c : Operand) → reads_second op ≡ true → is_plain a ≡ true → is_plain c ≡ true → (is_data op && is_plain a && true && is_plain c) ≡ true
second_data ops.Movzx a c o p q = rw (p, q) refl
second_data ops.Movsx a c o p q = rw (p, q) refl
second_data ops.Bsf a c o p q = rw (p, q) refl
second_data ops.Bsr a c o p q = rw (p, q) refl
second_data ops.Imul a c o p q = rw (p, q) refl
second_data ops.Add a c o p q = rw (p, q) refl
second_data ops.Or a c o p q = rw (p, q) refl
second_data ops.Adc a c o p q = rw (p, q) refl
second_data ops.Sbb a c o p q = rw (p, q) refl
second_data ops.And a c o p q = rw (p, q) refl
second_data ops.Sub a c o p q = rw (p, q) refl
second_data ops.Xor a c o p q = rw (p, q) refl
second_data ops.Cmp a c o p q = rw (p, q) refl
second_data ops.Test a c o p q = rw (p, q) refl
second_data _ a c o p q = absurd cc

pub second_plain : (insn : Insn) (value : ℕ) → reads_second insn.op ≡ true → is_plain insn.a ≡ true → is_plain insn.c ≡ true → is_plain_data (with_second insn value) ≡ true
second_plain insn value o p q = second_data insn.op insn.a insn.c o p q

first_data : (op : Op) (none : Bool) (b c : Operand) → reads_first op none ≡ true → is_plain b ≡ true → is_plain c ≡ true → (is_data op && true && is_plain b && is_plain c) ≡ true
first_data ops.Cmp none b c o p q = rw (p, q) refl
first_data ops.Test none b c o p q = rw (p, q) refl
first_data ops.Mul none b c o p q = rw (p, q) refl
first_data ops.Imul none b c o p q = rw (p, q) refl
first_data ops.Div none b c o p q = rw (p, q) refl
first_data ops.Idiv none b c o p q = rw (p, q) refl
first_data _ none b c o p q = absurd cc

pub first_plain : (insn : Insn) (none : Bool) (value : ℕ) → reads_first insn.op none ≡ true → is_plain insn.b ≡ true → is_plain insn.c ≡ true → is_plain_data (with_first insn value) ≡ true
first_plain insn none value o p q = first_data insn.op none insn.b insn.c o p q

pub ruleset reads = (second_formed, first_formed, second_ran, second_refused, first_ran, first_refused, second_plain, first_plain)
