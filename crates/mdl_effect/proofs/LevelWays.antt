-- Checks of the level, and words that are stored, as parts of plans.
use Rattle.std.proofs.Common.{◌≡◌, ℕ, ◌==◌, Bool, true, false, refl, arith}
use Rattle.std.specs.Prelude.{if◌then◌else◌}
use Rattle.std.proofs.lemmas.Bool.Decides.{nat_tests}
use Rattle.mdl_state.specs.declared.Regs.{Regs}
use Rattle.mdl_state.specs.Attempt.{Plan, then_plan}
use Rattle.mdl_insn.specs.declared.instruction.Insn.{Insn}
use Rattle.mdl_insn.specs.declared.instruction.Operand.{Operand}
use Rattle.mdl_insn.specs.declared.instruction.Operand.TheVariants.{Gpr, At}
use Rattle.mdl_state.specs.declared.Size.{Size}
use Rattle.mdl_effect.specs.Operands.{After, follow, is_plain, memory_write}
use Rattle.mdl_effect.specs.Moves.{with_sized, storing_word}
use Rattle.mdl_effect.specs.Kinds.{is_place}
use Rattle.mdl_effect.specs.InterruptEffects.{privileged}
use Rattle.mdl_effect.specs.Ways.{Leaves}
use Rattle.mdl_effect.proofs.Registers.{stays, sized_stays}
use Rattle.mdl_effect.proofs.Operations.{follows, Ways, fails, store_then}

-- one of two plans, by a test
pub if_true : {P : After → Type 0} (c : Bool) {p q : Plan After} → (c ≡ true → Ways P p) → Ways P q → Ways P (if c then p else q)
if_true true h k = h refl
if_true false h k = k

pub if_false : {P : After → Type 0} (c : Bool) {p q : Plan After} → Ways P p → (c ≡ false → Ways P q) → Ways P (if c then p else q)
if_false true h k = h
if_false false h k = k refl

level_0 : (n : ℕ) → (n == 0) ≡ true → n ≡ 0
level_0 n e = grind (arith, nat_tests)

pub at_level_0 : {P : After → Type 0} (r : Regs) {plan : Plan After} → (r.cpl ≡ 0 → Ways P plan) → Ways P (privileged r plan)
at_level_0 r h = if_true (r.cpl == 0) (λ e. h (level_0 r.cpl e)) (fails (omega arith))

word_stored : (a : Operand) (size : Size) (word : ℕ) (r : Regs) → is_place a ≡ true
    → Ways (Leaves r) (if is_plain a then follow (with_sized r a size word) else then_plan (memory_write r a word) (λ _. follow r))
unfolding memory_write
word_stored (Gpr n own) size word r e = follows (sized_stays r (Gpr n own) size word)
word_stored (At mem own) size word r e = store_then _ _ _ _ _ _ (λ _. follows (stays r))
word_stored _ size word r e = absurd cc

pub stores_word : (insn : Insn) (r : Regs) (word : ℕ) → is_place insn.a ≡ true → Ways (Leaves r) (storing_word insn r word)
stores_word insn r word a = word_stored insn.a insn.size word r a
