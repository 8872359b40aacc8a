-- Each way through the plan of an instruction that only protected mode has.
use Rattle.std.proofs.Common.{◌≡◌, ℕ, Bool, true, false, Option, Some, None}
use Rattle.std.specs.Prelude.{◌||◌}
use Rattle.mdl_state.specs.declared.Size.{Size}
use Rattle.mdl_state.specs.declared.Regs.{Regs}
use Rattle.mdl_insn.specs.declared.instruction.Insn.{Insn}
use Rattle.mdl_insn.specs.declared.instruction.Operand.{Operand}
use Rattle.mdl_insn.specs.declared.mnemonics.Op.{Op}
use Rattle.mdl_insn.specs.declared.mnemonics.Op.TheVariants as ops
use Rattle.mdl_cpu.specs.declared.Desc.{Desc}
use Rattle.mdl_cpu.specs.Descriptors.{is_null, is_outside, place_of}
use Rattle.mdl_cpu.specs.Visibility.{has_rights, has_limit, can_be_read, can_be_written, visible_plan, arpl, lar, lsl, verr, verw}
use Rattle.mdl_cpu.specs.Steady.{Steady}
use Rattle.mdl_effect.specs.Operands.{value_of}
use Rattle.mdl_effect.specs.Kinds.{is_place}
use Rattle.mdl_effect.specs.ProtectionEffects.{with_shown, raised, lar_plan, lsl_plan, verr_plan, verw_plan, arpl_plan, sldt_plan, str_plan, lldt_plan, ltr_plan, is_protected_only, protected_by}
use Rattle.mdl_effect.specs.Forms.{IsFormedAs}
use Rattle.mdl_effect.specs.Ways.{Leaves}
use Rattle.mdl_effect.proofs.Registers.{then_stays, value_stays, zero_stays}
use Rattle.mdl_effect.proofs.Operations.{follows, Ways, passes, then_way, either_way, place_read, reads, updates}
use Rattle.mdl_effect.proofs.LoadWays.{Any, read_way, ldt_way, task_way}
use Rattle.mdl_effect.proofs.LevelWays.{at_level_0, stores_word}

-- ---- what a program may see

visible_way : (is_good : Desc → Bool) (r : Regs) (sel : ℕ) → Ways Any (visible_plan is_good r sel)
unfolding visible_plan
visible_way is_good r sel = either_way (is_null sel || is_outside r sel) (passes tt) (then_way (read_way (place_of r sel)) (λ d _. passes tt))

rights_way : (r : Regs) (sel : ℕ) (size : Size) → Ways Any (lar r sel size)
unfolding lar
rights_way r sel size = then_way (visible_way has_rights r sel) (λ d _. passes tt)

limit_way : (r : Regs) (sel : ℕ) (size : Size) → Ways Any (lsl r sel size)
unfolding lsl
limit_way r sel size = then_way (visible_way has_limit r sel) (λ d _. passes tt)

readable_way : (r : Regs) (sel : ℕ) → Ways Any (verr r sel)
unfolding verr
readable_way r sel = then_way (visible_way can_be_read r sel) (λ d _. passes tt)

writable_way : (r : Regs) (sel : ℕ) → Ways Any (verw r sel)
unfolding verw
writable_way r sel = then_way (visible_way can_be_written r sel) (λ d _. passes tt)

shown_stays : (r : Regs) (a : Operand) (shown : Option ℕ) → Steady r (with_shown r a shown)
shown_stays r a None = zero_stays r false
shown_stays r a (Some number) = then_stays (zero_stays r true) (value_stays _ a number)

raised_stays : (r : Regs) (dest : ℕ) (selector : Option ℕ) → Steady r (raised r dest selector).regs
raised_stays r dest None = zero_stays r false
raised_stays r dest (Some selector) = zero_stays r true

-- ---- the instructions

module _ (insn : Insn) (r : Regs) where
  lar_way : is_place insn.b ≡ true → Ways (Leaves r) (lar_plan insn r)
  unfolding lar_plan
  lar_way b = reads r insn.b _ (place_read insn.b b) (λ sel. then_way (rights_way r sel insn.size) (λ shown _. follows (shown_stays r insn.a shown)))

  lsl_way : is_place insn.b ≡ true → Ways (Leaves r) (lsl_plan insn r)
  unfolding lsl_plan
  lsl_way b = reads r insn.b _ (place_read insn.b b) (λ sel. then_way (limit_way r sel insn.size) (λ shown _. follows (shown_stays r insn.a shown)))

  verr_way : is_place insn.a ≡ true → Ways (Leaves r) (verr_plan insn r)
  unfolding verr_plan
  verr_way a = reads r insn.a _ (place_read insn.a a) (λ sel. then_way (readable_way r sel) (λ good _. follows (zero_stays r good)))

  verw_way : is_place insn.a ≡ true → Ways (Leaves r) (verw_plan insn r)
  unfolding verw_plan
  verw_way a = reads r insn.a _ (place_read insn.a a) (λ sel. then_way (writable_way r sel) (λ good _. follows (zero_stays r good)))

  arpl_way : is_place insn.a ≡ true → Ways (Leaves r) (arpl_plan insn r)
  unfolding arpl_plan
  arpl_way a = updates r insn.a (λ dest. raised r dest (arpl dest (value_of r insn.b))) (place_read insn.a a) (λ dest. raised_stays r dest (arpl dest (value_of r insn.b)))

  sldt_way : is_place insn.a ≡ true → Ways (Leaves r) (sldt_plan insn r)
  unfolding sldt_plan
  sldt_way a = stores_word insn r _ a

  str_way : is_place insn.a ≡ true → Ways (Leaves r) (str_plan insn r)
  unfolding str_plan
  str_way a = stores_word insn r _ a

  lldt_way : is_place insn.a ≡ true → Ways (Leaves r) (lldt_plan insn r)
  unfolding lldt_plan
  lldt_way a = at_level_0 r (λ _. reads r insn.a _ (place_read insn.a a) (λ sel. then_way (ldt_way r sel) (λ q h. follows h)))

  ltr_way : is_place insn.a ≡ true → Ways (Leaves r) (ltr_plan insn r)
  unfolding ltr_plan
  ltr_way a = at_level_0 r (λ _. reads r insn.a _ (place_read insn.a a) (λ sel. then_way (task_way r sel) (λ q h. follows h)))

pub protected_way : (op : Op) (insn : Insn) (r : Regs) → IsFormedAs op insn → is_protected_only op ≡ true → Ways (Leaves r) (protected_by op insn r)
protected_way ops.Arpl insn r f e = arpl_way insn r f.1.0.0
protected_way ops.Lar insn r f e = lar_way insn r f.1.1.0
protected_way ops.Lsl insn r f e = lsl_way insn r f.1.1.0
protected_way ops.Verr insn r f e = verr_way insn r f.1.0.0
protected_way ops.Verw insn r f e = verw_way insn r f.1.0.0
protected_way ops.Sldt insn r f e = sldt_way insn r f.1.0.0
protected_way ops.Str insn r f e = str_way insn r f.1.0.0
protected_way ops.Lldt insn r f e = lldt_way insn r f.1.0.0
protected_way ops.Ltr insn r f e = ltr_way insn r f.1.0.0
protected_way _ insn r f e = absurd cc
