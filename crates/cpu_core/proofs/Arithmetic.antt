-- The operands of sums, logic, shifts and extensions are neither control nor debug registers.
use Rattle.std.proofs.Common.{◌≡◌, ℕ, ◌&&◌, Bool, true, false, List, refl}
use Rattle.std.specs.Prelude.{not}
use Rattle.std.proofs.lemmas.Bool.{false≢true}
use Rattle.mdl_insn.specs.declared.instruction.Insn.{Insn}
use Rattle.mdl_insn.specs.declared.instruction.Operand.{Operand}
use Rattle.mdl_insn.specs.declared.instruction.Operand.TheVariants.{Creg, Dreg}
use Rattle.mdl_insn.specs.declared.mnemonics.Op.{Op}
use Rattle.mdl_insn.specs.declared.mnemonics.Op.TheVariants as ops
use Rattle.mdl_insn.specs.Spelling.{Spelt}
use Rattle.mdl_effect.specs.Operands.{is_nothing}
use Rattle.mdl_effect.specs.Kinds.{is_gpr, is_place, is_direct, is_value}
use Rattle.mdl_effect.specs.DataEffects.{is_data, is_special, runs_data}
use Rattle.mdl_effect.specs.Forms.{IsFormedAs}
use Rattle.mdl_effect.proofs.FormLaws.{spelt_formed}
use Rattle.cpu_core.specs.Families.{is_arithmetic}

place_other : (a : Operand) → is_place a ≡ true → is_special a ≡ false
place_other (Creg n) e = absurd (false≢true e)
place_other (Dreg n) e = absurd (false≢true e)
place_other _ e = refl

value_other : (a : Operand) → is_value a ≡ true → is_special a ≡ false
value_other (Creg n) e = absurd (false≢true e)
value_other (Dreg n) e = absurd (false≢true e)
value_other _ e = refl

direct_other : (a : Operand) → is_direct a ≡ true → is_special a ≡ false
direct_other (Creg n) e = absurd (false≢true e)
direct_other (Dreg n) e = absurd (false≢true e)
direct_other _ e = refl

register_other : (a : Operand) → is_gpr a ≡ true → is_special a ≡ false
register_other (Creg n) e = absurd (false≢true e)
register_other (Dreg n) e = absurd (false≢true e)
register_other _ e = refl

nothing_other : (a : Operand) → is_nothing a ≡ true → is_special a ≡ false
nothing_other (Creg n) e = absurd (false≢true e)
nothing_other (Dreg n) e = absurd (false≢true e)
nothing_other _ e = refl

both : (a b : Operand) → is_special a ≡ false → is_special b ≡ false → (not (is_special a) && not (is_special b)) ≡ true
both a b x y = rw x (rw y refl)

formed : (op : Op) (insn : Insn) → IsFormedAs op insn → is_arithmetic op ≡ true → (is_data op && not (is_special insn.a) && not (is_special insn.b)) ≡ true
formed ops.Movzx insn f e = both insn.a insn.b (register_other insn.a f.1.0.0) (value_other insn.b f.1.1.0)
formed ops.Movsx insn f e = both insn.a insn.b (register_other insn.a f.1.0.0) (value_other insn.b f.1.1.0)
formed ops.Add insn f e = both insn.a insn.b (place_other insn.a f.1.0.0) (value_other insn.b f.1.1.0)
formed ops.Or insn f e = both insn.a insn.b (place_other insn.a f.1.0.0) (value_other insn.b f.1.1.0)
formed ops.Adc insn f e = both insn.a insn.b (place_other insn.a f.1.0.0) (value_other insn.b f.1.1.0)
formed ops.Sbb insn f e = both insn.a insn.b (place_other insn.a f.1.0.0) (value_other insn.b f.1.1.0)
formed ops.And insn f e = both insn.a insn.b (place_other insn.a f.1.0.0) (value_other insn.b f.1.1.0)
formed ops.Sub insn f e = both insn.a insn.b (place_other insn.a f.1.0.0) (value_other insn.b f.1.1.0)
formed ops.Xor insn f e = both insn.a insn.b (place_other insn.a f.1.0.0) (value_other insn.b f.1.1.0)
formed ops.Cmp insn f e = both insn.a insn.b (value_other insn.a f.1.0.0) (value_other insn.b f.1.1.0)
formed ops.Test insn f e = both insn.a insn.b (value_other insn.a f.1.0.0) (value_other insn.b f.1.1.0)
formed ops.Inc insn f e = both insn.a insn.b (place_other insn.a f.0.0) (nothing_other insn.b f.1)
formed ops.Dec insn f e = both insn.a insn.b (place_other insn.a f.0.0) (nothing_other insn.b f.1)
formed ops.Neg insn f e = both insn.a insn.b (place_other insn.a f.0.0) (nothing_other insn.b f.1)
formed ops.Not insn f e = both insn.a insn.b (place_other insn.a f.0.0) (nothing_other insn.b f.1)
formed ops.Shl insn f e = both insn.a insn.b (place_other insn.a f.0.0) (direct_other insn.b f.1.0)
formed ops.Shr insn f e = both insn.a insn.b (place_other insn.a f.0.0) (direct_other insn.b f.1.0)
formed ops.Sar insn f e = both insn.a insn.b (place_other insn.a f.0.0) (direct_other insn.b f.1.0)
formed (ops.Setcc number) insn f e = both insn.a insn.b (place_other insn.a f.1.0.0) (nothing_other insn.b f.1.1)
formed _ insn f e = absurd (false≢true e)

pub arithmetic_runs : (bytes : List ℕ) (big : Bool) (insn : Insn) → Spelt bytes big insn → is_arithmetic insn.op ≡ true → runs_data insn ≡ true
arithmetic_runs bytes big insn h e = rw (formed insn.op insn (spelt_formed bytes big insn h) e) refl
