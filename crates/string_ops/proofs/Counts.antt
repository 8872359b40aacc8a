-- What comes of a repeat, by what comes of its iteration.
use Rattle.std.proofs.Common.{◌≡◌, ◌≢◌, ℕ, ◌==◌, false, sym, ap, ◌∙◌, inl, inr}
use Rattle.std.proofs.lemmas.Bool.Decides.{eqb_tells}
use Rattle.mdl_state.specs.declared.Regs.{Regs}
use Rattle.mdl_state.specs.State.{Mem}
use Rattle.mdl_state.specs.Serving.{Outcome, Passed, Serve, on}
use Rattle.mdl_state.specs.Attempt.{Done, tried}
use Rattle.mdl_state.specs.AttemptLaws.{tried-then_plan}
use Rattle.mdl_insn.specs.declared.instruction.Insn.{Insn}
use Rattle.mdl_insn.specs.declared.instruction.Rep.TheVariants.{Equal}
use Rattle.mdl_effect.specs.Operands.{After, count_of}
use Rattle.mdl_effect.specs.StringEffects.{iterate_plan, counted_after, repeating}

is_some : (count : ℕ) → count ≢ 0 → (count == 0) ≡ false
is_some count e = elim (eqb_tells count 0) [ inl p ↦ absurd (e p.1) | inr p ↦ p.0 ]

pub repeat_passes : (serve : Serve) (given : ℕ) (insn : Insn) (r : Regs) (m n : Mem) (before free : ℕ) (after counted : After)
    → count_of r insn.wide ≢ 0 → free ≡ before → counted ≡ counted_after insn after
    → (Passed after, n) ≡ tried serve given (iterate_plan insn r before) m
    → (Passed counted, n) ≡ tried serve given (repeating Equal insn r free) m
repeat_passes serve given insn r m n before free after counted some same count h = rw (is_some (count_of r insn.wide) some, same, count)
    (ap (λ (w : Outcome After × Mem). on w (λ x o. tried serve given (Done (counted_after insn x)) o)) h
    ∙ sym (tried-then_plan serve given (iterate_plan insn r before) (λ x. Done (counted_after insn x)) m))
