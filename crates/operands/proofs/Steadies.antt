-- What keeps the mode: general registers and status flags that change, and what a plan leaves.
use Rattle.std.proofs.Common.{◌≡◌, ℕ, refl, sym, subst, ap, ◌∙◌, arith}
use Rattle.std.specs.Prelude.{◌==◌, Result, Ok, Err, OnErr}
use Rattle.std.specs.Int.{bit_at}
use Rattle.mdl_state.specs.declared.Regs.{Regs}
use Rattle.mdl_state.specs.declared.Fault.{Fault}
use Rattle.mdl_state.specs.declared.Next.{Next}
use Rattle.mdl_state.specs.Ends.{IfPassed}
use Rattle.mdl_num.specs.Flags.{is_set}
use Rattle.mdl_num.specs.declared.status.TheConstants.{CF, PF, AF, ZF, SF, OF}
use Rattle.mdl_num.proofs.Places.{bits_kept}
use Rattle.mdl_cpu.specs.SystemFlags.{VM, AreFlags}
use Rattle.mdl_cpu.specs.Steady.{Steady}
use Rattle.mdl_effect.specs.Operands.{After}
use Rattle.lazy_flags.specs.Keeper.{with_status}
use Rattle.operands.specs.Whole.{whole, ran, KeepsOther}
use Rattle.operands.proofs.Statuses.{other_bit, kept_bit, packed_again}

-- status flags that are packed in set no bit that is no flag
packed_flags : (e F : ℕ) → AreFlags e → AreFlags (with_status e F)
unfolding with_status
packed_flags e F h = record {
  one = ap (λ v. v == 1) (other_bit e F 1 (omega arith) (omega arith) (omega arith) (omega arith) (omega arith) (omega arith)) ∙ h.one;
  three = ap (λ v. v == 1) (other_bit e F 3 (omega arith) (omega arith) (omega arith) (omega arith) (omega arith) (omega arith)) ∙ h.three;
  five = ap (λ v. v == 1) (other_bit e F 5 (omega arith) (omega arith) (omega arith) (omega arith) (omega arith) (omega arith)) ∙ h.five;
  fifteen = ap (λ v. v == 1) (kept_bit e F 15 (omega arith) (omega arith)) ∙ h.fifteen;
  above = bits_kept _ OF 18 (is_set F OF) (bits_kept _ SF 18 (is_set F SF) (bits_kept _ ZF 18 (is_set F ZF) (bits_kept _ AF 18 (is_set F AF)
      (bits_kept _ PF 18 (is_set F PF) (bits_kept e CF 18 (is_set F CF) h.above (omega arith)) (omega arith)) (omega arith)) (omega arith)) (omega arith)) (omega arith);
}

-- where no other register changes, the mode stays
pub kept_steady : (old new : Regs) (F G : ℕ) → KeepsOther old new → Steady (whole old F) (whole new G)
kept_steady old new F G kept = record {
  cr0 = kept.cr0;
  cr3 = kept.cr3;
  cpl = kept.cpl;
  virtual = ap (λ v. v == 1) (kept_bit new.eflags G VM (omega arith) (omega arith) ∙ ap (λ e. bit_at e VM) kept.eflags
      ∙ sym (kept_bit old.eflags F VM (omega arith) (omega arith)));
  flags = λ h. subst AreFlags (packed_again old.eflags F G ∙ ap (λ e. with_status e G) (sym kept.eflags))
      (packed_flags (with_status old.eflags F) G h);
}

steady_own : (r : Regs) → Steady r r
steady_own r = record { cr0 = refl; cr3 = refl; cpl = refl; virtual = refl; flags = λ h. h }

-- so it does where each way through a plan that passes keeps it, and a fault changes nothing
pub ran_steady : (P : After → Type 0) (result : Result Next Fault) (old new : Regs) (F G : ℕ) → ((after : After) → P after → Steady (whole old F) after.regs)
    → IfPassed P (ran result (whole new G)) → OnErr result ((new ≡ old) × (G ≡ F)) → Steady (whole old F) (whole new G)
ran_steady P (Ok next) old new F G keeps passed same = keeps _ passed
ran_steady P (Err fault) old new F G keeps passed same = rw (same.0, same.1) (steady_own (whole old F))

pub ruleset steadies = (kept_steady)
