-- A push leaves the mode, and loads in a row do.
use Rattle.std.proofs.Common.{◌≡◌, ◌∙◌, ℕ, Bool, true, false, refl, sym, subst}
use Rattle.std.specs.Prelude.{Result, Ok, Err, OnErr, nat_lt, if◌then◌else◌}
use Rattle.mdl_state.specs.declared.Size.{Size}
use Rattle.mdl_state.specs.declared.Size.TheVariants.{B1, B2, B4}
use Rattle.mdl_state.specs.declared.Seg.TheVariants.{Ss}
use Rattle.mdl_state.specs.declared.Regs.{Regs}
use Rattle.mdl_state.specs.declared.Fault.{Fault}
use Rattle.mdl_state.specs.State.{Mem}
use Rattle.mdl_state.specs.Serving.{Serve, Outcome}
use Rattle.mdl_state.specs.Attempt.{tried}
use Rattle.mdl_state.specs.Bytes.{bytes_of}
use Rattle.mdl_state.specs.Registers.{with_reg}
use Rattle.mdl_state.specs.Ends.{Ends, IfPassed, tried_ends, then_ends}
use Rattle.mdl_cpu.specs.Access.{store_to}
use Rattle.mdl_cpu.specs.Steady.{Steady}
use Rattle.mdl_cpu.specs.Loads.{answered}
use Rattle.mdl_cpu.specs.Stack.{stack_size, below_top, push_plan}
use Rattle.task_switch.proofs.Ways.{NoFact, any_ends}

stays : (r : Regs) → Steady r r
stays r = record { cr0 = refl; cr3 = refl; cpl = refl; virtual = refl; flags = λ h. h }

pub then_stays : (o m n : Regs) → Steady o m → Steady m n → Steady o n
then_stays o m n first second = record {
  cr0 = second.cr0 ∙ first.cr0;
  cr3 = second.cr3 ∙ first.cr3;
  cpl = second.cpl ∙ first.cpl;
  virtual = second.virtual ∙ first.virtual;
  flags = λ h. second.flags (first.flags h);
}

either_stays : (c : Bool) (r p q : Regs) → Steady r p → Steady r q → Steady r (if c then p else q)
either_stays true r p q h k = h
either_stays false r p q h k = k

reg_stays : (r : Regs) (n : ℕ) (size : Size) (value : ℕ) → Steady r (with_reg r n size value)
unfolding with_reg
reg_stays r n B1 value = either_stays (nat_lt n 4) r _ _
    (record { cr0 = refl; cr3 = refl; cpl = refl; virtual = refl; flags = λ h. h }) (record { cr0 = refl; cr3 = refl; cpl = refl; virtual = refl; flags = λ h. h })
reg_stays r n B2 value = record { cr0 = refl; cr3 = refl; cpl = refl; virtual = refl; flags = λ h. h }
reg_stays r n B4 value = record { cr0 = refl; cr3 = refl; cpl = refl; virtual = refl; flags = λ h. h }

-- each way through a push that passes leaves the mode
push_stays : (r : Regs) (size : Size) (value : ℕ) → Ends (Steady r) NoFact (push_plan r size value)
unfolding push_plan
push_stays r size value = then_ends NoFact (Steady r) NoFact (store_to r Ss (below_top r (bytes_of size)) size value) _
    (any_ends (store_to r Ss (below_top r (bytes_of size)) size value)) (λ _ _. reg_stays r 4 (stack_size r) (below_top r (bytes_of size)))

same_stays : (r s : Regs) → s ≡ r → Steady r s
same_stays r s e = rw e (stays r)

pub pushed_stays : (serve : Serve) (r s : Regs) (size : Size) (value : ℕ) (m n : Mem) (result : Result (Unit {0}) Fault)
    → (answered result s, n) ≡ tried serve 0 (push_plan r size value) m → OnErr result (s ≡ r) → Steady r s
pushed_stays serve r s size value m n (Ok _) e same =
    subst (λ (w : Outcome Regs × Mem). IfPassed (Steady r) w.0) (sym e) (tried_ends (Steady r) NoFact serve 0 (push_plan r size value) m (push_stays r size value))
pushed_stays serve r s size value m n (Err fault) e same = same_stays r s same
