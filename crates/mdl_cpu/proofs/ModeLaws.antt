-- In real mode the ways by the mode are those of real mode.
use Rattle.std.proofs.Common.{◌≡◌, ℕ, zero, suc, Bool, true, false, refl, ap, sym, subst, ◌∙◌, Option, Some, None}
use Rattle.std.specs.Prelude.{◌%◌, ◌==◌, if◌then◌else◌}
use Rattle.mdl_state.specs.declared.Size.{Size}
use Rattle.mdl_state.specs.declared.Regs.{Regs}
use Rattle.mdl_state.specs.declared.Fault.{Fault}
use Rattle.mdl_state.specs.State.{Mem}
use Rattle.mdl_state.specs.Bytes.{bound_of}
use Rattle.mdl_state.specs.Serving.{Serve, Outcome, Passed, Failed, NoStep, on, handled}
use Rattle.mdl_state.specs.Attempt.{then_plan, tried, finished}
use Rattle.mdl_state.specs.AttemptLaws.{tried-then_plan}
use Rattle.mdl_state.specs.Ends.{IfPassed, tried_ends}
use Rattle.mdl_cpu.specs.declared.Cause.{Cause}
use Rattle.mdl_cpu.specs.declared.Outcome.TheVariants as outcome
use Rattle.mdl_cpu.specs.Segments.{has_protection}
use Rattle.mdl_cpu.specs.Steady.{Steady}
use Rattle.mdl_cpu.specs.Deliveries.{Serious}
use Rattle.mdl_cpu.specs.Transfers.{Transfer, made, real_code_plan, plain_jump_plan, plain_call_plan, jump_far_plan, call_far_plan}
use Rattle.mdl_cpu.specs.Returns.{plain_return_plan, plain_interrupt_return_plan, return_far_plan, interrupt_return_plan}
use Rattle.mdl_cpu.specs.Causes.{fault_cause, with_address}
use Rattle.mdl_cpu.specs.Gates.{gate_plan, gate_way_plan, with_ext}
use Rattle.mdl_cpu.specs.DoubleFault.{combine}
use Rattle.mdl_cpu.specs.Switch.{Left, left}
use Rattle.mdl_cpu.specs.Delivery.{Arrival, running, delivered_once, followed_by, deliveries, deliver}
use Rattle.mdl_cpu.specs.TaskDeliveries.{behind_gate, delivered_by_gate, behind_delivery, deliveries_by_gate, deliver_by_gate}
use Rattle.mdl_cpu.proofs.GateLaws.{gate_ends}

pub real_jump : (r : Regs) (sel off : ℕ) (size : Size) → has_protection r ≡ false → jump_far_plan r sel off size ≡ plain_jump_plan real_code_plan r sel (off % bound_of size)
unfolding jump_far_plan
real_jump r sel off size h = rw h refl

pub real_call : (r : Regs) (sel off : ℕ) (size : Size) (back : ℕ) → has_protection r ≡ false
    → call_far_plan r sel off size back ≡ plain_call_plan real_code_plan r sel (off % bound_of size) size back
unfolding call_far_plan
real_call r sel off size back h = rw h refl

pub real_return : (r : Regs) (size : Size) (drop : ℕ) → has_protection r ≡ false → return_far_plan r size drop ≡ plain_return_plan real_code_plan r size drop
unfolding return_far_plan
real_return r size drop h = rw h refl

pub real_interrupt_return : (r : Regs) (size : Size) → has_protection r ≡ false → interrupt_return_plan r size ≡ plain_interrupt_return_plan real_code_plan r size
unfolding interrupt_return_plan
real_interrupt_return r size h = rw h refl

pub real_way : (cause : Cause) (r : Regs) → has_protection r ≡ false → gate_way_plan cause r ≡ then_plan (gate_plan cause r) made
unfolding gate_way_plan gate_plan
real_way cause r h = rw h refl

-- ---- deliveries

-- what one delivery comes to, with no task entered
abbrev left_by : Regs → Outcome Regs × Mem → Left Bool × Mem
left_by r (Passed q, n) = left (Passed false) q n
left_by r (Failed fault, n) = left (Failed fault) r n
left_by r (NoStep, n) = left NoStep r n

made_left : (serve : Serve) (cause : Cause) (r : Regs) (w : Outcome Regs × Mem)
    → behind_gate serve cause r (finished (with_ext cause.ext (on w (λ q n. tried serve 0 (made q) n)))) ≡ left_by r (finished (with_ext cause.ext w))
made_left serve cause r (Passed q, n) = refl
made_left serve cause r (Failed fault, n) = refl
made_left serve cause r (NoStep, n) = refl

real_once : (serve : Serve) (cause : Cause) (r : Regs) (m : Mem) → has_protection r ≡ false → delivered_by_gate serve cause r m ≡ left_by r (delivered_once serve cause r m)
unfolding delivered_by_gate delivered_once
real_once serve cause r m h =
    let way = ap (λ p. behind_gate serve cause r (finished (with_ext cause.ext (tried serve 0 p m)))) (real_way cause r h) in
    let parts = ap (λ w. behind_gate serve cause r (finished (with_ext cause.ext w))) (tried-then_plan serve 0 (gate_plan cause r) made m) in
    way ∙ parts ∙ made_left serve cause r (tried serve 0 (gate_plan cause r) m)

-- no task is entered on the way
made_only : (serve : Serve) (ext : Bool) (w : Outcome Regs × Mem) → IfPassed (λ (t : Transfer). t.outcome ≡ outcome.Done) (with_ext ext (on w (λ q n. tried serve 0 (made q) n))).0
made_only serve ext (Passed q, n) = refl
made_only serve ext (Failed fault, n) = tt
made_only serve ext (NoStep, n) = tt

pub real_made : (serve : Serve) (cause : Cause) (r : Regs) (m : Mem) → has_protection r ≡ false
    → IfPassed (λ (t : Transfer). t.outcome ≡ outcome.Done) (with_ext cause.ext (tried serve 0 (gate_way_plan cause r) m)).0
real_made serve cause r m h = subst (λ (w : Outcome Transfer × Mem). IfPassed (λ (t : Transfer). t.outcome ≡ outcome.Done) (with_ext cause.ext w).0)
    (sym (ap (λ p. tried serve 0 p m) (real_way cause r h) ∙ tried-then_plan serve 0 (gate_plan cause r) made m)) (made_only serve cause.ext (tried serve 0 (gate_plan cause r) m))

-- and it leaves the mode
left_stays : (ext : Bool) (r : Regs) (w : Outcome Regs × Mem) → Steady r r → IfPassed (Steady r) w.0 → Steady r (left_by r (finished (with_ext ext w))).0.regs
left_stays ext r (Passed q, n) same h = h
left_stays ext r (Failed fault, n) same h = same
left_stays ext r (NoStep, n) same h = same

once_stays : (serve : Serve) (cause : Cause) (r : Regs) (m : Mem) → Steady r (left_by r (delivered_once serve cause r m)).0.regs
unfolding delivered_once
once_stays serve cause r m = left_stays cause.ext r (tried serve 0 (gate_plan cause r) m) (record { cr0 = refl; cr3 = refl; cpl = refl; virtual = refl; flags = λ h. h })
    (tried_ends (Steady r) Serious serve 0 (gate_plan cause r) m (gate_ends cause r))

pub real_stays : (serve : Serve) (cause : Cause) (r : Regs) (m : Mem) → has_protection r ≡ false → Steady r (delivered_by_gate serve cause r m).0.regs
real_stays serve cause r m h = subst (λ (w : Left Bool × Mem). Steady r w.0.regs) (sym (real_once serve cause r m h)) (once_stays serve cause r m)

address_real : (b : Bool) (r : Regs) (at : ℕ) → has_protection r ≡ false → has_protection (if b then record r { cr2 = at } else r) ≡ false
address_real true r at h = h
address_real false r at h = h

module _ (x y : Cause → Regs → Mem → Outcome Arrival × Mem) (same : (c : Cause) (q : Regs) (k : Mem) → has_protection q ≡ false → x c q k ≡ y c q k) where
  followed_real : (o : Option Fault) (r : Regs) (m : Mem) → has_protection r ≡ false → followed_by o r m x ≡ followed_by o r m y
  followed_real None r m h = refl
  followed_real (Some fault) r m h = same (fault_cause r fault) (with_address r fault) m (address_real (fault.vector == 14) r fault.addr h)

  delivery_real : (cause : Cause) (r : Regs) (w : Outcome Regs × Mem) → has_protection r ≡ false
      → behind_delivery (left_by r w) (λ fault q n. followed_by (combine cause fault) q n x)
      ≡ handled w (λ q n. (Passed (running q), n)) (λ fault n. followed_by (combine cause fault) r n y)
  delivery_real cause r (Passed q, n) h = refl
  delivery_real cause r (Failed fault, n) h = followed_real (combine cause fault) r n h
  delivery_real cause r (NoStep, n) h = refl

deliveries_real : (n : ℕ) (serve : Serve) (cause : Cause) (r : Regs) (m : Mem) → has_protection r ≡ false → deliveries_by_gate n serve cause r m ≡ deliveries n serve cause r m
unfolding deliveries_by_gate deliveries
deliveries_real zero serve cause r m h = refl
deliveries_real (suc n) serve cause r m h =
    ap (λ w. behind_delivery w (λ fault q k. followed_by (combine cause fault) q k (deliveries_by_gate n serve))) (real_once serve cause r m h)
    ∙ delivery_real (deliveries_by_gate n serve) (deliveries n serve) (λ c q k e. deliveries_real n serve c q k e) cause r (delivered_once serve cause r m) h

-- so is the delivery
pub real_delivery : (serve : Serve) (cause : Cause) (r : Regs) (m : Mem) → has_protection r ≡ false → deliver_by_gate serve cause r m ≡ deliver serve cause r m
unfolding deliver_by_gate deliver
real_delivery serve cause r m h = deliveries_real 4 serve cause r m h
