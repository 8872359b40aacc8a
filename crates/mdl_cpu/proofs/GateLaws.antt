-- What the way to a handler leaves, and which faults come on it.
use Rattle.std.proofs.Common.{◌≡◌, ◌≢◌, ◌<◌, ℕ, Bool, true, false, cond, refl, ap, ◌∙◌, arith}
use Rattle.std.specs.Prelude.{◌+◌, ◌*◌, ◌%◌, ◌^◌, ◌==◌, ⊤, if◌then◌else◌, nat_lt, Ok, Err}
use Rattle.mdl_state.specs.declared.Size.{Size}
use Rattle.mdl_state.specs.declared.Size.TheVariants.{B1, B2, B4}
use Rattle.mdl_state.specs.declared.Seg.TheVariants.{Cs, Ss}
use Rattle.mdl_state.specs.declared.Who.TheVariants.{Tables}
use Rattle.mdl_state.specs.declared.Regs.{Regs}
use Rattle.mdl_state.specs.declared.Fault.{Fault}
use Rattle.mdl_state.specs.Bytes.{bit}
use Rattle.mdl_state.specs.Registers.{seg_of, with_reg, with_seg}
use Rattle.mdl_state.specs.Attempt.{Plan, Done, Load, Store, then_plan, checked}
use Rattle.mdl_state.specs.Ends.{Ends, then_ends}
use Rattle.mdl_num.specs.Flags.{with_bit}
use Rattle.mdl_num.proofs.Places.{bit_at-with_bit_other, with_bit-lt}
use Rattle.mdl_cpu.specs.declared.Cause.{Cause}
use Rattle.mdl_cpu.specs.Segments.{who_of}
use Rattle.mdl_cpu.specs.SystemFlags.{TF, IF, RF, AreFlags}
use Rattle.mdl_cpu.specs.Steady.{Steady}
use Rattle.mdl_cpu.specs.Access.{legal, segment_fault, store_to}
use Rattle.mdl_cpu.specs.Loads.{with_selector}
use Rattle.mdl_cpu.specs.Stack.{push_plan}
use Rattle.mdl_cpu.specs.Causes.{saved_eip}
use Rattle.mdl_cpu.specs.Gates.{double_fault, entry_ip, entry_cs, handler_flags, at_handler, frame_plan, real_gate_plan, gate_plan}
use Rattle.mdl_cpu.specs.Deliveries.{Serious}

-- ---- registers that leave the mode

stays : (r : Regs) → Steady r r
stays r = record { cr0 = refl; cr3 = refl; cpl = refl; virtual = refl; flags = λ h. h }

then_stays : {o m n : Regs} → Steady o m → Steady m n → Steady o n
then_stays {o} {m} {n} first second = record {
  cr0 = second.cr0 ∙ first.cr0;
  cr3 = second.cr3 ∙ first.cr3;
  cpl = second.cpl ∙ first.cpl;
  virtual = second.virtual ∙ first.virtual;
  flags = λ h. second.flags (first.flags h);
}

either_stays : (c : Bool) (r p q : Regs) → Steady r p → Steady r q → Steady r (if c then p else q)
either_stays true r p q h k = h
either_stays false r p q h k = k

reg_stays : (r : Regs) (n : ℕ) (size : Size) (value : ℕ) → Steady r (with_reg r n size value)
unfolding with_reg
reg_stays r n B1 value = either_stays (nat_lt n 4) r _ _
    (record { cr0 = refl; cr3 = refl; cpl = refl; virtual = refl; flags = λ h. h }) (record { cr0 = refl; cr3 = refl; cpl = refl; virtual = refl; flags = λ h. h })
reg_stays r n B2 value = record { cr0 = refl; cr3 = refl; cpl = refl; virtual = refl; flags = λ h. h }
reg_stays r n B4 value = record { cr0 = refl; cr3 = refl; cpl = refl; virtual = refl; flags = λ h. h }

-- EFLAGS with some bits changed that are none of the mode
record KeepsFlags (old new : ℕ) : Type 0 where
  pub virtual : bit new 17 ≡ bit old 17
  pub flags : AreFlags old → AreFlags new

then_keep : {o m n : ℕ} → KeepsFlags o m → KeepsFlags m n → KeepsFlags o n
then_keep {o} {m} {n} first second = record { virtual = second.virtual ∙ first.virtual; flags = λ h. second.flags (first.flags h) }

same_bit : (n k j : ℕ) → j ≢ k → bit (with_bit n k 0) j ≡ bit n j
same_bit n k j other = ap (λ v. v == 1) (bit_at-with_bit_other n k 0 j (omega arith) other)

-- a flag's place that is neither VM's nor that of no flag
record IsFlag (k : ℕ) : Type 0 where
  pub one : 1 ≢ k
  pub three : 3 ≢ k
  pub five : 5 ≢ k
  pub fifteen : 15 ≢ k
  pub virtual : 17 ≢ k
  pub below : k < 18

cleared_keeps : (n k : ℕ) → IsFlag k → KeepsFlags n (with_bit n k 0)
cleared_keeps n k is = record {
  virtual = same_bit n k 17 is.virtual;
  flags = λ h. record {
    one = same_bit n k 1 is.one ∙ h.one;
    three = same_bit n k 3 is.three ∙ h.three;
    five = same_bit n k 5 is.five ∙ h.five;
    fifteen = same_bit n k 15 is.fifteen ∙ h.fifteen;
    above = with_bit-lt n k 0 18 h.above is.below (omega arith);
  };
}

is_tf : IsFlag TF
is_tf = record { one = omega arith; three = omega arith; five = omega arith; fifteen = omega arith; virtual = omega arith; below = omega arith }

is_if : IsFlag IF
is_if = record { one = omega arith; three = omega arith; five = omega arith; fifteen = omega arith; virtual = omega arith; below = omega arith }

is_rf : IsFlag RF
is_rf = record { one = omega arith; three = omega arith; five = omega arith; fifteen = omega arith; virtual = omega arith; below = omega arith }

resumed_keeps : (soft : Bool) (e : ℕ) → KeepsFlags e (if soft then with_bit e RF 0 else e)
resumed_keeps true e = cleared_keeps e RF is_rf
resumed_keeps false e = record { virtual = refl; flags = λ h. h }

handler_keeps : (cause : Cause) (e : ℕ) → KeepsFlags e (handler_flags cause e)
handler_keeps cause e = then_keep (then_keep (resumed_keeps cause.soft e) (cleared_keeps _ IF is_if)) (cleared_keeps _ TF is_tf)

handler_stays : (cause : Cause) (r : Regs) (ip cs : ℕ) → Steady r (at_handler cause r ip cs)
unfolding with_selector with_seg
handler_stays cause r ip cs =
    let keep = handler_keeps cause r.eflags in
    record { cr0 = refl; cr3 = refl; cpl = refl; virtual = keep.virtual; flags = keep.flags }

-- ---- plans

-- each way through the plan that passes ends so, and no check fails with a benign fault
pub record Ways {A : Type 0} (P : A → Type 0) (plan : Plan A) : Type 0 where
  pub ends : Ends P Serious plan

pub passes : {A : Type 0} {P : A → Type 0} {x : A} → P x → Ways P (Done x)
passes h = record { ends = h }

pub then_way : {A B : Type 0} {R : A → Type 0} {P : B → Type 0} {plan : Plan A} {f : A → Plan B} → Ways R plan → ((x : A) → R x → Ways P (f x)) → Ways P (then_plan plan f)
then_way {A} {B} {R} {P} {plan} {f} h k = record { ends = then_ends R P Serious plan f h.ends (λ x y. (k x y).ends) }

load_way : {A : Type 0} {P : A → Type 0} (lin : ℕ) (size : Size) (k : ℕ → Plan A) → ((value : ℕ) → Ways P (k value)) → Ways P (Load lin size Tables k)
load_way lin size k h = record { ends = λ value. (h value).ends }

row_way : {A : Type 0} (P : A → Type 0) (holds : Bool) (fault : Fault) (k : Unit {0} → Plan A) → Serious fault → Ways P (k tt) → Ways P (checked (cond holds (Err fault) (Ok tt)) k)
row_way P true fault k s h = record { ends = s }
row_way P false fault k s h = h

pub stack_store : (allowed : Bool) (at : ℕ) (r : Regs) (size : Size) (value : ℕ)
    → Ways (λ (_ : Unit {0}). ⊤) (checked (cond allowed (Ok at) (Err (segment_fault Ss))) (λ at. Store at size value (who_of r) (Done tt)))
stack_store true at r size value = record { ends = tt }
stack_store false at r size value = record { ends = tt }

store_way : (r : Regs) (offset : ℕ) (size : Size) (value : ℕ) → Ways (λ (_ : Unit {0}). ⊤) (store_to r Ss offset size value)
unfolding legal
store_way r offset size value = stack_store _ _ r size value

push_way : (o r : Regs) (size : Size) (value : ℕ) → Steady o r → Ways (Steady o) (push_plan r size value)
unfolding push_plan
push_way o r size value h = then_way (store_way r _ size value) (λ _ _. passes (then_stays h (reg_stays r _ _ _)))

frame_way : (cause : Cause) (r : Regs) → Ways (Steady r) (frame_plan cause r)
unfolding frame_plan
frame_way cause r =
    then_way (push_way r r B2 (r.eflags % 2 ^ 16) (stays r)) (λ a s.
    then_way (push_way r a B2 (seg_of r Cs).sel s) (λ b t.
    push_way r b B2 (saved_eip r cause % 2 ^ 16) t))

gate_way : (cause : Cause) (r : Regs) → Ways (Steady r) (gate_plan cause r)
unfolding gate_plan real_gate_plan
gate_way cause r = row_way (Steady r) (nat_lt r.idt_limit (4 * cause.vector + 3)) double_fault _ tt
    (load_way (entry_ip r cause.vector) B2 _ (λ ip.
    load_way (entry_cs r cause.vector) B2 _ (λ cs.
    then_way (frame_way cause r) (λ s h. passes (then_stays h (handler_stays cause s ip cs))))))

-- the way to a handler leaves the mode, and no benign fault comes on it
pub gate_ends : (cause : Cause) (r : Regs) → Ends (Steady r) Serious (gate_plan cause r)
gate_ends cause r = (gate_way cause r).ends
