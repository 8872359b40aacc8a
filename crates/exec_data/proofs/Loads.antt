-- A load of a segment register leaves the kept flags alone.
use Rattle.std.proofs.Common.{◌≡◌, ℕ, Bool, true, false, refl, sym, ◌∙◌, ap, arith}
use Rattle.std.specs.Prelude.{if◌then◌else◌, not, Result, Ok, Err}
use Rattle.mdl_state.specs.declared.Regs.{Regs}
use Rattle.mdl_state.specs.declared.Seg.{Seg}
use Rattle.mdl_state.specs.declared.Seg.TheVariants.{Ss}
use Rattle.mdl_state.specs.declared.Fault.{Fault}
use Rattle.mdl_state.specs.State.{Mem}
use Rattle.mdl_state.specs.Registers.{seg_of, with_seg}
use Rattle.mdl_state.specs.Serving.{Serve, Outcome, Passed, on}
use Rattle.mdl_state.specs.Attempt.{Plan, Done, then_plan, checked, tried}
use Rattle.mdl_state.specs.AttemptLaws.{on_same, on_on, tried-then_plan}
use Rattle.mdl_cpu.specs.declared.Desc.{Desc}
use Rattle.mdl_cpu.specs.Segments.{has_protection, is_virtual}
use Rattle.mdl_cpu.specs.SystemFlags.{VM}
use Rattle.mdl_cpu.specs.Faults.{first_of}
use Rattle.mdl_cpu.specs.Descriptors.{is_null, is_outside, place_of, descriptor_plan, accessed_plan}
use Rattle.mdl_cpu.specs.Loads.{with_selector, by_mode, known_plan, data_rows, data_plan, stack_plan, load_data_plan, load_stack_plan, load_plan, answered}
use Rattle.operands.specs.Whole.{whole}
use Rattle.operands.proofs.Statuses.{kept_bit}

-- they are not of the mode
virtual_kept : (r : Regs) (F : ℕ) → is_virtual (whole r F) ≡ is_virtual r
virtual_kept r F = rw (kept_bit r.eflags F VM (omega arith) (omega arith)) refl

module _ (serve : Serve) (F : ℕ) where
  -- the flags packed into the registers that a part leaves
  abbrev packed : Outcome Regs × Mem → Outcome Regs × Mem
  packed w = on w (λ q n. (Passed (whole q F), n))

  answered_packed : (result : Result (Unit {0}) Fault) (r : Regs) (m : Mem) → packed (answered result r, m) ≡ (answered result (whole r F), m)
  answered_packed (Ok _) r m = refl
  answered_packed (Err fault) r m = refl

  -- what the one plan leaves with the flags packed is what the other leaves
  record Packs (p q : Plan Regs) : Type 0 where
    pub each : (m : Mem) → packed (tried serve 0 p m) ≡ tried serve 0 q m

  done_packs : (r : Regs) → Packs (Done r) (Done (whole r F))
  done_packs r = record { each = λ m. refl }

  then_packs : {A : Type 0} (p : Plan A) (f g : A → Plan Regs) → ((x : A) → Packs (f x) (g x)) → Packs (then_plan p f) (then_plan p g)
  then_packs p f g h = record {
    each = λ m. ap packed (tried-then_plan serve 0 p f m) ∙ on_on (tried serve 0 p m) _ _
        ∙ on_same (tried serve 0 p m) _ _ (λ x n. (h x).each n) ∙ sym (tried-then_plan serve 0 p g m);
  }

  checked_packs : {A : Type 0} (c : Result A Fault) (f g : A → Plan Regs) → ((x : A) → Packs (f x) (g x)) → Packs (checked c f) (checked c g)
  checked_packs (Ok x) f g h = h x
  checked_packs (Err fault) f g h = record { each = λ m. refl }

  either_packs : (b : Bool) (p q v w : Plan Regs) → Packs p v → Packs q w → Packs (if b then p else q) (if b then v else w)
  either_packs true p q v w h k = h
  either_packs false p q v w h k = k

  known_packs : (r : Regs) (seg : Seg) (sel : ℕ) (d : Desc) → Packs (known_plan r seg sel d) (known_plan (whole r F) seg sel d)
  unfolding known_plan with_seg
  known_packs r seg sel d = then_packs (accessed_plan d) _ _ (λ _. record { each = λ m. refl })

  data_packs : (r : Regs) (seg : Seg) (sel : ℕ) → Packs (data_plan 13 r seg sel) (data_plan 13 (whole r F) seg sel)
  unfolding data_plan descriptor_plan is_outside place_of with_seg
  data_packs r seg sel = either_packs (is_null sel) _ _ _ _ (record { each = λ m. refl })
      (then_packs (descriptor_plan r sel 13) _ _ (λ d. checked_packs (first_of (data_rows 13 r.cpl sel d)) _ _ (λ _. known_packs r seg sel d)))

  stack_packs : (r : Regs) (sel : ℕ) → Packs (then_plan (stack_plan 13 r.cpl r sel) (λ d. known_plan r Ss sel d))
      (then_plan (stack_plan 13 r.cpl (whole r F) sel) (λ d. known_plan (whole r F) Ss sel d))
  unfolding stack_plan descriptor_plan is_outside place_of
  stack_packs r sel = then_packs (stack_plan 13 r.cpl r sel) _ _ (λ d. known_packs r Ss sel d)

  mode_packs : (r : Regs) (seg : Seg) (sel : ℕ) (p q : Plan Regs) → Packs p q → Packs (by_mode r seg sel p) (by_mode (whole r F) seg sel q)
  unfolding with_selector with_seg seg_of
  mode_packs r seg sel p q h = rw (virtual_kept r F) (either_packs (not (has_protection r)) _ _ _ _ (record { each = λ m. refl })
      (either_packs (is_virtual r) _ _ _ _ (record { each = λ m. refl }) h))

  load_packs : (r : Regs) (seg : Seg) (sel : ℕ) → Packs (load_plan r seg sel) (load_plan (whole r F) seg sel)
  unfolding load_plan load_stack_plan load_data_plan
  load_packs r Ss sel = mode_packs r Ss sel _ _ (stack_packs r sel)
  load_packs r seg sel = mode_packs r seg sel _ _ (data_packs r seg sel)

pub load_packed : (serve : Serve) (result : Result (Unit {0}) Fault) (old new : Regs) (F : ℕ) (seg : Seg) (sel : ℕ) (m n : Mem)
    → (answered result new, n) ≡ tried serve 0 (load_plan old seg sel) m
    → (answered result (whole new F), n) ≡ tried serve 0 (load_plan (whole old F) seg sel) m
load_packed serve result old new F seg sel m n e = sym (answered_packed serve F result new n) ∙ ap (packed serve F) e ∙ (load_packs serve F old seg sel).each m
