-- What a rule serves in a delivery, and behind the fetch of an instruction, is served by a list of items.
use Rattle.std.proofs.Common.{◌≡◌, ℕ, ◌==◌, Bool, true, false, List, ◌++◌, refl, sym, ap, subst, ◌∙◌, append_assoc}
use Rattle.std.specs.Prelude.{if◌then◌else◌}
use Rattle.std.specs.FinMap.{empty}
use Rattle.mdl_state.specs.declared.Regs.{Regs}
use Rattle.mdl_state.specs.declared.Fault.{Fault}
use Rattle.mdl_state.specs.declared.Next.{Next}
use Rattle.mdl_state.specs.declared.Next.TheVariants as next
use Rattle.mdl_state.specs.State.{Mem, Item, Core}
use Rattle.mdl_state.specs.Machine.{Rules}
use Rattle.mdl_state.specs.Watches.{unwatched}
use Rattle.mdl_state.specs.Serving.{Pick, Policy, Outcome, Passed, Failed, NoStep, by_pick, by_list, with_items}
use Rattle.mdl_state.specs.Choices.{Meets, Follows, stays_follow, on_follows, walks_after, walks_after-append}
use Rattle.mdl_cpu.specs.declared.Cause.{Cause}
use Rattle.mdl_cpu.specs.Steady.{has_paging}
use Rattle.mdl_cpu.specs.Causes.{fault_cause, soft_cause, with_address}
use Rattle.mdl_cpu.specs.Switch.{Left}
use Rattle.mdl_cpu.specs.TaskDeliveries.{deliver_by_gate}
use Rattle.mdl_cpu.proofs.ChoiceLaws.{deliver_by_gate_follows}
use Rattle.mdl_insn.specs.declared.instruction.Insn.{Insn}
use Rattle.mdl_insn.specs.declared.instruction.Operand.{Operand}
use Rattle.mdl_insn.specs.declared.instruction.Operand.TheVariants.{Creg}
use Rattle.mdl_insn.specs.declared.mnemonics.Op.{Op}
use Rattle.mdl_insn.specs.declared.mnemonics.Op.TheVariants as ops
use Rattle.mdl_effect.specs.Operands.{After}
use Rattle.mdl_step.specs.Fetching.{Code, Instruction, Refused}
use Rattle.mdl_step.specs.Delivering.{arrived, delivered}
use Rattle.mdl_step.specs.Step.{behind, completed, passed_by, faulted, with_control, remapped, attempted, ended, executed, MovesBoard, Comes}
use Rattle.mdl_step.proofs.StepLaws.{attempted_follows}

-- ---- a part behind a part

-- what comes of the second part, with these items, begins with what comes of the first
record Handles {A B : Type 0} (old : Mem) (r : A × Mem) (w : B × Mem) (f : Mem → A × Mem) (h : Mem → B × Mem) : Type 0 where
  items : List Item
  front : (rest : List Item) → (f (with_items old (items ++ rest))).0 ≡ r.0
  same : (rest : List Item) → h (with_items old (items ++ rest)) ≡ (w.0, with_items w.1 rest)
  walks : w.1.walks ≡ walks_after items old.walks

handles : {A B : Type 0} (old : Mem) (r : A × Mem) (f : Mem → A × Mem) (k l : A → Mem → B × Mem) → Follows old r f → ((x : A) (n : Mem) → Follows n (k x n) (l x))
    → Handles old r (k r.0 r.1) f (λ n. l (f n).0 (f n).1)
handles old (x, m) f k l p q = let t = q x m in record {
  items = p.items ++ t.items;
  front = λ rest. ap (λ (is : List Item). (f (with_items old is)).0) (append_assoc p.items t.items rest) ∙ ap (λ w. w.0) (p.same (t.items ++ rest));
  same = λ rest. ap (λ is. l (f (with_items old is)).0 (f (with_items old is)).1) (append_assoc p.items t.items rest) ∙ ap (λ w. l w.0 w.1) (p.same (t.items ++ rest)) ∙ t.same rest;
  walks = t.walks ∙ ap (walks_after t.items) p.walks ∙ sym (walks_after-append p.items t.items old.walks);
}

-- ---- memory that is remapped

control_items : (number : ℕ) (r : Regs) (m : Mem) (is : List Item) → with_control number r (with_items m is) ≡ with_items (with_control number r m) is
control_items number r m is = by_number (number == 0) (number == 3)
  where
    by_number : (a b : Bool) → (if a then record (with_items m is) { paging = has_paging r } else if b then record (with_items m is) { cr3 = r.cr3; cache = empty } else with_items m is)
        ≡ with_items (if a then record m { paging = has_paging r } else if b then record m { cr3 = r.cr3; cache = empty } else m) is
    by_number true b = refl
    by_number false true = refl
    by_number false false = refl

control_walks : (number : ℕ) (r : Regs) (m : Mem) → (with_control number r m).walks ≡ m.walks
control_walks number r m = by_number (number == 0) (number == 3)
  where
    by_number : (a b : Bool) → (if a then record m { paging = has_paging r } else if b then record m { cr3 = r.cr3; cache = empty } else m).walks ≡ m.walks
    by_number true b = refl
    by_number false true = refl
    by_number false false = refl

remapped_items : (op : Op) (a : Operand) (r : Regs) (m : Mem) (is : List Item) → remapped op a r (with_items m is) ≡ with_items (remapped op a r m) is
remapped_items ops.Mov (Creg number) r m is = control_items number r m is
remapped_items _ _ r m is = refl

remapped_walks : (op : Op) (a : Operand) (r : Regs) (m : Mem) → (remapped op a r m).walks ≡ m.walks
remapped_walks ops.Mov (Creg number) r m = control_walks number r m
remapped_walks _ _ r m = refl

module _ (pick : Pick) (policy : Policy) (meets : Meets pick policy) where
  -- ---- deliveries

  pub delivered_follows : (cause : Cause) (core : Core) (m : Mem) → Follows m (delivered (by_pick pick) cause core m) (λ n. delivered (by_list policy) cause core n)
  delivered_follows cause core m = on_follows m (deliver_by_gate (by_pick pick) cause core.regs m) _ (λ n. deliver_by_gate (by_list policy) cause core.regs n) _
      (deliver_by_gate_follows pick policy meets cause core.regs m) (λ arrival n. stays_follow n (Passed (arrived core arrival)))

  -- ---- behind the fetch

  faulted_follows : (core : Core) (fault : Fault) (m : Mem) → Follows m (faulted (by_pick pick) core fault m) (λ n. faulted (by_list policy) core fault n)
  faulted_follows core fault m = delivered_follows (fault_cause core.regs fault) (record core { regs = with_address core.regs fault; latches = record core.latches { hold = 0 } }) m

  passed_follows : (after : Next) (core : Core) (insn : Insn) (left : After) (back hits : ℕ) (m : Mem)
      → Follows m (passed_by after (by_pick pick) core insn left back hits m) (λ n. passed_by after (by_list policy) core insn left back hits n)
  passed_follows (next.Soft vector) core insn left back hits m = delivered_follows (soft_cause vector back) (completed core insn left back hits) m
  passed_follows _ core insn left back hits m = stays_follow m (Passed (completed core insn left back hits))

  -- an instruction that passes
  onward_follows : (core : Core) (insn : Insn) (back : ℕ) (left : After) (m : Mem)
      → Follows m (passed_by left.next (by_pick pick) core insn left back m.hits (remapped insn.op insn.a left.regs (unwatched m)))
      (λ n. passed_by left.next (by_list policy) core insn left back n.hits (remapped insn.op insn.a left.regs (unwatched n)))
  onward_follows core insn back left m =
      let t = passed_follows left.next core insn left back m.hits (remapped insn.op insn.a left.regs (unwatched m)) in record {
        items = t.items;
        same = λ rest. ap (λ (n : Mem). passed_by left.next (by_list policy) core insn left back m.hits n) (remapped_items insn.op insn.a left.regs (unwatched m) (t.items ++ rest)) ∙ t.same rest;
        walks = t.walks ∙ ap (walks_after t.items) (remapped_walks insn.op insn.a left.regs (unwatched m));
      }

  -- one that faults
  back_follows : (core : Core) (fault : Fault) (m : Mem) → Follows m (faulted (by_pick pick) core fault (unwatched m)) (λ n. faulted (by_list policy) core fault (unwatched n))
  back_follows core fault m = let t = faulted_follows core fault (unwatched m) in record { items = t.items; same = λ rest. t.same rest; walks = t.walks }

  -- what comes of it, with the registers of the task that it is in then
  ended_follows : (core : Core) (insn : Insn) (back : ℕ) (o : Outcome After) (r : Regs) (m : Mem)
      → Follows m (ended o (by_pick pick) core insn back r m) (λ n. ended o (by_list policy) core insn back r n)
  ended_follows core insn back (Passed after) r m = onward_follows core insn back after m
  ended_follows core insn back (Failed fault) r m = back_follows (record core { regs = r }) fault m
  ended_follows core insn back NoStep r m = stays_follow m NoStep

  executes : (core : Core) (insn : Insn) (back given free : ℕ) (m : Mem)
      → Handles m (attempted (by_pick pick) core insn back given free m) (executed (by_pick pick) core insn back given free m) (λ n. attempted (by_list policy) core insn back given free n) (λ n. executed (by_list policy) core insn back given free n)
  executes core insn back given free m = handles m (attempted (by_pick pick) core insn back given free m) (λ n. attempted (by_list policy) core insn back given free n)
      (λ x n. ended x.outcome (by_pick pick) core insn back x.regs n) (λ x n. ended x.outcome (by_list policy) core insn back x.regs n)
      (attempted_follows pick policy meets core insn back given free m) (λ x n. ended_follows core insn back x.outcome x.regs n)

  -- What code comes to: these items serve it, whatever others are behind them.
  pub record ComesBy {B : Type 0} (rules : Rules B) (core : Core) (code : Code) (free : ℕ) (m : Mem) (old : B) (w : Outcome Core × Mem) (new : B) : Type 0 where
    pub items : List Item
    pub comes : (rest : List Item) → Comes rules (by_list policy) core code free (with_items m (items ++ rest)) old (w.0, with_items w.1 rest) new
    pub walks : w.1.walks ≡ walks_after items m.walks

  pub comes_follows : {B : Type 0} (rules : Rules B) (core : Core) (code : Code) (free : ℕ) (m : Mem) (old : B) (w : Outcome Core × Mem) (new : B)
      → Comes rules (by_pick pick) core code free m old w new → ComesBy rules core code free m old w new
  comes_follows rules core (Instruction insn count) free m old w new c =
      let back = behind core.regs count in
      let given = c.0 in
      let t = executes core insn back given free m in record {
        items = t.items;
        comes = λ rest. (
          given,
          subst (λ (o : Left After). MovesBoard rules o.outcome given old new) (sym (t.front rest)) c.1,
          t.same rest ∙ ap (λ (v : Outcome Core × Mem). (v.0, with_items v.1 rest)) c.2,
        );
        walks = ap (λ (v : Outcome Core × Mem). v.1.walks) (sym c.2) ∙ t.walks;
      }
  comes_follows rules core (Refused fault) free m old w new c =
      let t = faulted_follows core fault m in record {
        items = t.items;
        comes = λ rest. (c.0, t.same rest ∙ ap (λ (v : Outcome Core × Mem). (v.0, with_items v.1 rest)) c.1);
        walks = ap (λ (v : Outcome Core × Mem). v.1.walks) (sym c.1) ∙ t.walks;
      }
