-- Steps by their parts.
use Rattle.std.proofs.Common.{◌≡◌, ℕ, Bool, true, false, List, [], ◌++◌, refl, sym, ap, subst, ◌∙◌}
use Rattle.std.specs.Prelude.{bit_or}
use Rattle.std.proofs.lemmas.List.{append-nil}
use Rattle.mdl_state.specs.declared.Regs.{Regs}
use Rattle.mdl_state.specs.declared.Fault.{Fault}
use Rattle.mdl_state.specs.declared.Next.{Next}
use Rattle.mdl_state.specs.declared.Watch.{Watch}
use Rattle.mdl_state.specs.declared.Next.TheVariants as next
use Rattle.mdl_state.specs.State.{Mem, Item, Core, State}
use Rattle.mdl_state.specs.Machine.{Rules, Machine}
use Rattle.mdl_state.specs.Bytes.{bit}
use Rattle.mdl_state.specs.Watches.{unwatched, watching}
use Rattle.mdl_state.specs.Serving.{Serve, Pick, Policy, Outcome, Passed, by_pick, by_list, with_items}
use Rattle.mdl_state.specs.Choices.{Meets, Follows, walks_after, walks_after-append}
use Rattle.mdl_cpu.specs.declared.Cause.{Cause}
use Rattle.mdl_cpu.specs.Breakpoints.{data_breakpoints}
use Rattle.mdl_cpu.specs.Causes.{event_cause, soft_cause}
use Rattle.mdl_cpu.specs.Switch.{Left, left}
use Rattle.mdl_insn.specs.declared.instruction.Insn.{Insn}
use Rattle.mdl_insn.specs.declared.mnemonics.Op.{Op}
use Rattle.mdl_effect.specs.Operands.{After, PortUse}
use Rattle.mdl_step.specs.Fetching.{Instruction}
use Rattle.mdl_step.specs.Boundary as rows
use Rattle.mdl_step.specs.Boundary.{Boundary}
use Rattle.mdl_step.specs.Delivering.{delivered}
use Rattle.mdl_step.specs.Step.{behind, landed, resumed, activity_after, masks, hold_after, MovesBoard, completed, passed_by, faulted, remapped, attempted, ended_by, executed, step_trap, task_trap, Comes, Delivers, at_trap, at_break, at_nmi, break_cause, Does, EndsBy, row_of}
use Rattle.mdl_step.specs.RunLaws.{SomeStep}
use Rattle.mdl_step.specs.Effects.{run_whole}
use Rattle.mdl_step.proofs.BareLaws.{bare, remapped_bare, remapped_hits, whole_bare}
use Rattle.mdl_step.proofs.StepLaws.{fetch_follows}
use Rattle.mdl_step.proofs.TurnLaws.{delivered_follows, comes_follows}
use Rattle.cpu_core.specs.Executing.{Passes, Faults}
use Rattle.cpu_core.specs.Turns.{Executed, Takes, SomeTurn}
use Rattle.cpu_core.proofs.Pending.{or_zero}

-- ---- what an instruction leaves

untrapped : (after : Next) (r : Regs) → bit r.eflags 8 ≡ false → step_trap after r ≡ 0
untrapped (next.Soft vector) r e = refl
untrapped (next.Task trap) r e = refl
untrapped next.Follow r e = rw e refl
untrapped next.Landed r e = rw e refl
untrapped next.Again r e = rw e refl
untrapped next.Halt r e = rw e refl
untrapped next.HoldAll r e = rw e refl
untrapped next.HoldIntr r e = rw e refl

-- the bits of DR6 that are pending behind an instruction that met these breakpoints
abbrev pub pending_behind : Next → Regs → ℕ → ℕ → ℕ
pending_behind after r hits pending = bit_or pending (bit_or hits (bit_or (step_trap after r) (task_trap after)))

-- no more bits of DR6 are pending where TF was 0 and no task was entered
none_pending : (after : Next) (r : Regs) (pending : ℕ) → bit r.eflags 8 ≡ false → task_trap after ≡ 0 → pending_behind after r 0 pending ≡ pending
none_pending after r pending e t = rw (untrapped after r e, t) (ap (bit_or pending) (ap (bit_or 0) (or_zero 0) ∙ or_zero 0) ∙ or_zero pending)

-- the processor behind an instruction that left these registers, with these bits of DR6 pending
abbrev pub behind_it : Core → Op → Next → ℕ → ℕ → Core
behind_it core op after back pending = record core {
  regs = resumed op after (landed after core.regs back);
  activity = activity_after after;
  latches = record core.latches { masked = masks op core.latches.masked; hold = hold_after after; pending = pending };
}

left_by : (core : Core) (insn : Insn) (op : Op) (old : Regs) (after : Next) (back hits : ℕ) (access : PortUse) → insn.op ≡ op
    → completed (record core { regs = old }) insn (record { regs = core.regs; next = after; access = access }) back hits ≡ behind_it core op after back (pending_behind after old hits core.latches.pending)
left_by core insn op old after back hits access is = rw is refl

-- an instruction that no software interrupt follows
ordinarily : (after : Next) (serve : Serve) (core : Core) (insn : Insn) (left : After) (back hits : ℕ) (m : Mem) → ((vector : ℕ) → after ≡ next.Soft vector → ⊥)
    → passed_by after serve core insn left back hits m ≡ (Passed (completed core insn left back hits), m)
ordinarily (next.Soft vector) serve core insn left back hits m o = absurd (o vector refl)
ordinarily (next.Task trap) serve core insn left back hits m o = refl
ordinarily next.Follow serve core insn left back hits m o = refl
ordinarily next.Landed serve core insn left back hits m o = refl
ordinarily next.Again serve core insn left back hits m o = refl
ordinarily next.Halt serve core insn left back hits m o = refl
ordinarily next.HoldAll serve core insn left back hits m o = refl
ordinarily next.HoldIntr serve core insn left back hits m o = refl

softly : (after : Next) (vector : ℕ) (serve : Serve) (core : Core) (insn : Insn) (left : After) (back hits : ℕ) (m : Mem) → after ≡ next.Soft vector
    → passed_by after serve core insn left back hits m ≡ delivered serve (soft_cause vector back) (completed core insn left back hits) m
softly after vector serve core insn left back hits m is = rw is refl

module _ (pick : Pick) (core mid : Core) (insn : Insn) (op : Op) (old : Regs) (after : Next) (back : ℕ) (access : PortUse) (m : Mem) (is : insn.op ≡ op) where
  -- with a software interrupt
  pub passed_soft : (hits vector : ℕ) (cause : Cause) (w : Outcome Core × Mem) → mid ≡ behind_it core op after back (pending_behind after old hits core.latches.pending)
      → after ≡ next.Soft vector → cause ≡ soft_cause vector back → delivered (by_pick pick) cause mid m ≡ w
      → passed_by after (by_pick pick) (record core { regs = old }) insn (record { regs = core.regs; next = after; access = access }) back hits m ≡ w
  passed_soft hits vector cause w landing soft named done = softly after vector (by_pick pick) (record core { regs = old }) insn (record { regs = core.regs; next = after; access = access }) back hits m soft
      ∙ ap (λ (k : Core). delivered (by_pick pick) (soft_cause vector back) k m) (left_by core insn op old after back hits access is ∙ sym landing)
      ∙ ap (λ (k : Cause). delivered (by_pick pick) k mid m) (sym named) ∙ done

  -- without one
  pub passed_plain : (hits : ℕ) (n : Mem) → mid ≡ behind_it core op after back (pending_behind after old hits core.latches.pending) → n ≡ m → ((vector : ℕ) → after ≡ next.Soft vector → ⊥)
      → passed_by after (by_pick pick) (record core { regs = old }) insn (record { regs = core.regs; next = after; access = access }) back hits m ≡ (Passed mid, n)
  passed_plain hits n landing same o = ordinarily after (by_pick pick) (record core { regs = old }) insn (record { regs = core.regs; next = after; access = access }) back hits m o
      ∙ ap (λ (k : Core). (Passed k, m)) (left_by core insn op old after back hits access is ∙ sym landing) ∙ ap (λ (k : Mem). (Passed mid, k)) (sym same)

  -- and where TF was 0, no breakpoint was met and no task was entered
  pub passed_usual : (n : Mem) → mid ≡ behind_it core op after back core.latches.pending → n ≡ m → ((vector : ℕ) → after ≡ next.Soft vector → ⊥) → bit old.eflags 8 ≡ false → task_trap after ≡ 0
      → passed_by after (by_pick pick) (record core { regs = old }) insn (record { regs = core.regs; next = after; access = access }) back 0 m ≡ (Passed mid, n)
  passed_usual n landing same o e t = passed_plain 0 n (landing ∙ ap (behind_it core op after back) (sym (none_pending after old core.latches.pending e t))) same o

-- ---- what it comes to

module _ {B : Type 0} (rules : Rules B) (pick : Pick) (core : Core) (insn : Insn) (count : ℕ) (mid : Mem) (before : B) where
  -- it passes, with the breakpoints looked for
  pub passing : (new : Regs) (after : Next) (k : Mem) (board : B) (w : Outcome Core × Mem)
      → (p : Passes rules pick insn core.regs (behind core.regs count) (watching mid (data_breakpoints core.regs) 0) before new after k board)
      → ((access : PortUse) → passed_by after (by_pick pick) core insn (record { regs = new; next = after; access = access }) (behind core.regs count) k.hits (unwatched k) ≡ w)
      → Comes rules (by_pick pick) core (Instruction insn count) new.eflags mid before w board
  passing new after k board w p h = (p.given, moved, became)
    where
      moved : MovesBoard rules (attempted (by_pick pick) core insn (behind core.regs count) p.given new.eflags mid).0.outcome p.given before board
      moved = subst (λ (v : Left After × Mem). MovesBoard rules v.0.outcome p.given before board) (sym p.passed) p.moves

      became : executed (by_pick pick) core insn (behind core.regs count) p.given new.eflags mid ≡ w
      became = ap (λ (v : Left After × Mem). ended_by (by_pick pick) core insn (behind core.regs count) v) p.passed
          ∙ ap (λ (hits : ℕ). passed_by after (by_pick pick) core insn (record { regs = new; next = after; access = p.access }) (behind core.regs count) hits (remapped insn.op insn.a new (unwatched p.placed)))
          (sym (remapped_hits insn.op insn.a new p.placed) ∙ ap (λ (n : Mem). n.hits) (sym p.mapped))
          ∙ ap (λ (n : Mem). passed_by after (by_pick pick) core insn (record { regs = new; next = after; access = p.access }) (behind core.regs count) k.hits n)
          (sym (remapped_bare insn.op insn.a new p.placed) ∙ ap (λ (n : Mem). unwatched n) (sym p.mapped))
          ∙ h p.access

  -- it faults, in the task that has these registers
  pub failing : (fault : Fault) (r : Regs) (n : Mem) (w : Outcome Core × Mem)
      → (p : Faults pick insn core.regs (behind core.regs count) (watching mid (data_breakpoints core.regs) 0) fault r n)
      → faulted (by_pick pick) (record core { regs = r }) fault (unwatched n) ≡ w → Comes rules (by_pick pick) core (Instruction insn count) p.free mid before w before
  failing fault r n w p h = (p.given, moved, became)
    where
      moved : MovesBoard rules (attempted (by_pick pick) core insn (behind core.regs count) p.given p.free mid).0.outcome p.given before before
      moved = subst (λ (v : Left After × Mem). MovesBoard rules v.0.outcome p.given before before) (sym p.failed) refl

      became : executed (by_pick pick) core insn (behind core.regs count) p.given p.free mid ≡ w
      became = ap (λ (v : Left After × Mem). ended_by (by_pick pick) core insn (behind core.regs count) v) p.failed ∙ h

-- ---- where no data breakpoint is enabled

module _ (pick : Pick) (insn : Insn) (old : Regs) (back : ℕ) (m : Mem) (ws : List Watch) (none : ws ≡ []) where
  same_run : (given free : ℕ) (l : Left After) (n : Mem) → run_whole (by_pick pick) insn old back given free m ≡ (l, n)
      → run_whole (by_pick pick) insn old back given free (watching (unwatched m) ws 0) ≡ (l, unwatched n)
  same_run given free l n e = ap (λ (vs : List Watch). run_whole (by_pick pick) insn old back given free (watching (unwatched m) vs 0)) none
      ∙ whole_bare pick insn old back given free m ∙ ap bare e

  pub passes_bare : {B : Type 0} (rules : Rules B) (before : B) (new : Regs) (after : Next) (n : Mem) (board : B) → Passes rules pick insn old back m before new after n board
      → Passes rules pick insn old back (watching (unwatched m) ws 0) before new after (unwatched n) board
  passes_bare rules before new after n board p = record {
    given = p.given;
    access = p.access;
    rest = p.rest;
    placed = unwatched p.placed;
    passed = same_run p.given new.eflags _ p.placed p.passed;
    moves = p.moves;
    mapped = ap (λ (k : Mem). unwatched k) p.mapped ∙ remapped_bare insn.op insn.a new p.placed;
  }

  pub faults_bare : (fault : Fault) (new : Regs) (n : Mem) → Faults pick insn old back m fault new n → Faults pick insn old back (watching (unwatched m) ws 0) fault new (unwatched n)
  faults_bare fault new n p = record { given = p.given; free = p.free; failed = same_run p.given p.free _ n p.failed }

-- ---- for some choice

left_alone : (m : Mem) → m.served ≡ [] → with_items m [] ≡ m
left_alone m none = ap (λ (is : List Item). with_items m is) (sym none)

module _ {B : Type 0} (rules : Rules B) (pick : Pick) (policy : Policy) (meets : Meets pick policy) (m n : Machine B)
    (wholly : n.state.mem.served ≡ []) where
  some_delivery : (cause : Cause) (core : Core) → delivered (by_pick pick) cause core m.state.mem ≡ (Passed n.state.core, n.state.mem)
      → (t : Follows m.state.mem (delivered (by_pick pick) cause core m.state.mem) (λ k. delivered (by_list policy) cause core k))
      → Delivers policy cause core m (record { flags = 0; served = t.items }) n
  some_delivery cause core e t = record {
    comes = ap (λ (is : List Item). delivered (by_list policy) cause core (with_items m.state.mem is)) (sym (append-nil t.items)) ∙ t.same []
        ∙ ap (λ (w : Outcome Core × Mem). (w.0, with_items w.1 [])) e ∙ ap (λ (k : Mem). (Passed n.state.core, k)) (left_alone n.state.mem wholly);
    wholly = wholly;
  }

  counts : (cause : Cause) (core : Core) → delivered (by_pick pick) cause core m.state.mem ≡ (Passed n.state.core, n.state.mem)
      → (t : Follows m.state.mem (delivered (by_pick pick) cause core m.state.mem) (λ k. delivered (by_list policy) cause core k))
      → n.state.mem.walks ≡ walks_after t.items m.state.mem.walks
  counts cause core e t = ap (λ (w : Outcome Core × Mem). w.1.walks) (sym e) ∙ t.walks

  some_execution : Executed rules pick m n → SomeTurn rows.Execute rules policy m n
  some_execution e =
      let first = fetch_follows pick policy meets m.state.core.regs m.state.mem e.code e.mid e.fetched in
      let second = comes_follows pick policy meets rules m.state.core e.code e.free e.mid m.board (Passed n.state.core, n.state.mem) n.board e.comes in record {
        choice = record { flags = e.free; served = first.items ++ second.items };
        does = record {
          code = e.code;
          mid = with_items e.mid second.items;
          fetched = first.fetched second.items;
          comes = subst (λ (is : List Item). Comes rules (by_list policy) m.state.core e.code e.free (with_items e.mid is) m.board (Passed n.state.core, n.state.mem) n.board) (append-nil second.items)
              (subst (λ (k : Mem). Comes rules (by_list policy) m.state.core e.code e.free (with_items e.mid (second.items ++ [])) m.board (Passed n.state.core, k) n.board) (left_alone n.state.mem wholly) (second.comes []));
          wholly = wholly;
        };
        walks = second.walks ∙ ap (walks_after second.items) first.walks ∙ sym (walks_after-append first.items second.items m.state.mem.walks);
      }

  -- a row that is taken is taken for some choice
  pub some_turn : (row : Boundary) → (row ≡ rows.Idle → ⊥) → Takes row rules pick m n → SomeTurn row rules policy m n
  some_turn rows.Idle h e = absurd (h refl)
  some_turn (rows.Break hits) h e = let t = delivered_follows pick policy meets (break_cause m.state.core.regs) (at_break m.state.core hits) m.state.mem in record {
    choice = record { flags = 0; served = t.items };
    does = (some_delivery (break_cause m.state.core.regs) (at_break m.state.core hits) e.0 t, e.1);
    walks = counts (break_cause m.state.core.regs) (at_break m.state.core hits) e.0 t;
  }
  some_turn rows.Trap h e = let t = delivered_follows pick policy meets (event_cause m.state.core.regs 1) (at_trap m.state.core) m.state.mem in record {
    choice = record { flags = 0; served = t.items };
    does = (some_delivery (event_cause m.state.core.regs 1) (at_trap m.state.core) e.0 t, e.1);
    walks = counts (event_cause m.state.core.regs 1) (at_trap m.state.core) e.0 t;
  }
  some_turn rows.Nmi h e = let t = delivered_follows pick policy meets (event_cause m.state.core.regs 2) (at_nmi m.state.core) m.state.mem in record {
    choice = record { flags = 0; served = t.items };
    does = (some_delivery (event_cause m.state.core.regs 2) (at_nmi m.state.core) e.0 t, e.1);
    walks = counts (event_cause m.state.core.regs 2) (at_nmi m.state.core) e.0 t;
  }
  some_turn rows.Line h e = let t = delivered_follows pick policy meets (event_cause m.state.core.regs e.0) m.state.core m.state.mem in record {
    choice = record { flags = 0; served = t.items };
    does = record { vector = e.0; told = e.1; delivers = some_delivery (event_cause m.state.core.regs e.0) m.state.core e.2 t };
    walks = counts (event_cause m.state.core.regs e.0) m.state.core e.2 t;
  }
  some_turn rows.Execute h e = some_execution e

-- ---- whole steps

ends_walks : {B : Type 0} (asks : Bool) (rules : Rules B) (mid n : Machine B) → EndsBy asks rules mid n → n.state.mem.walks ≡ mid.state.mem.walks
ends_walks true rules mid n e = ap (λ (s : State). s.mem.walks) e.1
ends_walks false rules mid n e = ap (λ (x : Machine _). x.state.mem.walks) e

-- nothing happens
pub idled : {B : Type 0} (rules : Rules B) (policy : Policy) (m n : Machine B) → row_of rules m ≡ rows.Idle → EndsBy (rules.asks m.board) rules m n → SomeStep rules policy m n
idled rules policy m n is ends = record {
  choice = record { flags = 0; served = [] };
  step = record {
    mid = m;
    does = subst (λ (row : Boundary). Does row rules policy m (record { flags = 0; served = [] }) m) (sym is) (record { same = refl; none = refl });
    ends = ends;
  };
  walks = ends_walks (rules.asks m.board) rules m n ends;
}

-- a row is taken
pub stepped : {B : Type 0} (rules : Rules B) (policy : Policy) (row : Boundary) (m mid n : Machine B) → row_of rules m ≡ row → SomeTurn row rules policy m mid → EndsBy (rules.asks mid.board) rules mid n → SomeStep rules policy m n
stepped rules policy row m mid n is done ends = record {
  choice = done.choice;
  step = record {
    mid = mid;
    does = subst (λ (b : Boundary). Does b rules policy m done.choice mid) (sym is) done.does;
    ends = ends;
  };
  walks = ends_walks (rules.asks mid.board) rules mid n ends ∙ done.walks;
}
