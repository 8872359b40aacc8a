-- Laws of a run that is cut in two: each step counts one, and the second part needs the rest of the events alone.
use Rattle.std.specs.Prelude.{◌≡◌, ℕ, suc, ◌+◌, ◌<◌, ◌≤◌, Bool, true, false, List, [], ◌∷◌, ◌++◌, drop, refl}
use Rattle.std.proofs.Common.{ap, sym, subst, ◌∙◌, arith, inl, inr, length-append}
use Rattle.std.proofs.lemmas.Bool.Decides.{eqb_tells, leb_tells}
use Rattle.mdl_state.specs.declared.Event.{Event}
use Rattle.mdl_state.specs.declared.EventKind.{EventKind}
use Rattle.mdl_state.specs.declared.EventKind.TheVariants.{Key, Pulse, Nmi, Reset}
use Rattle.mdl_state.specs.declared.Fault.{Fault}
use Rattle.mdl_state.specs.declared.Next.{Next}
use Rattle.mdl_state.specs.declared.Regs.{Regs}
use Rattle.mdl_state.specs.declared.Next.TheVariants as next
use Rattle.mdl_state.specs.State.{Mem, Core, Choice}
use Rattle.mdl_state.specs.Machine.{Rules, Machine}
use Rattle.mdl_state.specs.Serving.{Serve, Policy, Outcome, Passed, Failed, NoStep, on, by_list, with_items}
use Rattle.mdl_state.specs.Watches.{unwatched}
use Rattle.mdl_insn.specs.declared.instruction.Insn.{Insn}
use Rattle.mdl_effect.specs.Operands.{After}
use Rattle.mdl_cpu.specs.declared.Cause.{Cause}
use Rattle.mdl_board.specs.Board.{BoardState}
use Rattle.mdl_text.specs.Script.{RisesFrom}
use Rattle.mdl_step.specs.Boundary.{Boundary, Idle, Trap, Break, Nmi as NmiRow, Line, Execute}
use Rattle.mdl_cpu.specs.Causes.{fault_cause, with_address}
use Rattle.mdl_cpu.specs.Delivery.{Arrival}
use Rattle.mdl_cpu.specs.TaskDeliveries.{deliver_by_gate}
use Rattle.mdl_step.specs.Delivering.{arrived, delivered}
use Rattle.mdl_step.specs.Fetching.{Code, Instruction, Refused}
use Rattle.mdl_step.specs.Step.{Step, Does, EndsBy, Comes, row_of, passed_by, faulted, ended, executed, attempted, behind, completed, Delivers, at_trap, at_break, at_nmi}
use Rattle.mdl_step.specs.Run as run
use Rattle.mdl_step.specs.Run.{events_at, Steps}
use Rattle.mdl_step.specs.RunLaws.{StepsFor, walks_in}
use Rattle.mdl_step.specs.Computer.{board_rules, on_board, happens, run_policy}
use Rattle.pc_machine.specs.Runs.{due_by, RanFor}
use Rattle.pc_machine.specs.EventLaws.{after_events, applies_same, later_none, none_by}

-- ---- a step counts one

-- a processor that comes of it has this count of steps
abbrev Counts : ℕ → Outcome Core × Mem → Type 0
Counts n (Passed core, m) = core.steps ≡ n
Counts n (Failed fault, m) = Unit {0}
Counts n (NoStep, m) = Unit {0}

arrives : (core : Core) (o : Outcome Arrival × Mem) → Counts core.steps (on o (λ arrival n. (Passed (arrived core arrival), n)))
arrives core (Passed arrival, m) = refl
arrives core (Failed fault, m) = tt
arrives core (NoStep, m) = tt

delivery : (serve : Serve) (cause : Cause) (core : Core) (m : Mem) → Counts core.steps (delivered serve cause core m)
delivery serve cause core m = arrives core (deliver_by_gate serve cause core.regs m)

passes : (serve : Serve) (core : Core) (insn : Insn) (after : After) (back hits : ℕ) (m : Mem) (n : Next) → Counts core.steps (passed_by n serve core insn after back hits m)
passes serve core insn after back hits m (next.Soft vector) = delivery serve _ (completed core insn after back hits) m
passes serve core insn after back hits m _ = refl

failure : (serve : Serve) (core : Core) (fault : Fault) (m : Mem) → Counts core.steps (faulted serve core fault m)
failure serve core fault m = delivery serve (fault_cause core.regs fault) (record core { regs = with_address core.regs fault; latches = record core.latches { hold = 0 } }) m

ending : (o : Outcome After) (serve : Serve) (core : Core) (insn : Insn) (back : ℕ) (r : Regs) (m : Mem) → Counts core.steps (ended o serve core insn back r m)
ending (Passed after) serve core insn back r m = passes serve core insn after back m.hits _ after.next
ending (Failed fault) serve core insn back r m = failure serve (record core { regs = r }) fault (unwatched m)
ending NoStep serve core insn back r m = tt

execution : (serve : Serve) (core : Core) (insn : Insn) (back given free : ℕ) (m : Mem) → Counts core.steps (executed serve core insn back given free m)
execution serve core insn back given free m = let w = attempted serve core insn back given free m in
    ending w.0.outcome serve core insn back w.0.regs w.1

code_counts : {B : Type 0} (rules : Rules B) (serve : Serve) (core : Core) (code : Code) (free : ℕ) (m : Mem) (old new : B) (done : Core) (n : Mem) → Comes rules serve core code free m old (Passed done, n) new → done.steps ≡ core.steps
code_counts rules serve core (Instruction insn count) free m old new done n c = subst (Counts core.steps) c.2 (execution serve core insn (behind core.regs count) c.0 free m)
code_counts rules serve core (Refused fault) free m old new done n c = subst (Counts core.steps) c.1 (failure serve core fault m)

delivers : {B : Type 0} (policy : Policy) (cause : Cause) (core : Core) (m : Machine B) (choice : Choice) (n : Machine B) → Delivers policy cause core m choice n → n.state.core.steps ≡ core.steps
delivers policy cause core m choice n d = subst (Counts core.steps) d.comes (delivery (by_list policy) cause core (with_items m.state.mem choice.served))

module _ {B : Type 0} (rules : Rules B) (policy : Policy) where
  row_counts : (row : Boundary) (m : Machine B) (choice : Choice) (n : Machine B) → Does row rules policy m choice n → n.state.core.steps ≡ m.state.core.steps
  row_counts Idle m choice n d = ap (λ (x : Machine B). x.state.core.steps) d.same
  row_counts Trap m choice n d = delivers policy _ (at_trap m.state.core) m choice n d.0
  row_counts (Break hits) m choice n d = delivers policy _ (at_break m.state.core hits) m choice n d.0
  row_counts NmiRow m choice n d = delivers policy _ (at_nmi m.state.core) m choice n d.0
  row_counts Line m choice n d = delivers policy _ m.state.core m choice n d.delivers
  row_counts Execute m choice n d = code_counts rules (by_list policy) m.state.core d.code choice.flags d.mid m.board n.board n.state.core n.state.mem d.comes

  end_counts : (asks : Bool) (m n : Machine B) → EndsBy asks rules m n → n.state.core.steps ≡ m.state.core.steps + 1
  end_counts true m n e = ap (λ s. s.core.steps) e.1
  end_counts false m n e = ap (λ (x : Machine B). x.state.core.steps) e

  -- a step counts one
  pub step_counts : (m : Machine B) (choice : Choice) (n : Machine B) → Step rules policy m choice n → n.state.core.steps ≡ m.state.core.steps + 1
  step_counts m choice n s = end_counts (rules.asks s.mid.board) s.mid n s.ends ∙ ap (λ (k : ℕ). k + 1) (row_counts (row_of rules m) m choice s.mid s.does)

-- ---- the rest of the events

-- those behind the events that are due rise from the next count
pub rest_rises : (k n : ℕ) (es : List Event) → RisesFrom n es → RisesFrom (k + 1) (drop (due_by k es) es)
rest_rises k n [] h = tt
rest_rises k n (e ∷ es) h = elim (leb_tells e.at k) as (λ _. RisesFrom (k + 1) (drop (due_by k (e ∷ es)) (e ∷ es))) [
  | inl q ↦ rw q.0 (rest_rises k e.at es h.1)
  | inr q ↦ rw (q.0, none_by k e.at es q.1 h.1) (omega (arith, q.1), h.1)
]

-- and are all that come at later counts
pub rest_same : (k n j : ℕ) (es : List Event) → k < j → RisesFrom n es → events_at j (drop (due_by k es) es) ≡ events_at j es
rest_same k n j [] l h = refl
rest_same k n j (e ∷ es) l h = elim (leb_tells e.at k) as (λ _. events_at j (drop (due_by k (e ∷ es)) (e ∷ es)) ≡ events_at j (e ∷ es)) [
  | inl q ↦ rw q.0 (rest_same k e.at j es l h.1 ∙ later q.1)
  | inr q ↦ rw (q.0, none_by k e.at es q.1 h.1) refl
]
  where
    later : e.at ≤ k → events_at j es ≡ events_at j (e ∷ es)
    later p = elim (eqb_tells e.at j) as (λ _. events_at j es ≡ events_at j (e ∷ es)) [
      | inl r ↦ absurd (omega (arith, l, p, r.1))
      | inr r ↦ rw r.0 refl
    ]

-- those that are due by a later count are the ones that were due, and those of the rest that are
pub due_more : (k l n : ℕ) (es : List Event) → k ≤ l → RisesFrom n es → due_by l es ≡ due_by k es + due_by l (drop (due_by k es) es)
due_more k l n [] p h = refl
due_more k l n (e ∷ es) p h = elim (leb_tells e.at k) as (λ _. due_by l (e ∷ es) ≡ due_by k (e ∷ es) + due_by l (drop (due_by k (e ∷ es)) (e ∷ es))) [
  | inl q ↦ rw (q.0, soon q.1) (omega (arith, due_more k l e.at es p h.1))
  | inr q ↦ rw (q.0, none_by k e.at es q.1 h.1) (omega arith)
]
  where
    soon : e.at ≤ k → due_by l (e ∷ es) ≡ suc (due_by l es)
    soon r = elim (leb_tells e.at l) as (λ _. due_by l (e ∷ es) ≡ suc (due_by l es)) [
      | inl s ↦ rw s.0 refl
      | inr s ↦ absurd (omega (arith, p, r, s.1))
    ]

-- ---- steps

-- events count no step
event_counts : (kind : EventKind) (m : Machine BoardState) → (happens kind m).state.core.steps ≡ m.state.core.steps
event_counts (Key byte) m = refl
event_counts (Pulse count) m = refl
event_counts Nmi m = refl
event_counts Reset m = refl

events_count : (events es : List Event) (m : Machine BoardState) → (run.all_applied board_rules on_board events es m).state.core.steps ≡ m.state.core.steps
events_count events [] m = refl
events_count events (e ∷ es) m = events_count events es (happens e.kind m) ∙ event_counts e.kind m

-- from this count on two lists have the same events
abbrev SameFrom : ℕ → List Event → List Event → Type 0
SameFrom k some others = (j : ℕ) → k ≤ j → events_at j some ≡ events_at j others

after_same : (some others : List Event) (m : Machine BoardState) → events_at m.state.core.steps some ≡ events_at m.state.core.steps others → after_events some m ≡ after_events others m
after_same some others m e = applies_same some others (events_at m.state.core.steps some) m ∙ ap (λ es. run.all_applied board_rules on_board others es m) e

steps_same : (some others : List Event) (choices : List Choice) (m n : Machine BoardState) → SameFrom (m.state.core.steps + 1) some others → Steps board_rules on_board some run_policy m choices n → Steps board_rules on_board others run_policy m choices n
steps_same some others [] m n same ran = ran
steps_same some others (choice ∷ choices) m n same ran =
    let mid = ran.0 in
    let count = step_counts board_rules run_policy m choice mid ran.1 in
    let after = after_same some others mid (same mid.state.core.steps (omega (arith, count))) in
    let still = events_count others (events_at mid.state.core.steps others) mid in (
      mid,
      ran.1,
      steps_same some others choices (after_events others mid) n
          (λ j p. same j (omega (arith, p, still, count)))
          (subst (λ x. Steps board_rules on_board some run_policy x choices n) after ran.2),
    )

pub steps_join : (events : List Event) (first second : List Choice) (m mid n : Machine BoardState) → Steps board_rules on_board events run_policy m first mid → Steps board_rules on_board events run_policy mid second n → Steps board_rules on_board events run_policy m (first ++ second) n
steps_join events [] second m mid n one two = subst (λ x. Steps board_rules on_board events run_policy x second n) one two
steps_join events (choice ∷ first) second m mid n one two = (one.0, one.1, steps_join events first second (after_events events one.0) mid n one.2 two)

pub walks_join : (first second : List Choice) (walks : ℕ) → walks_in (first ++ second) walks ≡ walks_in second (walks_in first walks)
walks_join [] second walks = refl
walks_join (choice ∷ first) second walks = walks_join first second _

-- ---- the cut

-- The events behind those that are due.
abbrev pub rest_at : ℕ → List Event → List Event
rest_at k es = drop (due_by k es) es

-- A run with the rest of the events makes the steps of the whole list.
pub ran_on : (events : List Event) (k steps : ℕ) (m n : Machine BoardState) → RisesFrom k events → RanFor (rest_at m.state.core.steps events) steps m n → StepsFor board_rules on_board events run_policy steps m n
ran_on events k steps m n rises ran = record {
  choices = ran.choices;
  count = ran.as_many;
  ran = steps_same rest events ran.choices m n (λ j p. rest_same here k j events (omega (arith, p)) rises)
      (subst (λ x. Steps board_rules on_board rest run_policy x ran.choices n) none ran.run);
  walks = ran.walks;
}
  where
    here : ℕ
    here = m.state.core.steps

    rest : List Event
    rest = rest_at here events

    none : after_events rest m ≡ m
    none = ap (λ es. run.all_applied board_rules on_board rest es m) (later_none here (here + 1) rest (omega arith) (rest_rises here k events rises))

-- A run of some steps, and then a run with the rest of the events, are a run of all the steps.
pub cut : (events : List Event) (k first second : ℕ) (m mid n : Machine BoardState) → RisesFrom k events → RanFor events first m mid → RanFor (rest_at mid.state.core.steps events) second mid n → RanFor events (first + second) m n
unfolding ran_on
cut events k first second m mid n rises one two =
    let on = ran_on events k second mid n rises two in
    record {
      choices = one.choices ++ two.choices;
      as_many = length-append one.choices two.choices ∙ omega (arith, one.as_many, two.as_many);
      run = steps_join events one.choices two.choices (after_events events m) mid n one.run on.ran;
      walks = two.walks ∙ ap (walks_in two.choices) one.walks ∙ sym (walks_join one.choices two.choices m.state.mem.walks);
    }
