-- An instruction that stands alone ends as its answer says.
use Rattle.std.proofs.Common.{◌≡◌, ℕ, Bool, true, false, refl, sym, ap, subst, ◌∙◌}
use Rattle.std.specs.Prelude.{if◌then◌else◌, Result, Ok, Err}
use Rattle.std.specs.Bool.{OnTrue}
use Rattle.std.proofs.lemmas.Bool.{false≢true}
use Rattle.mdl_state.specs.declared.Regs.{Regs}
use Rattle.mdl_state.specs.declared.Fault.{Fault}
use Rattle.mdl_state.specs.declared.Next.{Next}
use Rattle.mdl_state.specs.declared.Activity.TheVariants.{Running}
use Rattle.mdl_state.specs.declared.Next.TheVariants as next
use Rattle.mdl_state.specs.State.{Mem, Core}
use Rattle.mdl_state.specs.Machine.{Rules}
use Rattle.mdl_state.specs.Boot.{clear_latches}
use Rattle.mdl_state.specs.Bytes.{bit}
use Rattle.mdl_state.specs.Accesses.{committed, discarded}
use Rattle.mdl_state.specs.Serving.{Pick, Passed, Failed, by_pick}
use Rattle.mdl_cpu.specs.Switch.{left}
use Rattle.mdl_insn.specs.declared.instruction.Insn.{Insn}
use Rattle.mdl_insn.specs.declared.mnemonics.Op.{Op}
use Rattle.mdl_insn.specs.declared.mnemonics.Op.TheVariants as ops
use Rattle.mdl_effect.specs.Operands.{PortUse}
use Rattle.mdl_step.specs.Step.{landed, resumed, masks, task_trap, passed_by}
use Rattle.cpu_core.specs.Executing.{Passes, Faults}
use Rattle.cpu_core.specs.Plain.{IsSettled, IsStill}
use Rattle.cpu_core.specs.Ran.{marked, ended, Runs}
use Rattle.cpu_core.specs.Ends.{is_usual, ended_by, left_behind, Lands, Came, Ends}
use Rattle.cpu_core.specs.declared.dispatch.Ran.{Ran}
use Rattle.cpu_core.specs.declared.usual.Ended.{Ended}
use Rattle.cpu_core.proofs.Settled.{run_settled}
use Rattle.cpu_core.proofs.Arriving.{landed_settled}
use Rattle.cpu_core.proofs.Turns.{behind_it, passed_usual}

module _ {B : Type 0} (rules : Rules B) (pick : Pick) (insn : Insn) (old : Regs) (back : ℕ) (m : Mem) (before : B) (q : Regs) (n : Mem) (after : B) where
  passes : (next : Next) → Runs rules pick insn old back m before (Ok (record { next = next; alone = true })) q n after → Passes rules pick insn old back m before q next (committed n) after
  passes next runs = record {
    given = runs.given;
    access = runs.access;
    rest = runs.rest;
    placed = committed n;
    passed = runs.ran;
    moves = runs.moves;
    mapped = sym (runs.alone.unmapped q (committed n));
  }

  settled : (next : Next) → IsStill m → Runs rules pick insn old back m before (Ok (record { next = next; alone = true })) q n after → IsSettled q (committed n)
  settled next still runs = run_settled pick insn old back runs.given q.eflags q m n (Ok (record { next = next; alone = true })) (committed n) _ still runs.ran runs.sound runs.tables
      (sym (runs.alone.unmapped q (committed n)))

  passed : (usual : Bool) (next : Next) → is_usual next ≡ usual → IsStill m → Runs rules pick insn old back m before (Ok (record { next = next; alone = true })) q n after
      → Ends rules pick insn old back m before (record { usual = usual; rest = Ok (record { next = next; alone = true }) }) (if usual then resumed insn.op next (landed next q back) else q) (committed n) after
  passed true next is still runs = record {
    came = record { usual = is; mid = q; passes = passes next runs; left = refl; board = runs.alone.board };
    ready = landed_settled insn.op next q back (committed n) (settled next still runs);
  }
  passed false next is still runs = record { came = (passes next runs, runs.alone.board); ready = settled next still runs }

  ends_alone : (answer : Result Next Fault) → IsStill m → Runs rules pick insn old back m before (marked answer true) q n after
      → Ends rules pick insn old back m before (ended_by answer) (left_behind insn.op answer back q) (ended (marked answer true) n) after
  ends_alone (Ok next) still runs = passed (is_usual next) next refl still runs
  ends_alone (Err fault) still runs = record {
    came = (record { given = runs.given; free = q.eflags; failed = runs.ran ∙ ap (λ (r : Regs). left (Failed fault) r (discarded n)) runs.task.0 }, runs.task.1);
    ready = run_settled pick insn old back runs.given q.eflags q m n (Err fault) (discarded n) _ still runs.ran runs.sound runs.tables refl;
  }

  -- an instruction that stands alone has ended
  pub run_ends : (answer : Result Next Fault) (e : Ended) (new : Regs) (k : Mem) → IsStill m → Runs rules pick insn old back m before (marked answer true) q n after
      → e ≡ ended_by answer → new ≡ left_behind insn.op answer back q → k ≡ ended (marked answer true) n → Ends rules pick insn old back m before e new k after
  run_ends answer e new k still runs a b c = subst (λ (x : Ended). Ends rules pick insn old back m before x new k after) (sym a)
      (subst (λ (r : Regs). Ends rules pick insn old back m before (ended_by answer) r k after) (sym b)
      (subst (λ (i : Mem). Ends rules pick insn old back m before (ended_by answer) (left_behind insn.op answer back q) i after) (sym c) (ends_alone answer still runs)))

-- any instruction, which is not taken as usual
module _ {B : Type 0} (rules : Rules B) (pick : Pick) (insn : Insn) (old : Regs) (back : ℕ) (m : Mem) (before : B) (new : Regs) (n : Mem) (after : B) where
  pub any_ends : (rest : Result Ran Fault) (e : Ended) → e ≡ record { usual = false; rest = rest } → Came false rest rules pick insn old back m before new n after → IsSettled new n → Ends rules pick insn old back m before e new n after
  any_ends rest e is came ready = subst (λ (x : Ended). Ends rules pick insn old back m before x new n after) (sym is) (record { came = came; ready = ready })

  landing : (usual : Bool) (rest : Result Ran Fault) → usual ≡ true → Came usual rest rules pick insn old back m before new n after → (next : Next) × Lands rules pick insn old back m before next new n after
  landing true (Ok ran) is came = (ran.next, came)
  landing true (Err fault) is came = absurd came
  landing false rest is came = absurd (false≢true is)

  going : (usual : Bool) (rest : Result Ran Fault) (ran : Ran) → usual ≡ false → rest ≡ Ok ran → Came usual rest rules pick insn old back m before new n after → Came false (Ok ran) rules pick insn old back m before new n after
  going usual rest ran is there came = subst (λ (x : Result Ran Fault). Came false x rules pick insn old back m before new n after) there (subst (λ (b : Bool). Came b rest rules pick insn old back m before new n after) is came)

  failed : (usual : Bool) (rest : Result Ran Fault) (fault : Fault) → usual ≡ false → rest ≡ Err fault → Came usual rest rules pick insn old back m before new n after → Came false (Err fault) rules pick insn old back m before new n after
  failed usual rest fault is there came = subst (λ (x : Result Ran Fault). Came false x rules pick insn old back m before new n after) there (subst (λ (b : Bool). Came b rest rules pick insn old back m before new n after) is came)

  -- what an instruction came to that was usual, that passed otherwise, or that failed
  pub lands_of : (e : Ended) → e.usual ≡ true → Ends rules pick insn old back m before e new n after → (next : Next) × Lands rules pick insn old back m before next new n after
  lands_of e is ends = landing e.usual e.rest is ends.came

  pub passes_of : (e : Ended) (ran : Ran) → e.usual ≡ false → e.rest ≡ Ok ran → Ends rules pick insn old back m before e new n after → Passes rules pick insn old back m before new ran.next n after × OnTrue ran.alone (after ≡ before)
  passes_of e ran is there ends = going e.usual e.rest ran is there ends.came

  pub faults_of : (e : Ended) (fault : Fault) → e.usual ≡ false → e.rest ≡ Err fault → Ends rules pick insn old back m before e new n after → Faults pick insn old back m fault new n × (after ≡ before)
  faults_of e fault is there ends = failed e.usual e.rest fault is there ends.came

-- ---- a calm processor stays so behind a usual instruction

unmasked : (op : Op) → masks op false ≡ false
unmasked ops.Iret = refl
unmasked _ = refl

calm_by : (core : Core) (op : Op) (after : Next) (back : ℕ) → is_usual after ≡ true → core.activity ≡ Running → core.latches ≡ clear_latches
    → record core { regs = resumed op after (landed after core.regs back) } ≡ behind_it core op after back core.latches.pending
calm_by core op next.Follow back u runs clear = rw runs (rw clear (rw (unmasked op) refl))
calm_by core op next.Landed back u runs clear = rw runs (rw clear (rw (unmasked op) refl))
calm_by core op next.Again back u runs clear = rw runs (rw clear (rw (unmasked op) refl))
calm_by core op _ back u runs clear = absurd (false≢true u)

not_soft : (after : Next) (vector : ℕ) → is_usual after ≡ true → after ≡ next.Soft vector → ⊥
not_soft after vector u e = absurd (false≢true (ap is_usual (sym e) ∙ u))

untrapped : (after : Next) → is_usual after ≡ true → task_trap after ≡ 0
untrapped next.Follow u = refl
untrapped next.Landed u = refl
untrapped next.Again u = refl
untrapped _ u = absurd (false≢true u)

-- it passes with nothing but its registers changed
pub usual_passed : (pick : Pick) (core : Core) (insn : Insn) (old mid new : Regs) (after : Next) (back : ℕ) (access : PortUse) (m n : Mem) → is_usual after ≡ true → core.activity ≡ Running → core.latches ≡ clear_latches
    → bit old.eflags 8 ≡ false → new ≡ resumed insn.op after (landed after mid back) → n ≡ m
    → passed_by after (by_pick pick) (record core { regs = old }) insn (record { regs = mid; next = after; access = access }) back 0 m ≡ (Passed (record core { regs = new }), n)
usual_passed pick core insn old mid new after back access m n u runs clear e left same =
    let there : Core = record core { regs = mid } in
    passed_usual pick there (record core { regs = new }) insn insn.op old after back access m refl n
    (ap (λ (r : Regs). record core { regs = r }) left ∙ calm_by there insn.op after back u runs clear) same (λ vector. not_soft after vector u) e (untrapped after u)
