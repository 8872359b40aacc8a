-- What an instruction and a delivery leave of memory, and that it stays ready.
use Rattle.std.proofs.Common.{◌≡◌, ℕ, ◌==◌, Bool, true, false, List, [], refl, sym, ap, subst, ◌∙◌}
use Rattle.std.specs.Prelude.{if◌then◌else◌, Result, Ok, Err}
use Rattle.std.specs.FinMap.{empty}
use Rattle.mdl_state.specs.declared.Regs.{Regs}
use Rattle.mdl_state.specs.declared.Fault.{Fault}
use Rattle.mdl_state.specs.declared.Watch.{Watch}
use Rattle.mdl_state.specs.Watches.{watching, unwatched}
use Rattle.mdl_state.specs.State.{Mem}
use Rattle.mdl_state.specs.Accesses.{Keeps, all_placed, committed, discarded}
use Rattle.mdl_state.specs.Serving.{Pick, Outcome, Passed, Failed, NoStep, by_pick}
use Rattle.mdl_state.specs.Attempt.{finished, tried}
use Rattle.mdl_cpu.specs.declared.Outcome as way
use Rattle.mdl_cpu.specs.declared.Outcome.TheVariants as outcome
use Rattle.mdl_cpu.specs.declared.Switched.{Switched}
use Rattle.mdl_cpu.specs.declared.Switched.TheVariants as switched
use Rattle.mdl_cpu.specs.Deliveries.{KeepsWatch}
use Rattle.mdl_cpu.specs.Steady.{Agree, IsSound, has_paging}
use Rattle.mdl_cpu.specs.Switch.{Left, switch}
use Rattle.mdl_cpu.proofs.ServingLaws.{tried_keeps, then_kept}
use Rattle.mdl_cpu.proofs.KeptLaws.{switch_keeps}
use Rattle.mdl_insn.specs.declared.instruction.Insn.{Insn}
use Rattle.mdl_insn.specs.declared.instruction.Operand.{Operand}
use Rattle.mdl_insn.specs.declared.instruction.Operand.TheVariants.{Creg}
use Rattle.mdl_insn.specs.declared.mnemonics.Op.{Op}
use Rattle.mdl_insn.specs.declared.mnemonics.Op.TheVariants as ops
use Rattle.mdl_effect.specs.Operands.{After}
use Rattle.mdl_effect.specs.FarEffects.{FarTransfer, runs_far, far_transfer, far_request, far_run, behind_transfer, by_outcome, in_either_task}
use Rattle.mdl_effect.specs.Ways.{PagesBy, PagesAs}
use Rattle.mdl_step.specs.Effects.{effect, run_whole, in_own_task}
use Rattle.mdl_step.specs.Fetching.{Code, Fetches}
use Rattle.mdl_step.specs.Step.{with_control, remapped}
use Rattle.mdl_step.proofs.BareLaws.{fetches_bare}
use Rattle.cpu_core.specs.Plain.{IsQuiet, IsReady, IsSettled, IsStill}
use Rattle.cpu_core.specs.Ran.{ended, settled}
use Rattle.cpu_core.specs.declared.dispatch.Ran.{Ran}

-- ---- what stands beside the contents of memory

finished_keeps : {A : Type 0} (m : Mem) (w : Outcome A × Mem) → KeepsWatch m w.1 → KeepsWatch m (finished w).1
unfolding committed discarded
finished_keeps m (Passed x, n) h = record { served = h.served; watch = h.watch; hits = h.hits }
finished_keeps m (Failed fault, n) h = record { served = h.served; watch = h.watch; hits = h.hits }
finished_keeps m (NoStep, n) h = h

either_keeps : (o : Outcome Switched) (r : Regs) (m n : Mem) → KeepsWatch m n → KeepsWatch m (in_either_task o r n).1
either_keeps (Passed (switched.Done trap)) r m n h = h
either_keeps (Passed (switched.OldFault fault)) r m n h = h
either_keeps (Passed (switched.NewFault fault)) r m n h = h
either_keeps (Failed fault) r m n h = h
either_keeps NoStep r m n h = h

module _ (pick : Pick) (insn : Insn) (r : Regs) (back : ℕ) where
  outcome_keeps : (o : way.Outcome) (f : FarTransfer) (m : Mem) → KeepsWatch m (by_outcome o (by_pick pick) insn.op f back m).1
  outcome_keeps outcome.Done f m = record { served = refl; watch = refl; hits = λ _. refl }
  outcome_keeps (outcome.Switch task) f m = let w = switch (by_pick pick) f.transfer.regs (far_request insn.op task f.direct back) m in
      either_keeps w.0.outcome w.0.regs m w.1 (switch_keeps pick f.transfer.regs (far_request insn.op task f.direct back) m)

  transfer_keeps : (m : Mem) (w : Outcome FarTransfer × Mem) → KeepsWatch m w.1 → KeepsWatch m (behind_transfer (by_pick pick) insn.op r back w).1
  transfer_keeps m (Passed f, n) h = then_kept h (outcome_keeps f.transfer.outcome f n)
  transfer_keeps m (Failed fault, n) h = h
  transfer_keeps m (NoStep, n) h = h

  far_keeps : (m : Mem) → KeepsWatch m (far_run (by_pick pick) insn r back m).1
  unfolding far_run
  far_keeps m = transfer_keeps m _ (finished_keeps m (tried (by_pick pick) 0 (far_transfer insn r back) m) (tried_keeps pick 0 (far_transfer insn r back) m))

  inside_keeps : (given free : ℕ) (m : Mem) → KeepsWatch m (in_own_task r (finished (tried (by_pick pick) given (effect insn r back free) m))).1
  inside_keeps given free m = finished_keeps m (tried (by_pick pick) given (effect insn r back free) m) (tried_keeps pick given (effect insn r back free) m)

  -- an instruction leaves it
  whole_keeps : (given free : ℕ) (m : Mem) → KeepsWatch m (run_whole (by_pick pick) insn r back given free m).1
  whole_keeps given free m = by_family (runs_far insn)
    where
      by_family : (far : Bool) → KeepsWatch m (if far then far_run (by_pick pick) insn r back m else in_own_task r (finished (tried (by_pick pick) given (effect insn r back free) m))).1
      by_family true = far_keeps m
      by_family false = inside_keeps given free m

pub still_quiet : (m n : Mem) → IsQuiet m → KeepsWatch m n → n.held ≡ [] → IsQuiet n
still_quiet m n quiet keeps none = record {
  held = none;
  served = keeps.served ∙ quiet.served;
  watch = keeps.watch ∙ quiet.watch;
  hits = keeps.hits quiet.watch ∙ quiet.hits;
}

-- nothing is held behind its end
ended_holds : (result : Result Ran Fault) (n : Mem) → (ended result n).held ≡ []
unfolding committed discarded
ended_holds (Ok ran) n = refl
ended_holds (Err fault) n = refl

-- so memory is still where an instruction has ended
pub run_still : (pick : Pick) (insn : Insn) (old : Regs) (back given free : ℕ) (m n : Mem) (result : Result Ran Fault) (l : Left After) → IsStill m
    → run_whole (by_pick pick) insn old back given free m ≡ (l, ended result n) → IsStill (ended result n)
run_still pick insn old back given free m n result l still e =
    let keeps : KeepsWatch m (ended result n) = subst (λ (v : Left After × Mem). KeepsWatch m v.1) e (whole_keeps pick insn old back given free m) in
    record { held = ended_holds result n; served = keeps.served ∙ still.served }

-- what holds nothing ends as it is
pub placed_none : (m : Mem) → m.held ≡ [] → committed m ≡ m
unfolding committed
placed_none m none = ap (λ h. record m { physical = all_placed m.physical h; held = [] }) none ∙ ap (λ h. record m { held = h }) (sym none)

pub dropped_none : (m : Mem) → m.held ≡ [] → discarded m ≡ m
unfolding discarded
dropped_none m none = ap (λ h. record m { held = h }) (sym none)

-- ---- paging

control_still : (number : ℕ) (r : Regs) (m : Mem) → IsStill m → IsStill (with_control number r m)
control_still number r m still = by_number (number == 0) (number == 3)
  where
    by_number : (a b : Bool) → IsStill (if a then record m { paging = has_paging r } else if b then record m { cr3 = r.cr3; cache = empty } else m)
    by_number true b = record { held = still.held; served = still.served }
    by_number false true = record { held = still.held; served = still.served }
    by_number false false = still

remapped_still : (op : Op) (a : Operand) (r : Regs) (m : Mem) → IsStill m → IsStill (remapped op a r m)
remapped_still ops.Mov (Creg number) r m still = control_still number r m still
remapped_still _ _ r m still = still

control_agrees : (number : ℕ) (old new : Regs) (m : Mem) → PagesBy (number == 0) (number == 3) old new → Agree old m → Agree new (with_control number new m)
control_agrees number old new m h agrees = by_number (number == 0) (number == 3) h
  where
    by_number : (a b : Bool) → PagesBy a b old new → Agree new (if a then record m { paging = has_paging new } else if b then record m { cr3 = new.cr3; cache = empty } else m)
    by_number true b h = record { paging = refl; cr3 = agrees.cr3 ∙ sym h }
    by_number false true h = record { paging = agrees.paging ∙ sym h; cr3 = refl }
    by_number false false h = record { paging = agrees.paging ∙ sym h.0; cr3 = agrees.cr3 ∙ sym h.1 }

-- memory pages as the registers say that a MOV to a control register leaves
pub remapped_agrees : (op : Op) (a : Operand) (old new : Regs) (m : Mem) → PagesAs op a old new → Agree old m → Agree new (remapped op a new m)
remapped_agrees ops.Mov (Creg number) old new m h agrees = control_agrees number old new m h agrees
remapped_agrees _ _ old new m h agrees = record { paging = agrees.paging ∙ sym h.0; cr3 = agrees.cr3 ∙ sym h.1 }

-- what leaves both leaves them so
pub agrees_on : (r : Regs) (m n : Mem) → Keeps m n → Agree r m → Agree r n
agrees_on r m n keeps agrees = record { paging = keeps.paging ∙ agrees.paging; cr3 = keeps.cr3 ∙ agrees.cr3 }

pub agrees_placed : (r : Regs) (n : Mem) → Agree r n → Agree r (committed n)
unfolding committed
agrees_placed r n agrees = record { paging = agrees.paging; cr3 = agrees.cr3 }

pub agrees_dropped : (r : Regs) (n : Mem) → Agree r n → Agree r (discarded n)
unfolding discarded
agrees_dropped r n agrees = record { paging = agrees.paging; cr3 = agrees.cr3 }

-- ---- behind an instruction

settled_still : (result : Result Ran Fault) (insn : Insn) (r : Regs) (n : Mem) → IsStill (ended result n) → IsStill (settled result insn r n)
settled_still (Ok ran) insn r n still = remapped_still insn.op insn.a r (committed n) still
settled_still (Err fault) insn r n still = still

pub run_settled : (pick : Pick) (insn : Insn) (old : Regs) (back given free : ℕ) (new : Regs) (m n : Mem) (result : Result Ran Fault) (k : Mem) (l : Left After) → IsStill m
    → run_whole (by_pick pick) insn old back given free m ≡ (l, ended result n) → IsSound new → Agree new (settled result insn new n) → k ≡ settled result insn new n → IsSettled new k
run_settled pick insn old back given free new m n result k l still e sound tables same = subst (λ (i : Mem). IsSettled new i) (sym same)
    (record { sound = sound; tables = tables; still = settled_still result insn new n (run_still pick insn old back given free m n result l still e) })

-- ---- beside breakpoints

-- where none is looked for, memory is as it is without them
pub bare_is : (m : Mem) (ws : List Watch) (hits : ℕ) → ws ≡ [] → hits ≡ 0 → unwatched m ≡ watching m ws hits
bare_is m ws hits none zero = sym (ap (λ (vs : List Watch). watching m vs hits) none ∙ ap (λ (h : ℕ). watching m [] h) zero)

-- and is ready behind an instruction
pub settled_ready : (r : Regs) (m : Mem) (ws : List Watch) (hits : ℕ) → IsSettled r m → ws ≡ [] → hits ≡ 0 → IsReady r (watching m ws hits)
settled_ready r m ws hits settled none zero = record {
  sound = settled.sound;
  tables = record { paging = settled.tables.paging; cr3 = settled.tables.cr3 };
  quiet = record { held = settled.still.held; served = settled.still.served; watch = none; hits = zero };
}

-- what was ready is so behind a fetch
pub fetched_ready : (r : Regs) (m n : Mem) (ws : List Watch) (hits : ℕ) → IsReady r (watching m ws hits) → Keeps m n → n.held ≡ m.held → n.served ≡ m.served → IsReady r (watching n ws hits)
fetched_ready r m n ws hits ready keeps held served = record {
  sound = ready.sound;
  tables = record { paging = keeps.paging ∙ ready.tables.paging; cr3 = keeps.cr3 ∙ ready.tables.cr3 };
  quiet = record { held = held ∙ ready.quiet.held; served = served ∙ ready.quiet.served; watch = ready.quiet.watch; hits = ready.quiet.hits };
}

-- and settled, whatever breakpoints are looked for
pub ready_settled : (r : Regs) (m : Mem) (ws vs : List Watch) (hits more : ℕ) → IsReady r (watching m ws hits) → IsSettled r (watching m vs more)
ready_settled r m ws vs hits more ready = record {
  sound = ready.sound;
  tables = record { paging = ready.tables.paging; cr3 = ready.tables.cr3 };
  still = record { held = ready.quiet.held; served = ready.quiet.served };
}

pub fetches_beside : (pick : Pick) (r : Regs) (m n : Mem) (ws : List Watch) (hits : ℕ) (code : Code) → ws ≡ [] → hits ≡ 0 → Fetches (by_pick pick) r m code n → Fetches (by_pick pick) r (watching m ws hits) code (watching n ws hits)
fetches_beside pick r m n ws hits code none zero h = subst (λ (k : Mem). Fetches (by_pick pick) r k code (watching n ws hits)) (bare_is m ws hits none zero)
    (subst (λ (k : Mem). Fetches (by_pick pick) r (unwatched m) code k) (bare_is n ws hits none zero) (fetches_bare pick r m n code h))
