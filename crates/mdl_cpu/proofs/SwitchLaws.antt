-- The faults of a task switch, and why four deliveries are enough in every mode.
use Rattle.std.proofs.Common.{◌≡◌, ◌<◌, ℕ, zero, suc, ◌+◌, Bool, true, false, refl, sym, [], ◌∷◌, Option, arith, ◌∙◌}
use Rattle.std.specs.Prelude.{⊤, List, ◌++◌, if◌then◌else◌, nat_lt, ◌%◌, ◌^◌, slice_set}
use Rattle.mdl_state.specs.declared.Size.{Size}
use Rattle.mdl_state.specs.declared.Size.TheVariants.{B2, B4}
use Rattle.mdl_state.specs.declared.Seg.{Seg}
use Rattle.mdl_state.specs.declared.Seg.TheVariants.{Es, Cs, Ss, Ds, Fs, Gs}
use Rattle.mdl_state.specs.declared.Regs.{Regs}
use Rattle.mdl_state.specs.declared.Fault.{Fault}
use Rattle.mdl_state.specs.State.{Mem}
use Rattle.mdl_state.specs.Registers.{seg_of}
use Rattle.mdl_state.specs.Serving.{Serve, Outcome, Passed, Failed, NoStep}
use Rattle.mdl_state.specs.Attempt.{tried, finished}
use Rattle.mdl_cpu.specs.declared.Cause.{Cause}
use Rattle.mdl_cpu.specs.declared.Desc.{Desc}
use Rattle.mdl_cpu.specs.declared.Reason.{Reason}
use Rattle.mdl_cpu.specs.declared.Reason.TheVariants.{Jump, Call, Interrupt, Return}
use Rattle.mdl_cpu.specs.declared.Request.{Request}
use Rattle.mdl_cpu.specs.declared.Task.{Task}
use Rattle.mdl_cpu.specs.Faults.{row, fault_at, general_protection}
use Rattle.mdl_cpu.specs.Descriptors.{is_null, in_ldt, mark_plan}
use Rattle.mdl_cpu.specs.Loads.{data_rows, data_plan}
use Rattle.mdl_cpu.specs.declared.Outcome as way
use Rattle.mdl_cpu.specs.declared.Outcome.TheVariants as outcome
use Rattle.mdl_cpu.specs.declared.Switched.{Switched}
use Rattle.mdl_cpu.specs.declared.Switched.TheVariants as switched
use Rattle.mdl_cpu.specs.Segments.{has_protection}
use Rattle.mdl_cpu.specs.DoubleFault.{class_of_fault, class_of, combine}
use Rattle.mdl_cpu.specs.Transfers.{Transfer}
use Rattle.mdl_cpu.specs.Gates.{gate_plan, gate_way_plan, with_ext}
use Rattle.mdl_cpu.specs.Delivery.{Arrival, followed_by}
use Rattle.mdl_cpu.specs.Deliveries.{IsSerious, Serious, IfFailed, RaisesPageFaults}
use Rattle.mdl_cpu.specs.Switch.{Left, passing, staged, told, new_part, behind_old, switch}
use Rattle.mdl_cpu.specs.TaskDeliveries.{task_request, entered, by_way, behind_gate, delivered_by_gate, settled, behind_delivery, deliveries_by_gate, deliver_by_gate}
use Rattle.mdl_cpu.proofs.ServingLaws.{tried_serious}
use Rattle.mdl_cpu.proofs.DeliveryLaws.{extended_serious, rank_of, followed_same, combine_falls, more_below}
use Rattle.mdl_cpu.specs.Tasks.{no_image, reads_plan, writes_plan, read_image_plan, save_image_plan, free_plan, busy_bits_plan, is_linked, link_plan}
use Rattle.mdl_cpu.specs.TaskSegments.{is_wide_tss, has_wide_tss}
use Rattle.mdl_cpu.specs.OldTask.{wrong_task, selector_rows, task_rows, old_plan}
use Rattle.mdl_cpu.specs.NewTask.{Stage, begun, by_directory, is_virtual_image, new_ldt_rows, ldt_stage, virtual_stage, new_code_rows, code_stage, stack_stage, data_stage, limit_stage, code_word_stage, segment_stages, new_stages}
use Rattle.mdl_cpu.proofs.GateLaws.{Ways, passes, then_way, gate_ends}
use Rattle.mdl_cpu.proofs.WayLaws.{Any, rows_way, either_way, descriptor_any, known_any, stack_any, code_any, protected_way}

-- ---- the old part

reads_any : (count at : ℕ) (size : Size) (step place : ℕ) (image : List ℕ) → Ways Any (reads_plan count at size step place image)
unfolding reads_plan
reads_any zero at size step place image = passes tt
reads_any (suc count) at size step place image = record { ends = λ value. (reads_any count ((at + step) % 2 ^ 32) size step (place + 1) (slice_set image place value)).ends }

writes_any : (count at : ℕ) (size : Size) (step place : ℕ) (image : List ℕ) → Ways Any (writes_plan count at size step place image)
unfolding writes_plan
writes_any zero at size step place image = passes tt
writes_any (suc count) at size step place image = record { ends = (writes_any count ((at + step) % 2 ^ 32) size step (place + 1) image).ends }

image_any : (wide : Bool) (base : ℕ) → Ways Any (read_image_plan wide base)
unfolding read_image_plan
image_any true base = then_way (reads_any 11 _ B4 4 0 no_image) (λ image _. reads_any 8 _ B2 4 11 image)
image_any false base = then_way (reads_any 14 _ B2 2 1 no_image) (λ image _. reads_any 1 _ B2 2 17 image)

save_any : (wide : Bool) (base : ℕ) (image : List ℕ) → Ways Any (save_image_plan wide base image)
unfolding save_image_plan
save_any true base image = then_way (writes_any 10 _ B4 4 1 image) (λ _ _. writes_any 6 _ B2 4 11 image)
save_any false base image = writes_any 14 _ B2 2 1 image

free_any : (r : Regs) → Ways Any (free_plan r)
unfolding free_plan
free_any r = record { ends = λ place byte. tt }

mark_any : (d : Desc) (n : ℕ) → Ways Any (mark_plan d n)
unfolding mark_plan
mark_any d n = record { ends = λ place byte. tt }

busy_any : (r : Regs) (reason : Reason) (d : Desc) → Ways Any (busy_bits_plan r reason d)
unfolding busy_bits_plan
busy_any r Jump d = then_way (free_any r) (λ _ _. mark_any d 1)
busy_any r Call d = mark_any d 1
busy_any r Interrupt d = mark_any d 1
busy_any r Return d = free_any r

link_any : (r : Regs) (reason : Reason) (d : Desc) → Ways Any (link_plan r reason d)
unfolding link_plan
link_any r reason d = either_way (is_linked reason) _ _ (record { ends = tt }) (passes tt)

wrong_serious : (reason : Reason) → IsSerious (class_of_fault (wrong_task reason))
wrong_serious Jump = tt
wrong_serious Call = tt
wrong_serious Interrupt = tt
wrong_serious Return = tt

pub old_any : (r : Regs) (q : Request) → Ways Any (old_plan r q)
unfolding old_plan
old_any r q = let wrong = wrong_serious q.reason in
    rows_way (selector_rows q) _ (wrong, (wrong, tt)) (then_way (descriptor_any r q.selector (wrong_task q.reason) wrong) (λ d _.
    rows_way (task_rows r q d) _ (wrong, (tt, (tt, (tt, (tt, tt))))) (then_way (image_any (is_wide_tss d) d.base) (λ image _.
    then_way (save_any (has_wide_tss r) r.tr.base _) (λ _ _. then_way (busy_any r q.reason d) (λ _ _. then_way (link_any r q.reason d) (λ _ _. passes tt)))))))

-- ---- the new part

abbrev AllWays : List Stage → Type 0
AllWays [] = ⊤
AllWays (stage ∷ stages) = ((r : Regs) → Ways Any (stage r)) × AllWays stages

ldt_any : (sel : ℕ) (r : Regs) → Ways Any (ldt_stage sel r)
unfolding ldt_stage
ldt_any sel r = either_way (is_null sel) _ _ (passes tt) (rows_way (row (in_ldt sel) (fault_at 10 sel) ∷ []) _ (tt, tt) (then_way (descriptor_any r sel 10 tt) (λ d _.
    rows_way (new_ldt_rows sel d) _ (tt, (tt, tt)) (passes tt))))

virtual_any : (image : List ℕ) (r : Regs) → Ways Any (virtual_stage image r)
unfolding virtual_stage
virtual_any image r = passes tt

new_code_any : (sel : ℕ) (r : Regs) → Ways Any (code_stage sel r)
unfolding code_stage
new_code_any sel r = rows_way (row (is_null sel) (fault_at 10 sel) ∷ []) _ (tt, tt) (then_way (descriptor_any r sel 10 tt) (λ d _.
    rows_way (new_code_rows sel d) _ (tt, (tt, (tt, (tt, tt)))) (known_any r Cs sel d)))

new_stack_any : (sel : ℕ) (r : Regs) → Ways Any (stack_stage sel r)
unfolding stack_stage
new_stack_any sel r = then_way (stack_any r.cpl r sel) (λ d _. known_any r Ss sel d)

data_any : (seg : Seg) (sel : ℕ) (r : Regs) → Ways Any (data_stage seg sel r)
unfolding data_plan
data_any seg sel r = either_way (is_null sel) _ _ (passes tt) (then_way (descriptor_any r sel 10 tt) (λ d _.
    rows_way (data_rows 10 r.cpl sel d) _ (tt, (tt, (tt, tt))) (known_any r seg sel d)))

limit_any : (r : Regs) → Ways Any (limit_stage r)
unfolding limit_stage
limit_any r = rows_way (row (nat_lt (seg_of r Cs).limit r.eip) (general_protection 0) ∷ []) _ (tt, tt) (passes tt)

word_any : (wide : Bool) (code : Option ℕ) (r : Regs) → Ways Any (code_word_stage wide code r)
unfolding code_word_stage
word_any wide code r = code_any r _ code

segments_all : (image : List ℕ) (rest : List Stage) → AllWays rest → AllWays (segment_stages image ++ rest)
segments_all image rest h =
    ((λ r. new_code_any _ r), ((λ r. new_stack_any _ r), ((λ r. data_any Es _ r), ((λ r. data_any Ds _ r), ((λ r. data_any Fs _ r), ((λ r. data_any Gs _ r), h))))))

either_all : (b : Bool) (xs ys rest : List Stage) → AllWays (xs ++ rest) → AllWays (ys ++ rest) → AllWays ((if b then xs else ys) ++ rest)
either_all true xs ys rest h k = h
either_all false xs ys rest h k = k

ending_all : (wide : Bool) (code : Option ℕ) → AllWays (limit_stage ∷ code_word_stage wide code ∷ [])
ending_all wide code = ((λ r. limit_any r), ((λ r. word_any wide code r), tt))

stages_all : (q : Request) (t : Task) → AllWays (new_stages q t)
stages_all q t = (
  (λ r. ldt_any _ r),
  either_all (is_virtual_image t.image) (virtual_stage t.image ∷ []) (segment_stages t.image) (limit_stage ∷ code_word_stage (is_wide_tss t.desc) q.code ∷ [])
      ((λ r. virtual_any t.image r), ending_all (is_wide_tss t.desc) q.code) (segments_all t.image (limit_stage ∷ code_word_stage (is_wide_tss t.desc) q.code ∷ []) (ending_all (is_wide_tss t.desc) q.code)),
)

-- ---- the switch

-- a switch that faults does so with a fault that is not benign
abbrev SeriousSwitch : Outcome Switched → Type 0
SeriousSwitch (Passed (switched.Done trap)) = ⊤
SeriousSwitch (Passed (switched.OldFault fault)) = Serious fault
SeriousSwitch (Passed (switched.NewFault fault)) = Serious fault
SeriousSwitch (Failed fault) = Serious fault
SeriousSwitch NoStep = ⊤

passing_serious : (w : Outcome Regs × Mem) (r : Regs) (k : Regs → Mem → Left (Unit {0}) × Mem) → IfFailed Serious w.0
    → ((s : Regs) (n : Mem) → IfFailed Serious (k s n).0.outcome) → IfFailed Serious (passing w r k).0.outcome
passing_serious (Passed s, n) r k p h = h s n
passing_serious (Failed fault, n) r k p h = p
passing_serious (NoStep, n) r k p h = tt

told_serious : (q : Request) (t : Task) (o : Outcome (Unit {0})) (r : Regs) (m : Mem) → IfFailed Serious o → SeriousSwitch (told q t o r m).0.outcome
told_serious q t (Passed _) r m h = tt
told_serious q t (Failed fault) r m h = extended_serious q.ext fault h
told_serious q t NoStep r m h = tt

old_serious : (r : Regs) (q : Request) (w : Outcome Task × Mem) (k : Task → Mem → Left Switched × Mem) → IfFailed Serious w.0
    → ((t : Task) (n : Mem) → SeriousSwitch (k t n).0.outcome) → SeriousSwitch (behind_old r q (finished w) k).0.outcome
old_serious r q (Passed t, n) k p h = h t _
old_serious r q (Failed fault, n) k p h = extended_serious q.ext fault p
old_serious r q (NoStep, n) k p h = tt

entered_serious : (o : Outcome Switched) (r : Regs) (m : Mem) → SeriousSwitch o → IfFailed Serious (entered o r m).0.outcome
entered_serious (Passed (switched.Done trap)) r m h = tt
entered_serious (Passed (switched.OldFault fault)) r m h = h
entered_serious (Passed (switched.NewFault fault)) r m h = h
entered_serious (Failed fault) r m h = h
entered_serious NoStep r m h = tt

gate_way_any : (cause : Cause) (r : Regs) → Ways Any (gate_way_plan cause r)
unfolding gate_way_plan gate_plan
gate_way_any cause r = either_way (has_protection r) _ _ (protected_way cause r) (then_way (record { ends = gate_ends cause r }) (λ q _. passes tt))

module _ (serve : Serve) (raises : RaisesPageFaults serve) where
  staged_serious : (stages : List Stage) → AllWays stages → (r : Regs) (m : Mem) → IfFailed Serious (staged serve stages r m).0.outcome
  staged_serious [] h r m = tt
  staged_serious (stage ∷ stages) h r m = passing_serious (tried serve 0 (stage r) m) r _ (tried_serious serve raises Any 0 (stage r) m (h.0 r).ends)
      (λ s n. staged_serious stages h.1 s n)

  new_serious : (r : Regs) (q : Request) (t : Task) (m : Mem) → SeriousSwitch (new_part serve r q t m).0.outcome
  unfolding new_part
  new_serious r q t m = told_serious q t (staged serve (new_stages q t) (begun r q t) (by_directory (begun r q t).cr3 m)).0.outcome _ _ (staged_serious (new_stages q t) (stages_all q t) (begun r q t) (by_directory (begun r q t).cr3 m))

  switch_serious : (r : Regs) (q : Request) (m : Mem) → SeriousSwitch (switch serve r q m).0.outcome
  unfolding switch
  switch_serious r q m = old_serious r q (tried serve 0 (old_plan r q) m) _ (tried_serious serve raises Any 0 (old_plan r q) m (old_any r q).ends) (λ t n. new_serious r q t n)

  way_serious : (o : way.Outcome) (cause : Cause) (r : Regs) (m : Mem) → IfFailed Serious (by_way o serve cause r m).0.outcome
  way_serious outcome.Done cause r m = tt
  way_serious (outcome.Switch sel) cause r m = entered_serious (switch serve r (task_request cause r sel) m).0.outcome _ _ (switch_serious r (task_request cause r sel) m)

  gate_serious : (cause : Cause) (r : Regs) (w : Outcome Transfer × Mem) → IfFailed Serious w.0
      → IfFailed Serious (behind_gate serve cause r (finished (with_ext cause.ext w))).0.outcome
  gate_serious cause r (Passed t, n) h = way_serious t.outcome cause t.regs _
  gate_serious cause r (Failed fault, n) h = extended_serious cause.ext fault h
  gate_serious cause r (NoStep, n) h = tt

  -- each fault that a delivery raises is a serious one, whichever the mode and the task
  pub by_gate_serious : (cause : Cause) (r : Regs) (m : Mem) → IfFailed Serious (delivered_by_gate serve cause r m).0.outcome
  unfolding delivered_by_gate
  by_gate_serious cause r m = gate_serious cause r (tried serve 0 (gate_way_plan cause r) m)
      (tried_serious serve raises Any 0 (gate_way_plan cause r) m (gate_way_any cause r).ends)

  -- ---- four deliveries are enough

  settled_same : (o : Outcome Bool) (r : Regs) (m : Mem) (x y : Fault → Regs → Mem → Outcome Arrival × Mem) → IfFailed Serious o
      → ((fault : Fault) → Serious fault → x fault r m ≡ y fault r m) → settled o r m x ≡ settled o r m y
  settled_same (Passed trap) r m x y h e = refl
  settled_same (Failed fault) r m x y h e = e fault h
  settled_same NoStep r m x y h e = refl

  one_more : (n : ℕ) (cause : Cause) (r : Regs) (m : Mem) → rank_of (class_of cause) < n → deliveries_by_gate (suc n) serve cause r m ≡ deliveries_by_gate n serve cause r m
  unfolding deliveries_by_gate
  one_more zero cause r m h = absurd (omega (arith, h))
  one_more (suc n) cause r m h = settled_same (delivered_by_gate serve cause r m).0.outcome _ _ _ _ (by_gate_serious cause r m) (λ fault s.
      followed_same n (rank_of (class_of cause)) (combine cause fault) _ _ (deliveries_by_gate (suc n) serve) (deliveries_by_gate n serve)
      (combine_falls cause fault s) (omega (arith, h)) (λ c q j l. one_more n c q j l))

  -- NO FIFTH: with more deliveries allowed than four none more is made, in every mode.
  pub no_fifth_by_gate : (n : ℕ) (cause : Cause) (r : Regs) (m : Mem) → deliveries_by_gate (4 + n) serve cause r m ≡ deliver_by_gate serve cause r m
  unfolding deliver_by_gate
  no_fifth_by_gate zero cause r m = refl
  no_fifth_by_gate (suc n) cause r m = let e : 4 + suc n ≡ suc (4 + n) = omega arith in
      rw e (one_more (4 + n) cause r m (more_below (class_of cause) n) ∙ no_fifth_by_gate n cause r m)

  -- AGAIN: so a delivery is one delivery, and behind the fault of that a delivery.
  pub again_by_gate : (cause : Cause) (r : Regs) (m : Mem)
      → deliver_by_gate serve cause r m ≡ behind_delivery (delivered_by_gate serve cause r m) (λ fault q n. followed_by (combine cause fault) q n (deliver_by_gate serve))
  unfolding deliver_by_gate deliveries_by_gate
  again_by_gate cause r m = sym (no_fifth_by_gate 1 cause r m)
