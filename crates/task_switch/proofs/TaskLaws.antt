-- In which task a fault of a switch is raised, and what then stands: why it is so.
use Rattle.std.proofs.Common.{◌≡◌, ℕ, Bool, true, false, refl, ap, sym, ◌∙◌, [], ◌∷◌, length, subst}
use Rattle.std.specs.Prelude.{⊤, ◌==◌, ◌++◌, List, if◌then◌else◌, slice_set, Result, nat_lt}
use Rattle.std.specs.FinMap.{empty}
use Rattle.std.proofs.lemmas.List.{map-set, length-map}
use Rattle.mdl_state.specs.declared.Seg.{Seg}
use Rattle.mdl_state.specs.declared.Seg.TheVariants.{Es, Cs, Ss, Ds, Fs, Gs}
use Rattle.mdl_state.specs.declared.Regs.{Regs}
use Rattle.mdl_state.specs.declared.Hidden.{Hidden}
use Rattle.mdl_state.specs.declared.Fault.{Fault}
use Rattle.mdl_state.specs.State.{Physical, Mem}
use Rattle.mdl_state.specs.Memory.{gated, is_ram, placed}
use Rattle.mdl_state.specs.Registers.{seg_of, seg_number, with_seg}
use Rattle.mdl_state.specs.Serving.{Serve, Pick, Outcome, Passed, Failed, NoStep, by_pick}
use Rattle.mdl_state.specs.Accesses.{all_placed, committed, discarded}
use Rattle.mdl_state.specs.Attempt.{Plan, then_plan, checked, tried, finished}
use Rattle.mdl_state.specs.Ends.{Ends, IfPassed, tried_ends, then_ends, checked_ends, either_ends}
use Rattle.mdl_state.specs.Restart.{unmark, bare_physical, bare, OnlyMarks, Leaves, by_pick_marks, tried_bare}
use Rattle.mdl_cpu.specs.declared.Desc.{Desc}
use Rattle.mdl_cpu.specs.declared.Request.{Request}
use Rattle.mdl_cpu.specs.declared.Switched.{Switched}
use Rattle.mdl_cpu.specs.declared.Task.{Task}
use Rattle.mdl_cpu.specs.Faults.{row, first_of, fault_at, general_protection}
use Rattle.mdl_cpu.specs.Descriptors.{is_null, in_ldt, descriptor_plan, accessed_plan}
use Rattle.mdl_cpu.specs.Loads.{null_segment, hidden_of, known_plan, data_rows, data_plan, stack_plan}
use Rattle.mdl_cpu.specs.Returns.{virtual_segments}
use Rattle.mdl_cpu.specs.TaskSegments.{is_wide_tss}
use Rattle.mdl_cpu.specs.OldTask.{old_plan}
use Rattle.mdl_cpu.specs.NewTask.{Stage, begun, by_directory, is_virtual_image, new_ldt_rows, ldt_stage, virtual_stage, new_code_rows, code_stage, stack_stage, limit_stage, code_word_stage, segment_stages, new_stages}
use Rattle.mdl_cpu.specs.Switch.{Left, left, passing, staged, told, new_part, behind_old, switch}
use Rattle.task_switch.proofs.Ways.{NoFact, any_ends}
use Rattle.task_switch.specs.TaskOfFault.{selector_alone, with_unloaded, TaskOfFault}

-- ---- stages leave the first registers but for what they load

-- but for the segments that were loaded these are the first registers
abbrev Kept : Regs → Regs → Type 0
Kept first r = with_unloaded r ≡ first

-- each way through the plan that passes leaves them so
abbrev Keeping : Regs → Plan Regs → Type 0
Keeping first plan = Ends (Kept first) NoFact plan

behind : {A : Type 0} (first : Regs) (plan : Plan A) (f : A → Plan Regs) → ((x : A) → Keeping first (f x)) → Keeping first (then_plan plan f)
behind first plan f h = then_ends NoFact (Kept first) NoFact plan f (any_ends plan) (λ x _. h x)

tested : {A : Type 0} (first : Regs) (c : Result A Fault) (f : A → Plan Regs) → ((x : A) → Keeping first (f x)) → Keeping first (checked c f)
tested first c f h = checked_ends (Kept first) NoFact c f (λ _ _. tt) h

-- a segment register that gets the selector that it has
seg_kept : (first r : Regs) (seg : Seg) (h : Hidden) → Kept first r → slice_set first.seg (seg_number seg) (selector_alone h) ≡ first.seg → Kept first (with_seg r seg h)
unfolding with_seg
seg_kept first r seg h kept e =
    ap (λ (hs : List Hidden). record (with_unloaded r) { seg = hs }) (map-set selector_alone r.seg (seg_number seg) h)
    ∙ ap (λ (s : Regs). record s { seg = slice_set s.seg (seg_number seg) (selector_alone h) }) kept
    ∙ ap (λ (hs : List Hidden). record first { seg = hs }) e

ldt_kept : (first r : Regs) (h : Hidden) → Kept first r → selector_alone h ≡ first.ldtr → Kept first (record r { ldtr = h })
ldt_kept first r h kept e =
    ap (λ (s : Regs). record s { ldtr = selector_alone h }) kept
    ∙ ap (λ (l : Hidden). record first { ldtr = l }) e

known_kept : (first r : Regs) (seg : Seg) (sel : ℕ) (d : Desc) → Kept first r → slice_set first.seg (seg_number seg) (null_segment sel) ≡ first.seg → Keeping first (known_plan r seg sel d)
unfolding known_plan
known_kept first r seg sel d kept e = behind first (accessed_plan d) _ (λ _. seg_kept first r seg (hidden_of sel d) kept e)

code_kept : (first r : Regs) (sel : ℕ) → Kept first r → slice_set first.seg 1 (null_segment sel) ≡ first.seg → Keeping first (code_stage sel r)
unfolding code_stage
code_kept first r sel kept e = tested first (first_of (row (is_null sel) (fault_at 10 sel) ∷ [])) _ (λ _.
    behind first (descriptor_plan r sel 10) _ (λ d.
    tested first (first_of (new_code_rows sel d)) _ (λ _.
    known_kept first r Cs sel d kept e)))

stack_kept : (first r : Regs) (sel : ℕ) → Kept first r → slice_set first.seg 2 (null_segment sel) ≡ first.seg → Keeping first (stack_stage sel r)
unfolding stack_stage
stack_kept first r sel kept e = behind first (stack_plan 10 r.cpl r sel) _ (λ d. known_kept first r Ss sel d kept e)

data_kept : (first r : Regs) (seg : Seg) (sel : ℕ) → Kept first r → slice_set first.seg (seg_number seg) (null_segment sel) ≡ first.seg → Keeping first (data_plan 10 r seg sel)
unfolding data_plan
data_kept first r seg sel kept e = either_ends (Kept first) NoFact (is_null sel) _ _ (seg_kept first r seg (null_segment sel) kept e)
    (behind first (descriptor_plan r sel 10) _ (λ d.
    tested first (first_of (data_rows 10 r.cpl sel d)) _ (λ _.
    known_kept first r seg sel d kept e)))

table_kept : (first r : Regs) (sel : ℕ) → Kept first r → null_segment sel ≡ first.ldtr → Keeping first (ldt_stage sel r)
unfolding ldt_stage
table_kept first r sel kept e = either_ends (Kept first) NoFact (is_null sel) _ _ (ldt_kept first r (null_segment sel) kept e)
    (tested first (first_of (row (in_ldt sel) (fault_at 10 sel) ∷ [])) _ (λ _.
    behind first (descriptor_plan r sel 10) _ (λ d.
    tested first (first_of (new_ldt_rows sel d)) _ (λ _.
    ldt_kept first r (hidden_of sel d) kept e))))

limit_kept : (first r : Regs) → Kept first r → Keeping first (limit_stage r)
unfolding limit_stage
limit_kept first r kept = tested first (first_of (row (nat_lt (seg_of r Cs).limit r.eip) (general_protection 0) ∷ [])) _ (λ _. kept)

virtual_kept : (r : Regs) (q : Request) (t : Task) (s : Regs) → Kept (begun r q t) s → Keeping (begun r q t) (virtual_stage t.image s)
unfolding virtual_stage virtual_segments begun
virtual_kept r q t s kept = ap (λ (p : Regs). record p { seg = (begun r q t).seg }) kept

-- each stage but the last leaves them
abbrev AllKept : Regs → List Stage → Type 0
AllKept first [] = ⊤
AllKept first (stage ∷ []) = ⊤
AllKept first (stage ∷ next ∷ stages) = ((r : Regs) → Kept first r → Keeping first (stage r)) × AllKept first (next ∷ stages)

-- the registers that are left by a fault
abbrev IfBroken : (Regs → Type 0) → Outcome (Unit {0}) → Regs → Type 0
IfBroken P (Passed x) r = ⊤
IfBroken P (Failed fault) r = P r
IfBroken P NoStep r = ⊤

abbrev Broken : (Regs → Type 0) → Left (Unit {0}) × Mem → Type 0
Broken P w = IfBroken P w.0.outcome w.0.regs

passing_kept : (P : Regs → Type 0) (w : Outcome Regs × Mem) (r : Regs) (k : Regs → Mem → Left (Unit {0}) × Mem) → P r → IfPassed P w.0
    → ((s : Regs) (n : Mem) → P s → Broken P (k s n)) → Broken P (passing w r k)
passing_kept P (Passed s, n) r k now h next = next s n h
passing_kept P (Failed fault, n) r k now h next = now
passing_kept P (NoStep, n) r k now h next = tt

last_kept : (P : Regs → Type 0) (w : Outcome Regs × Mem) (r : Regs) → P r → Broken P (passing w r (λ s n. left (Passed tt) s n))
last_kept P (Passed s, n) r now = tt
last_kept P (Failed fault, n) r now = now
last_kept P (NoStep, n) r now = tt

staged_kept : (serve : Serve) (first : Regs) (stages : List Stage) → AllKept first stages → (r : Regs) (m : Mem) → Kept first r → Broken (Kept first) (staged serve stages r m)
staged_kept serve first [] h r m kept = tt
staged_kept serve first (stage ∷ []) h r m kept = last_kept (Kept first) (tried serve 0 (stage r) m) r kept
staged_kept serve first (stage ∷ next ∷ stages) h r m kept =
    passing_kept (Kept first) (tried serve 0 (stage r) m) r _ kept (tried_ends (Kept first) NoFact serve 0 (stage r) m (h.0 r kept))
    (λ s n k. staged_kept serve first (next ∷ stages) h.1 s n k)

module _ (r : Regs) (q : Request) (t : Task) where
  by_kind : (virtual : Bool) → AllKept (begun r q t)
      (ldt_stage (begun r q t).ldtr.sel ∷ (if virtual then virtual_stage t.image ∷ [] else segment_stages t.image) ++ limit_stage ∷ code_word_stage (is_wide_tss t.desc) q.code ∷ [])
  unfolding begun
  by_kind true = (
    (λ s k. table_kept (begun r q t) s _ k refl),
    ((λ s k. virtual_kept r q t s k), ((λ s k. limit_kept (begun r q t) s k), tt)),
  )
  by_kind false = (
    (λ s k. table_kept (begun r q t) s _ k refl),
    (
      (λ s k. code_kept (begun r q t) s _ k refl),
      (
        (λ s k. stack_kept (begun r q t) s _ k refl),
        (
          (λ s k. data_kept (begun r q t) s Es _ k refl),
          (
            (λ s k. data_kept (begun r q t) s Ds _ k refl),
            (
              (λ s k. data_kept (begun r q t) s Fs _ k refl),
              (
                (λ s k. data_kept (begun r q t) s Gs _ k refl),
                ((λ s k. limit_kept (begun r q t) s k), tt),
              ),
            ),
          ),
        ),
      ),
    ),
  )

  all_kept : AllKept (begun r q t) (new_stages q t)
  unfolding begun
  all_kept = by_kind (is_virtual_image t.image)

  begun_kept : Kept (begun r q t) (begun r q t)
  unfolding begun
  begun_kept = refl

  new_kept : (serve : Serve) (m : Mem) → Broken (Kept (begun r q t)) (staged serve (new_stages q t) (begun r q t) m)
  new_kept serve m = staged_kept serve (begun r q t) (new_stages q t) all_kept (begun r q t) m begun_kept

-- ---- stages leave memory but for marks and what they hold

passing_bare : (old : Mem) (w : Outcome Regs × Mem) (r : Regs) (k : Regs → Mem → Left (Unit {0}) × Mem) → Leaves old w
    → ((s : Regs) (n : Mem) → Leaves n (k s n)) → Leaves old (passing w r k)
passing_bare old (Passed s, n) r k p h = record { same = (h s n).same ∙ p.same }
passing_bare old (Failed fault, n) r k p h = record { same = p.same }
passing_bare old (NoStep, n) r k p h = record { same = p.same }

staged_bare : (serve : Serve) → OnlyMarks serve → (stages : List Stage) (r : Regs) (m : Mem) → Leaves m (staged serve stages r m)
staged_bare serve marks [] r m = record { same = refl }
staged_bare serve marks (stage ∷ stages) r m =
    passing_bare m (tried serve 0 (stage r) m) r _ (tried_bare serve marks 0 (stage r) m) (λ s n. staged_bare serve marks stages s n)

-- ---- bytes placed, but for marks

placed_if : (b : Bool) (p : Physical) (at byte : ℕ) → bare_physical (if b then record p { ram = slice_set p.ram at byte } else p)
    ≡ (if b then record (bare_physical p) { ram = slice_set (bare_physical p).ram at (unmark byte) } else bare_physical p)
placed_if true p at byte = ap (λ (xs : List ℕ). record (bare_physical p) { ram = xs }) (map-set unmark p.ram at byte)
placed_if false p at byte = refl

same_room : (p : Physical) (at : ℕ) → is_ram (length p.ram) at ≡ is_ram (length (bare_physical p).ram) at
same_room p at = ap (λ (n : ℕ). is_ram n at) (sym (length-map p.ram unmark))

bare-placed : (p : Physical) (at byte : ℕ) → bare_physical (placed p at byte) ≡ placed (bare_physical p) at (unmark byte)
unfolding placed
bare-placed p at byte = placed_if (is_ram (length p.ram) (gated p.a20 at)) p (gated p.a20 at) byte
    ∙ ap (λ (b : Bool). if b then record (bare_physical p) { ram = slice_set (bare_physical p).ram (gated p.a20 at) (unmark byte) } else bare_physical p) (same_room p (gated p.a20 at))

all_placed_bare : (held : List (ℕ × ℕ)) (a b : Physical) → bare_physical a ≡ bare_physical b → bare_physical (all_placed a held) ≡ bare_physical (all_placed b held)
all_placed_bare [] a b h = h
all_placed_bare (x ∷ held) a b h = all_placed_bare held (placed a x.0 x.1) (placed b x.0 x.1)
    (bare-placed a x.0 x.1 ∙ ap (λ (p : Physical). placed p x.0 (unmark x.1)) h ∙ sym (bare-placed b x.0 x.1))

directory_if : (b : Bool) (m : Mem) (cr3 : ℕ) → (if b then m else record m { cr3 = cr3; cache = empty }).physical ≡ m.physical
directory_if true m cr3 = refl
directory_if false m cr3 = refl

physical_of : (a b : Mem) → bare a ≡ bare b → bare_physical a.physical ≡ bare_physical b.physical
physical_of a b h = ap (λ (m : Mem). m.physical) h

-- ---- the switch

abbrev OnSwitch : Serve → Regs → Request → Mem → Outcome Switched → Regs → Mem → Type 0
OnSwitch serve r q m (Passed answer) s n = TaskOfFault serve r q m answer s n
OnSwitch serve r q m (Failed fault) s n = ⊤
OnSwitch serve r q m NoStep s n = ⊤

abbrev OfSwitch : Serve → Regs → Request → Mem → Left Switched × Mem → Type 0
OfSwitch serve r q m w = OnSwitch serve r q m w.0.outcome w.0.regs w.1

new_case : (serve : Serve) (r : Regs) (q : Request) (m : Mem) (t : Task) (saved : Mem) → tried serve 0 (old_plan r q) m ≡ (Passed t, saved)
    → (o : Outcome (Unit {0})) (s : Regs) (n : Mem) → IfBroken (Kept (begun r q t)) o s → bare_physical n.physical ≡ bare_physical (all_placed m.physical saved.held)
    → OfSwitch serve r q m (told q t o s n)
unfolding discarded
new_case serve r q m t saved e (Passed x) s n kept same = tt
new_case serve r q m t saved e (Failed fault) s n kept same = record { task = t; saved = saved; passed = e; regs = kept; memory = same }
new_case serve r q m t saved e NoStep s n kept same = tt

module _ (serve : Serve) (marks : OnlyMarks serve) (r : Regs) (q : Request) (m : Mem) where
  new_memory : (t : Task) (saved : Mem) → bare saved ≡ bare m
      → bare_physical (staged serve (new_stages q t) (begun r q t) (by_directory (begun r q t).cr3 (committed saved))).1.physical ≡ bare_physical (all_placed m.physical saved.held)
  unfolding committed
  new_memory t saved same =
      let start = by_directory (begun r q t).cr3 (committed saved) in
      physical_of (staged serve (new_stages q t) (begun r q t) start).1 start (staged_bare serve marks (new_stages q t) (begun r q t) start).same
      ∙ ap bare_physical (directory_if ((committed saved).cr3 == (begun r q t).cr3) (committed saved) (begun r q t).cr3)
      ∙ all_placed_bare saved.held saved.physical m.physical (physical_of saved m same)

  old_case : (w : Outcome Task × Mem) → tried serve 0 (old_plan r q) m ≡ w → Leaves m w → OfSwitch serve r q m (behind_old r q (finished w) (λ t n. new_part serve r q t n))
  unfolding new_part discarded
  old_case (Passed t, saved) e h = let w = staged serve (new_stages q t) (begun r q t) (by_directory (begun r q t).cr3 (committed saved)) in
      new_case serve r q m t saved e w.0.outcome w.0.regs w.1 (new_kept r q t serve (by_directory (begun r q t).cr3 (committed saved))) (new_memory t saved h.same)
  old_case (Failed fault, n) e h = record { regs = refl; memory = physical_of n m h.same }
  old_case (NoStep, n) e h = tt

  task_of_fault : OfSwitch serve r q m (switch serve r q m)
  unfolding switch
  task_of_fault = old_case (tried serve 0 (old_plan r q) m) refl (tried_bare serve marks 0 (old_plan r q) m)

-- what a switch answers tells in which task its fault is raised
pub switched_task : (pick : Pick) (r s : Regs) (q : Request) (m n : Mem) (answer : Switched) → left (Passed answer) s n ≡ switch (by_pick pick) r q m
    → TaskOfFault (by_pick pick) r q m answer s n
switched_task pick r s q m n answer e =
    subst (λ (w : Left Switched × Mem). OfSwitch (by_pick pick) r q m w) (sym e) (task_of_fault (by_pick pick) (by_pick_marks pick) r q m)
