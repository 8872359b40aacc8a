-- Loads of segment registers, of LDTR and of TR as parts of plans: what each way through them ends with.
use Rattle.std.proofs.Common.{ℕ, Bool, true, false, arith}
use Rattle.std.specs.Prelude.{⊤, if◌then◌else◌, not, List, [], ◌∷◌, Err}
use Rattle.mdl_state.specs.declared.Seg.{Seg}
use Rattle.mdl_state.specs.declared.Seg.TheVariants.{Ss}
use Rattle.mdl_state.specs.declared.Regs.{Regs}
use Rattle.mdl_state.specs.declared.Fault.{Fault}
use Rattle.mdl_state.specs.Bytes.{bit}
use Rattle.mdl_state.specs.Attempt.{Plan, then_plan, checked}
use Rattle.mdl_cpu.specs.declared.Desc.{Desc}
use Rattle.mdl_cpu.specs.Segments.{has_protection, is_virtual}
use Rattle.mdl_cpu.specs.Faults.{Row, row, first_of, fault_at}
use Rattle.mdl_cpu.specs.Descriptors.{is_null, in_ldt, is_outside, place_of, descriptor_at, descriptor_plan, mark_plan, accessed_plan, busy_plan}
use Rattle.mdl_cpu.specs.Loads.{by_mode, with_selector, known_plan, data_rows, data_plan, stack_rows, stack_plan, load_data_plan, load_stack_plan, load_plan, null_segment, hidden_of, ldt_rows, load_ldt_plan, task_rows, load_task_plan}
use Rattle.mdl_cpu.specs.Steady.{Steady}
use Rattle.mdl_effect.specs.Ways.{IsDefined}
use Rattle.mdl_effect.proofs.Registers.{then_stays, seg_stays, ldtr_stays, tr_stays}
use Rattle.mdl_effect.proofs.Operations.{Ways, passes, fails, then_way, either_way}

-- no row is the fault of an instruction that is not defined
abbrev pub AllDefined : List Row → Type 0
AllDefined [] = ⊤
AllDefined (r ∷ rs) = IsDefined r.fault × AllDefined rs

row_way : {A : Type 0} {P : A → Type 0} (holds : Bool) (fault : Fault) (rest : List Row) (k : Unit {0} → Plan A) → IsDefined fault
    → Ways P (checked (first_of rest) k) → Ways P (checked (if holds then Err fault else first_of rest) k)
row_way true fault rest k d h = fails d
row_way false fault rest k d h = h

-- a plan behind rows
pub rows_way : {A : Type 0} {P : A → Type 0} (rows : List Row) (k : Unit {0} → Plan A) → AllDefined rows → Ways P (k tt) → Ways P (checked (first_of rows) k)
rows_way [] k d h = h
rows_way (r ∷ rs) k d h = row_way r.holds r.fault rs k d.0 (rows_way rs k d.1 h)

abbrev pub Any : {A : Type 0} → A → Type 0
Any x = ⊤

pub read_way : (at : ℕ) → Ways Any (descriptor_at at)
unfolding descriptor_at
read_way at = record { ends = λ low high. tt }

descriptor_way : (r : Regs) (sel : ℕ) → Ways Any (descriptor_plan r sel 13)
unfolding descriptor_plan
descriptor_way r sel = rows_way (row (is_outside r sel) (fault_at 13 sel) ∷ []) _ (omega arith, tt) (read_way (place_of r sel))

accessed_way : (d : Desc) → Ways Any (accessed_plan d)
unfolding accessed_plan mark_plan
accessed_way d = either_way (bit d.rights 0) (passes tt) (record { ends = λ place byte. tt })

known_way : (o r : Regs) (seg : Seg) (sel : ℕ) (d : Desc) → Steady o r → Ways (Steady o) (known_plan r seg sel d)
unfolding known_plan
known_way o r seg sel d h = then_way (accessed_way d) (λ _ _. passes (then_stays h (seg_stays r seg _)))

data_way : (o r : Regs) (seg : Seg) (sel : ℕ) → Steady o r → Ways (Steady o) (data_plan 13 r seg sel)
unfolding data_plan
data_way o r seg sel h = either_way (is_null sel) (passes (then_stays h (seg_stays r seg _)))
    (then_way (descriptor_way r sel) (λ d _. rows_way (data_rows 13 r.cpl sel d) _ (omega arith, (omega arith, (omega arith, tt))) (known_way o r seg sel d h)))

stack_way : (r : Regs) (sel : ℕ) → Ways Any (stack_plan 13 r.cpl r sel)
unfolding stack_plan
stack_way r sel = rows_way (row (is_null sel) (fault_at 13 0) ∷ []) _ (omega arith, tt)
    (then_way (descriptor_way r sel) (λ d _. rows_way (stack_rows 13 r.cpl sel d) _ (omega arith, (omega arith, (omega arith, (omega arith, tt)))) (passes tt)))

-- in each mode
mode_way : (o r : Regs) (seg : Seg) (sel : ℕ) (protected : Plan Regs) → Steady o r → Ways (Steady o) protected
    → Ways (Steady o) (by_mode r seg sel protected)
unfolding with_selector
mode_way o r seg sel protected h k = either_way (not (has_protection r)) (passes (then_stays h (seg_stays r seg _)))
    (either_way (is_virtual r) (passes (then_stays h (seg_stays r seg _))) k)

data_load_way : (o r : Regs) (seg : Seg) (sel : ℕ) → Steady o r → Ways (Steady o) (load_data_plan r seg sel)
unfolding load_data_plan
data_load_way o r seg sel h = mode_way o r seg sel _ h (data_way o r seg sel h)

stack_load_way : (o r : Regs) (sel : ℕ) → Steady o r → Ways (Steady o) (load_stack_plan r sel)
unfolding load_stack_plan
stack_load_way o r sel h = mode_way o r Ss sel _ h (then_way (stack_way r sel) (λ d _. known_way o r Ss sel d h))

segment_way : (o r : Regs) (seg : Seg) (sel : ℕ) → Steady o r → Ways (Steady o) (load_plan r seg sel)
unfolding load_plan
segment_way o r Ss sel h = stack_load_way o r sel h
segment_way o r seg sel h = data_load_way o r seg sel h

-- what follows the load of a segment register
pub segment_then : {A : Type 0} {P : A → Type 0} (o r : Regs) (seg : Seg) (sel : ℕ) (f : Regs → Plan A) → Steady o r
    → ((q : Regs) → Steady o q → Ways P (f q)) → Ways P (then_plan (load_plan r seg sel) f)
segment_then o r seg sel f h k = then_way (segment_way o r seg sel h) k

-- ---- LDTR and TR

pub ldt_way : (r : Regs) (sel : ℕ) → Ways (Steady r) (load_ldt_plan r sel)
unfolding load_ldt_plan
ldt_way r sel = either_way (is_null sel) (passes (ldtr_stays r (null_segment sel)))
    (rows_way (row (in_ldt sel) (fault_at 13 sel) ∷ []) _ (omega arith, tt)
    (then_way (descriptor_way r sel) (λ d _. rows_way (ldt_rows sel d) _ (omega arith, (omega arith, tt)) (passes (ldtr_stays r (hidden_of sel d))))))

busy_way : (d : Desc) → Ways Any (busy_plan d)
unfolding mark_plan
busy_way d = record { ends = λ place byte. tt }

pub task_way : (r : Regs) (sel : ℕ) → Ways (Steady r) (load_task_plan r sel)
unfolding load_task_plan
task_way r sel = rows_way (row (is_null sel) (fault_at 13 0) ∷ row (in_ldt sel) (fault_at 13 sel) ∷ []) _ (omega arith, (omega arith, tt))
    (then_way (descriptor_way r sel) (λ d _. rows_way (task_rows sel d) _ (omega arith, (omega arith, tt))
    (then_way (busy_way d) (λ _ _. passes (tr_stays r (hidden_of sel d))))))
