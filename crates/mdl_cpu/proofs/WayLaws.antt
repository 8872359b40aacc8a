-- The faults that the checks raise on the way through a gate of protected mode: none of them is benign.
use Rattle.std.proofs.Common.{ℕ, Bool, true, false, [], ◌∷◌, Option, Some, None}
use Rattle.std.specs.Prelude.{⊤, List, Result, Err, if◌then◌else◌, nat_lt}
use Rattle.mdl_state.specs.declared.Size.{Size}
use Rattle.mdl_state.specs.declared.Seg.{Seg}
use Rattle.mdl_state.specs.declared.Seg.TheVariants.{Ss}
use Rattle.mdl_state.specs.declared.Regs.{Regs}
use Rattle.mdl_state.specs.declared.Fault.{Fault}
use Rattle.mdl_state.specs.Bytes.{bit}
use Rattle.mdl_state.specs.Attempt.{Plan, checked}
use Rattle.mdl_cpu.specs.declared.Cause.{Cause}
use Rattle.mdl_cpu.specs.declared.Desc.{Desc}
use Rattle.mdl_cpu.specs.declared.StackSegment.{StackSegment}
use Rattle.mdl_cpu.specs.Segments.{is_virtual}
use Rattle.mdl_cpu.specs.Faults.{Row, row, first_of, fault_at}
use Rattle.mdl_cpu.specs.Access.{legal, store_to}
use Rattle.mdl_cpu.specs.Stack.{push_plan}
use Rattle.mdl_cpu.specs.Descriptors.{is_outside, place_of, descriptor_at, descriptor_plan, mark_plan, accessed_plan}
use Rattle.mdl_cpu.specs.Loads.{known_plan, stack_rows, stack_plan}
use Rattle.mdl_cpu.specs.DoubleFault.{class_of_fault}
use Rattle.mdl_cpu.specs.Deliveries.{IsSerious, Serious}
use Rattle.mdl_cpu.specs.TaskSegments.{has_wide_tss, level_rows, level_stack_plan}
use Rattle.mdl_cpu.specs.InnerStacks.{inner_stack_plan, push_stack_plan}
use Rattle.mdl_cpu.specs.GateDescriptors.{is_task_gate, gate_selector, target_rows, target_plan}
use Rattle.mdl_cpu.specs.Transfers.{enter_plan}
use Rattle.mdl_cpu.specs.InterruptGates.{table_rows, vector_rows, vector_plan, handler_rows, without_virtual, push_segments_plan, inner_frame_plan, begin_frame_plan, push_code_plan, end_frame_plan, keep_stack_plan, handler_plan, through_code_plan, protected_gate_plan}
use Rattle.mdl_cpu.proofs.GateLaws.{Ways, passes, then_way, stack_store}

abbrev pub Any : {A : Type 0} → A → Type 0
Any x = ⊤

-- ---- rules

abbrev pub AllSerious : List Row → Type 0
AllSerious [] = ⊤
AllSerious (r ∷ rs) = Serious r.fault × AllSerious rs

first_way : {A : Type 0} (holds : Bool) (fault : Fault) (rest : Result (Unit {0}) Fault) (k : Unit {0} → Plan A) → Serious fault → Ways Any (checked rest k)
    → Ways Any (checked (if holds then Err fault else rest) k)
first_way true fault rest k s h = record { ends = s }
first_way false fault rest k s h = h

pub rows_way : {A : Type 0} (rows : List Row) (k : Unit {0} → Plan A) → AllSerious rows → Ways Any (k tt) → Ways Any (checked (first_of rows) k)
rows_way [] k s h = h
rows_way (r ∷ rs) k s h = first_way r.holds r.fault (first_of rs) k s.0 (rows_way rs k s.1 h)

pub either_way : {A : Type 0} (b : Bool) (p q : Plan A) → Ways Any p → Ways Any q → Ways Any (if b then p else q)
either_way true p q h k = h
either_way false p q h k = k

-- ---- the stack

store_any : (r : Regs) (offset : ℕ) (size : Size) (value : ℕ) → Ways Any (store_to r Ss offset size value)
unfolding legal
store_any r offset size value = stack_store _ _ r size value

push_any : (r : Regs) (size : Size) (value : ℕ) → Ways Any (push_plan r size value)
unfolding push_plan
push_any r size value = then_way (store_any r _ size value) (λ _ _. passes tt)

-- ---- descriptors

read_any : (at : ℕ) → Ways Any (descriptor_at at)
unfolding descriptor_at
read_any at = record { ends = λ low high. tt }

pub descriptor_any : (r : Regs) (sel wrong : ℕ) → IsSerious (class_of_fault wrong) → Ways Any (descriptor_plan r sel wrong)
unfolding descriptor_plan
descriptor_any r sel wrong s = rows_way (row (is_outside r sel) (fault_at wrong sel) ∷ []) _ (s, tt) (read_any (place_of r sel))

pub known_any : (r : Regs) (seg : Seg) (sel : ℕ) (d : Desc) → Ways Any (known_plan r seg sel d)
unfolding known_plan accessed_plan mark_plan
known_any r seg sel d = then_way (either_way (bit d.rights 0) _ _ (passes tt) (record { ends = λ place byte. tt })) (λ _ _. passes tt)

pub stack_any : (level : ℕ) (r : Regs) (sel : ℕ) → Ways Any (stack_plan 10 level r sel)
unfolding stack_plan
stack_any level r sel = rows_way (row (nat_lt sel 4) (fault_at 10 0) ∷ []) _ (tt, tt) (then_way (descriptor_any r sel 10 tt) (λ d _.
    rows_way (stack_rows 10 level sel d) _ (tt, (tt, (tt, (tt, tt)))) (passes tt)))

level_any : (r : Regs) (level : ℕ) → Ways Any (level_stack_plan r level)
unfolding level_stack_plan
level_any r level = rows_way (level_rows r level) _ (tt, tt) (either_way (has_wide_tss r) _ _ (record { ends = λ esp sel. tt }) (record { ends = λ sp sel. tt }))

inner_any : (r : Regs) (level : ℕ) → Ways Any (inner_stack_plan r level)
unfolding inner_stack_plan
inner_any r level = then_way (level_any r level) (λ s _. then_way (stack_any level r s.selector) (λ d _. passes tt))

old_any : (old r : Regs) (size : Size) → Ways Any (push_stack_plan old r size)
unfolding push_stack_plan
old_any old r size = then_way (push_any r size _) (λ a _. push_any a size _)

-- ---- the gate, the frame and the handler

vector_any : (r : Regs) (cause : Cause) → Ways Any (vector_plan r cause)
unfolding vector_plan
vector_any r cause = rows_way (table_rows r cause.vector) _ (tt, tt) (then_way (read_any _) (λ g _.
    rows_way (vector_rows r cause g) _ (tt, (tt, (tt, tt))) (passes tt)))

segments_any : (old r : Regs) → Ways Any (push_segments_plan old r)
unfolding push_segments_plan
segments_any old r = then_way (push_any r _ _) (λ a _. then_way (push_any a _ _) (λ b _. then_way (push_any b _ _) (λ c _. push_any c _ _)))

begin_any : (r : Regs) (level : ℕ) (size : Size) → Ways Any (begin_frame_plan r level size)
unfolding begin_frame_plan inner_frame_plan
begin_any r level size = either_way (nat_lt level r.cpl) _ _
    (then_way (inner_any (without_virtual r) level) (λ s _. then_way (either_way (is_virtual r) _ _ (segments_any r s.regs) (passes tt)) (λ a _.
    then_way (old_any r a size) (λ b _. passes tt))))
    (passes tt)

pub code_any : (r : Regs) (size : Size) (code : Option ℕ) → Ways Any (push_code_plan r size code)
unfolding push_code_plan
code_any r size None = passes tt
code_any r size (Some code) = push_any r size code

end_any : (old r : Regs) (cause : Cause) (size : Size) → Ways Any (end_frame_plan old r cause size)
unfolding end_frame_plan
end_any old r cause size = then_way (push_any r size _) (λ a _. then_way (push_any a size _) (λ b _. then_way (push_any b size _) (λ c _. code_any c size cause.code)))

enter_any : (r : Regs) (sel : ℕ) (d : Desc) (eip : ℕ) → Ways Any (enter_plan r sel d eip)
unfolding enter_plan
enter_any r sel d eip = rows_way (row (nat_lt d.limit eip) (record { vector = 13; code = 0; addr = 0 }) ∷ []) _ (tt, tt) (then_way (known_any r _ sel d) (λ _ _. passes tt))

keep_any : (r : Regs) (stack : Option StackSegment) → Ways Any (keep_stack_plan r stack)
unfolding keep_stack_plan
keep_any r None = passes tt
keep_any r (Some s) = known_any r Ss s.selector s.desc

handler_any : (r : Regs) (cause : Cause) (g d : Desc) → Ways Any (handler_plan r cause g d)
unfolding handler_plan
handler_any r cause g d = then_way (begin_any r _ _) (λ f _. then_way (end_any r f.regs cause _) (λ a _. then_way (enter_any a _ d _) (λ b _. then_way (keep_any b f.stack) (λ c _. passes tt))))

target_any : (r : Regs) (g : Desc) → Ways Any (target_plan r g (target_rows r.cpl (gate_selector g)))
unfolding target_plan
target_any r g = rows_way (row (nat_lt (gate_selector g) 4) (record { vector = 13; code = 0; addr = 0 }) ∷ []) _ (tt, tt) (then_way (descriptor_any r (gate_selector g) 13 tt) (λ d _.
    rows_way (target_rows r.cpl (gate_selector g) d) _ (tt, (tt, (tt, tt))) (passes tt)))

through_any : (r : Regs) (cause : Cause) (g : Desc) → Ways Any (through_code_plan r cause g)
unfolding through_code_plan
through_any r cause g = then_way (target_any r g) (λ d _. rows_way (handler_rows r g d) _ (tt, (tt, tt)) (handler_any r cause g d))

pub protected_way : (cause : Cause) (r : Regs) → Ways Any (protected_gate_plan cause r)
unfolding protected_gate_plan
protected_way cause r = then_way (vector_any r cause) (λ g _. either_way (is_task_gate g) _ _ (passes tt) (then_way (through_any r cause g) (λ q _. passes tt)))
