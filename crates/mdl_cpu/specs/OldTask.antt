-- The old part of a task switch: what is tested, and what is saved. Manual, chapter 7.
-- Own: The order of a task switch. Own: What a switch leaves of the old task.
use Rattle.std.specs.Prelude.{ℕ, ◌&&◌, not, nat_lt, Bool, true, false, if◌then◌else◌, List, [], ◌∷◌}
use Rattle.mdl_state.specs.declared.Regs.{Regs}
use Rattle.mdl_state.specs.Attempt.{Plan, Done, then_plan, checked}
use Rattle.mdl_num.specs.Flags.{with_bit}
use Rattle.mdl_cpu.specs.declared.Desc.{Desc}
use Rattle.mdl_cpu.specs.declared.Reason.{Reason}
use Rattle.mdl_cpu.specs.declared.Reason.TheVariants.{Jump, Call, Return}
use Rattle.mdl_cpu.specs.declared.Request.{Request}
use Rattle.mdl_cpu.specs.declared.Task.{Task}
use Rattle.mdl_cpu.specs.Faults.{Row, row, first_of, fault_at}
use Rattle.mdl_cpu.specs.SystemFlags.{NT, RF}
use Rattle.mdl_cpu.specs.Descriptors.{is_null, in_ldt, is_present, is_available_tss, is_beyond, descriptor_plan}
use Rattle.mdl_cpu.specs.Loads.{not_present}
use Rattle.mdl_cpu.specs.TaskSegments.{is_wide_tss, has_wide_tss, is_busy_tss}
use Rattle.mdl_cpu.specs.Tasks.{read_image_plan, save_image_plan, image_of, busy_bits_plan, link_plan}

-- ---- the tests

abbrev pub is_return : Reason → Bool
is_return Return = true
is_return _ = false

-- a wrong selector of IRET's link is a fault of the TSS, and else of protection
abbrev pub wrong_task : Reason → ℕ
wrong_task Return = 10
wrong_task _ = 13

-- IRET returns to a busy task, and everything else goes to one that is not
abbrev pub is_target : Reason → Desc → Bool
is_target Return d = is_busy_tss d
is_target _ d = is_available_tss d

-- the least limit of a TSS, of the 80386 or of the 80286
abbrev pub least_limit : Bool → ℕ
least_limit wide = if wide then 103 else 43

-- JMP and CALL that name a TSS need its privilege
abbrev pub needs_privilege : Reason → Bool → Bool
needs_privilege Jump direct = direct
needs_privilege Call direct = direct
needs_privilege _ direct = false

-- the selector of the new TSS, before the row on its table
abbrev pub selector_rows : Request → List Row
selector_rows q =
    row (is_null q.selector) (fault_at (wrong_task q.reason) q.selector)
    ∷ row (in_ldt q.selector) (fault_at (wrong_task q.reason) q.selector)
    ∷ []

-- the new TSS, behind the row on its table, and the old one
abbrev pub task_rows : Regs → Request → Desc → List Row
task_rows r q d =
    row (not (is_target q.reason d)) (fault_at (wrong_task q.reason) q.selector)
    ∷ row (needs_privilege q.reason q.direct && is_beyond r.cpl q.selector d) (fault_at 13 q.selector)
    ∷ row (not (is_present d)) (not_present q.selector)
    ∷ row (nat_lt d.limit (least_limit (is_wide_tss d))) (fault_at 10 q.selector)
    ∷ row (nat_lt r.tr.limit (least_limit (has_wide_tss r))) (fault_at 10 r.tr.sel)
    ∷ []

-- the flags that are saved: NT is 0 where the task returns, and RF is 1 where a fault is delivered
abbrev pub old_flags : Request → ℕ → ℕ
old_flags q flags =
    let left = if is_return q.reason then with_bit flags NT 0 else flags in
    if q.fault then with_bit left RF 1 else left

-- The new image is read; then the old one, the busy bits and the link are written.
unfoldable pub old_plan : Regs → Request → Plan Task
old_plan r q =
    checked (first_of (selector_rows q)) (λ _.
    then_plan (descriptor_plan r q.selector (wrong_task q.reason)) (λ d.
    checked (first_of (task_rows r q d)) (λ _.
    then_plan (read_image_plan (is_wide_tss d) d.base) (λ image.
    then_plan (save_image_plan (has_wide_tss r) r.tr.base (image_of r q.back (old_flags q r.eflags))) (λ _.
    then_plan (busy_bits_plan r q.reason d) (λ _.
    then_plan (link_plan r q.reason d) (λ _.
    Done (record { desc = d; image = image }))))))))
