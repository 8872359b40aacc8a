-- Loads of segment registers in each mode, of LDTR and of TR. Manual, chapters 5, 6, 14, 15 and 17.
-- Own: Rights are those that were read. Own: The order of a load.
use Rattle.std.specs.Prelude.{ℕ, ◌*◌, ◌==◌, ◌||◌, not, if◌then◌else◌, List, [], ◌∷◌, Result, Ok, Err}
use Rattle.mdl_state.specs.declared.Regs.{Regs}
use Rattle.mdl_state.specs.declared.Hidden.{Hidden}
use Rattle.mdl_state.specs.declared.Seg.{Seg}
use Rattle.mdl_state.specs.declared.Seg.TheVariants.{Ss}
use Rattle.mdl_state.specs.declared.Fault.{Fault}
use Rattle.mdl_state.specs.Registers.{seg_of, with_seg}
use Rattle.mdl_state.specs.Serving.{Outcome, Passed, Failed}
use Rattle.mdl_state.specs.Attempt.{Plan, Done, then_plan, checked}
use Rattle.mdl_cpu.specs.declared.Desc.{Desc}
use Rattle.mdl_cpu.specs.Segments.{has_protection, is_virtual}
use Rattle.mdl_cpu.specs.Faults.{Row, row, first_of, fault_at, general_protection}
use Rattle.mdl_cpu.specs.Descriptors.{is_null, rpl, in_ldt, dpl, is_present, is_data, is_readable_code, is_writable_data, is_ldt, is_available_tss, is_beyond, descriptor_plan, accessed_plan, busy_plan}

-- ---- real mode and V86

-- a segment register with this selector and 16 times it as its base; limit and rights stay
unfoldable pub with_selector : Regs → Seg → ℕ → Regs
with_selector r seg sel = with_seg r seg (record (seg_of r seg) { sel = sel; base = 16 * sel })

-- the segment of a selector in V86: 64 KiB of data of level 3 that may be written
abbrev pub virtual_segment : ℕ → Hidden
virtual_segment sel = record { sel = sel; base = 16 * sel; limit = 0xFFFF; rights = 0xF3 }

-- a segment register by the mode, where this is what protected mode does: elsewhere no descriptor is read, and no load is refused
abbrev pub by_mode : Regs → Seg → ℕ → Plan Regs → Plan Regs
by_mode r seg sel protected =
    if not (has_protection r) then Done (with_selector r seg sel)
    else if is_virtual r then Done (with_seg r seg (virtual_segment sel))
    else protected

-- ---- protected mode

-- a register with a null selector can't be used, and keeps the selector
abbrev pub null_segment : ℕ → Hidden
null_segment sel = record { sel = sel; base = 0; limit = 0; rights = 0 }

-- the hidden part that a descriptor gives
abbrev pub hidden_of : ℕ → Desc → Hidden
hidden_of sel d = record { sel = sel; base = d.base; limit = d.limit; rights = d.rights }

-- a segment that was tested is accessed, and is put in place
unfoldable pub known_plan : Regs → Seg → ℕ → Desc → Plan Regs
known_plan r seg sel d = then_plan (accessed_plan d) (λ _. Done (with_seg r seg (hidden_of sel d)))

-- what is not present, and what the stack segment may not be
abbrev pub not_present : ℕ → Fault
not_present sel = fault_at 11 sel

abbrev pub stack_fault : ℕ → Fault
stack_fault sel = fault_at 12 sel

-- DS, ES, FS and GS, behind the row on the table; a wrong selector is a fault of this vector
abbrev pub data_rows : ℕ → ℕ → ℕ → Desc → List Row
data_rows wrong cpl sel d =
    row (not (is_data d || is_readable_code d)) (fault_at wrong sel)
    ∷ row (is_beyond cpl sel d) (fault_at wrong sel)
    ∷ row (not (is_present d)) (not_present sel)
    ∷ []

unfoldable pub data_plan : ℕ → Regs → Seg → ℕ → Plan Regs
data_plan wrong r seg sel =
    if is_null sel then Done (with_seg r seg (null_segment sel))
    else then_plan (descriptor_plan r sel wrong) (λ d.
    checked (first_of (data_rows wrong r.cpl sel d)) (λ _.
    known_plan r seg sel d))

-- the stack segment of a level, behind the row on the table
abbrev pub stack_rows : ℕ → ℕ → ℕ → Desc → List Row
stack_rows wrong level sel d =
    row (not (rpl sel == level)) (fault_at wrong sel)
    ∷ row (not (is_writable_data d)) (fault_at wrong sel)
    ∷ row (not (dpl d == level)) (fault_at wrong sel)
    ∷ row (not (is_present d)) (stack_fault sel)
    ∷ []

-- its descriptor, tested
unfoldable pub stack_plan : ℕ → ℕ → Regs → ℕ → Plan Desc
stack_plan wrong level r sel =
    checked (first_of (row (is_null sel) (fault_at wrong 0) ∷ [])) (λ _.
    then_plan (descriptor_plan r sel wrong) (λ d.
    checked (first_of (stack_rows wrong level sel d)) (λ _.
    Done d)))

-- ---- segment registers by instructions

-- DS, ES, FS or GS
unfoldable pub load_data_plan : Regs → Seg → ℕ → Plan Regs
load_data_plan r seg sel = by_mode r seg sel (data_plan 13 r seg sel)

-- SS
unfoldable pub load_stack_plan : Regs → ℕ → Plan Regs
load_stack_plan r sel = by_mode r Ss sel (then_plan (stack_plan 13 r.cpl r sel) (λ d. known_plan r Ss sel d))

-- the registers that a load leaves, or its fault; what loads CS is a transfer
unfoldable pub load_plan : Regs → Seg → ℕ → Plan Regs
load_plan r Ss sel = load_stack_plan r sel
load_plan r seg sel = load_data_plan r seg sel

-- ---- LDTR and TR. Own: The rows of LLDT and LTR.

-- behind the row on the table
abbrev pub ldt_rows : ℕ → Desc → List Row
ldt_rows sel d =
    row (not (is_ldt d)) (fault_at 13 sel)
    ∷ row (not (is_present d)) (not_present sel)
    ∷ []

-- LLDT
unfoldable pub load_ldt_plan : Regs → ℕ → Plan Regs
load_ldt_plan r sel =
    if is_null sel then Done (record r { ldtr = null_segment sel })
    else checked (first_of (row (in_ldt sel) (fault_at 13 sel) ∷ [])) (λ _.
    then_plan (descriptor_plan r sel 13) (λ d.
    checked (first_of (ldt_rows sel d)) (λ _.
    Done (record r { ldtr = hidden_of sel d }))))

abbrev pub task_rows : ℕ → Desc → List Row
task_rows sel d =
    row (not (is_available_tss d)) (fault_at 13 sel)
    ∷ row (not (is_present d)) (not_present sel)
    ∷ []

-- LTR: the TSS is then busy
unfoldable pub load_task_plan : Regs → ℕ → Plan Regs
load_task_plan r sel =
    checked (first_of (row (is_null sel) (general_protection 0) ∷ row (in_ldt sel) (fault_at 13 sel) ∷ [])) (λ _.
    then_plan (descriptor_plan r sel 13) (λ d.
    checked (first_of (task_rows sel d)) (λ _.
    then_plan (busy_plan d) (λ _.
    Done (record r { tr = hidden_of sel d })))))

-- ---- what a call answers that sets registers

-- the registers that it leaves where it passes, or its fault
abbrev pub answered : Result (Unit {0}) Fault → Regs → Outcome Regs
answered (Ok _) r = Passed r
answered (Err fault) r = Failed fault
