-- The way of an interrupt or exception to its handler through a gate, in protected mode and in V86. Manual, chapters 6, 7,
-- 9 and 15. Own: The handler of V86. Own: Accessed bits of a transfer.
use Rattle.std.specs.Prelude.{ℕ, ◌+◌, ◌*◌, ◌%◌, ◌^◌, ◌==◌, ◌&&◌, ◌||◌, not, nat_lt, Bool, if◌then◌else◌, List, [], ◌∷◌, Option, Some, None}
use Rattle.mdl_state.specs.declared.Size.{Size}
use Rattle.mdl_state.specs.declared.Size.TheVariants.{B4}
use Rattle.mdl_state.specs.declared.Seg.{Seg}
use Rattle.mdl_state.specs.declared.Seg.TheVariants.{Es, Cs, Ss, Ds, Fs, Gs}
use Rattle.mdl_state.specs.declared.Regs.{Regs}
use Rattle.mdl_state.specs.declared.Fault.{Fault}
use Rattle.mdl_state.specs.Bytes.{bound_of}
use Rattle.mdl_state.specs.Registers.{seg_of, with_seg}
use Rattle.mdl_state.specs.Attempt.{Plan, Done, then_plan, checked}
use Rattle.mdl_num.specs.Flags.{with_bit}
use Rattle.mdl_cpu.specs.declared.Desc.{Desc}
use Rattle.mdl_cpu.specs.declared.Cause.{Cause}
use Rattle.mdl_cpu.specs.declared.StackSegment.{StackSegment}
use Rattle.mdl_cpu.specs.Segments.{is_virtual}
use Rattle.mdl_cpu.specs.Faults.{Row, row, first_of, fault_at, coded_fault}
use Rattle.mdl_cpu.specs.SystemFlags.{TF, IF, NT, RF, VM}
use Rattle.mdl_cpu.specs.Descriptors.{with_rpl, dpl, is_present, descriptor_at}
use Rattle.mdl_cpu.specs.Loads.{null_segment, known_plan}
use Rattle.mdl_cpu.specs.Stack.{push_plan}
use Rattle.mdl_cpu.specs.Causes.{saved_eip}
use Rattle.mdl_cpu.specs.GateDescriptors.{is_task_gate, is_interrupt_gate, is_trap_gate, gate_selector, is_wide_gate, gate_size, gate_offset, target_rows, target_plan, level_of}
use Rattle.mdl_cpu.specs.InnerStacks.{inner_stack_plan, push_stack_plan}
use Rattle.mdl_cpu.specs.Transfers.{Transfer, made, switch_to, enter_plan}

-- ---- the gate

-- a fault whose code names an entry of the interrupt descriptor table
abbrev pub gate_fault : ℕ → ℕ → Fault
gate_fault wrong vector = coded_fault wrong (8 * vector + 2)

-- the last byte of a vector's entry lies past the limit of the table
abbrev pub table_rows : Regs → ℕ → List Row
table_rows r vector = row (nat_lt r.idt_limit (8 * vector + 7)) (gate_fault 13 vector) ∷ []

-- a task gate, an interrupt gate or a trap gate
abbrev pub is_handler_gate : Desc → Bool
is_handler_gate g = is_task_gate g || is_interrupt_gate g || is_trap_gate g

-- the gate of a vector; a software interrupt needs its privilege
abbrev pub vector_rows : Regs → Cause → Desc → List Row
vector_rows r cause g =
    row (not (is_handler_gate g)) (gate_fault 13 cause.vector)
    ∷ row (cause.soft && nat_lt (dpl g) r.cpl) (gate_fault 13 cause.vector)
    ∷ row (not (is_present g)) (gate_fault 11 cause.vector)
    ∷ []

-- the gate of a vector, tested
unfoldable pub vector_plan : Regs → Cause → Plan Desc
vector_plan r cause =
    checked (first_of (table_rows r cause.vector)) (λ _.
    then_plan (descriptor_at ((r.idt_base + 8 * cause.vector) % 2 ^ 32)) (λ g.
    checked (first_of (vector_rows r cause g)) (λ _.
    Done g)))

-- ---- the handler's code

-- From V86 the gate is of the 80386, and the handler runs at level 0; conforming code would run at level 3.
abbrev pub handler_rows : Regs → Desc → Desc → List Row
handler_rows r g d =
    row (is_virtual r && not (is_wide_gate g)) (fault_at 13 (gate_selector g))
    ∷ row (is_virtual r && not (level_of r.cpl d == 0)) (fault_at 13 (gate_selector g))
    ∷ []

-- ---- the frame

-- what a handler finds on its stack, and the segment of that stack where it is a new one
pub record Frame : Type 0 where
  pub regs : Regs
  pub stack : Option StackSegment

-- the registers as protected mode has them
abbrev pub without_virtual : Regs → Regs
without_virtual r = record r { eflags = with_bit r.eflags VM 0 }

-- GS, FS, DS and ES of V86, before everything else
unfoldable pub push_segments_plan : Regs → Regs → Plan Regs
push_segments_plan old r =
    then_plan (push_plan r B4 (seg_of old Gs).sel) (λ a.
    then_plan (push_plan a B4 (seg_of old Fs).sel) (λ b.
    then_plan (push_plan b B4 (seg_of old Ds).sel) (λ c.
    push_plan c B4 (seg_of old Es).sel)))

-- on the stack of an inner level: from V86 the data segments, and then SS and ESP of the old stack
unfoldable pub inner_frame_plan : Regs → ℕ → Size → Plan Frame
inner_frame_plan r level size =
    then_plan (inner_stack_plan (without_virtual r) level) (λ s.
    then_plan (if is_virtual r then push_segments_plan r s.regs else Done s.regs) (λ a.
    then_plan (push_stack_plan r a size) (λ b.
    Done (record { regs = b; stack = Some s.segment }))))

-- on the stack of the level at which the handler runs
unfoldable pub begin_frame_plan : Regs → ℕ → Size → Plan Frame
begin_frame_plan r level size = if nat_lt level r.cpl then inner_frame_plan r level size else Done (record { regs = r; stack = None })

-- the flags that are saved: those of a fault have RF
abbrev pub saved_flags : Regs → Cause → ℕ
saved_flags r cause = if cause.fault then with_bit r.eflags RF 1 else r.eflags

-- the error code, where there is one
unfoldable pub push_code_plan : Regs → Size → Option ℕ → Plan Regs
push_code_plan r size None = Done r
push_code_plan r size (Some code) = push_plan r size code

-- EFLAGS, CS and EIP, and then the error code
unfoldable pub end_frame_plan : Regs → Regs → Cause → Size → Plan Regs
end_frame_plan old r cause size =
    then_plan (push_plan r size (saved_flags old cause % bound_of size)) (λ a.
    then_plan (push_plan a size (seg_of old Cs).sel) (λ b.
    then_plan (push_plan b size (saved_eip old cause % bound_of size)) (λ c.
    push_code_plan c size cause.code)))

-- ---- the handler

-- a new stack is accessed
unfoldable pub keep_stack_plan : Regs → Option StackSegment → Plan Regs
keep_stack_plan r None = Done r
keep_stack_plan r (Some s) = known_plan r Ss s.selector s.desc

-- TF, NT, RF and VM are 0, and behind an interrupt gate IF
abbrev pub gate_flags : Desc → ℕ → ℕ
gate_flags g flags =
    with_bit (with_bit (with_bit (with_bit (if is_interrupt_gate g then with_bit flags IF 0 else flags) TF 0) NT 0) RF 0) VM 0

-- a data segment register that can't be used
abbrev pub with_null : Regs → Seg → Regs
with_null r seg = with_seg r seg (null_segment 0)

-- from V86 the data segment registers can't be used
unfoldable pub without_segments : Regs → Regs
without_segments r = with_null (with_null (with_null (with_null r Es) Ds) Fs) Gs

-- the registers at a handler, by those at the start
unfoldable pub at_gate : Regs → Regs → Desc → Regs
at_gate old r g = record (if is_virtual old then without_segments r else r) { eflags = gate_flags g old.eflags }

-- The frame; then the EIP is tested, and the code and a new stack are accessed.
unfoldable pub handler_plan : Regs → Cause → Desc → Desc → Plan Regs
handler_plan r cause g d =
    then_plan (begin_frame_plan r (level_of r.cpl d) (gate_size g)) (λ f.
    then_plan (end_frame_plan r f.regs cause (gate_size g)) (λ a.
    then_plan (enter_plan a (with_rpl (gate_selector g) (level_of r.cpl d)) d (gate_offset g)) (λ b.
    then_plan (keep_stack_plan b f.stack) (λ c.
    Done (at_gate r c g)))))

-- the code of the gate, tested, and the handler
unfoldable pub through_code_plan : Regs → Cause → Desc → Plan Regs
through_code_plan r cause g =
    then_plan (target_plan r g (target_rows r.cpl (gate_selector g))) (λ d.
    checked (first_of (handler_rows r g d)) (λ _.
    handler_plan r cause g d))

-- a gate leads to its handler, or to the task of a TSS
unfoldable pub protected_gate_plan : Cause → Regs → Plan Transfer
protected_gate_plan cause r =
    then_plan (vector_plan r cause) (λ g.
    if is_task_gate g then switch_to r (gate_selector g)
    else then_plan (through_code_plan r cause g) made)
