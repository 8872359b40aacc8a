-- Far returns. Manual, chapters 6, 7, 14, 15 and 17, under RET and IRET.
-- Own: The order of a far transfer. Own: The rows of a far return. Own: Accessed bits of a transfer.
use Rattle.std.specs.Prelude.{ℕ, ◌+◌, ◌/◌, ◌%◌, ◌^◌, ◌==◌, ◌&&◌, not, nat_lt, Bool, false, if◌then◌else◌, List, [], ◌∷◌, slice_set}
use Rattle.mdl_state.specs.declared.Size.{Size}
use Rattle.mdl_state.specs.declared.Size.TheVariants.{B2, B4}
use Rattle.mdl_state.specs.declared.Seg.{Seg}
use Rattle.mdl_state.specs.declared.Seg.TheVariants.{Es, Ss, Ds, Fs, Gs}
use Rattle.mdl_state.specs.declared.Who.TheVariants.{Tables}
use Rattle.mdl_state.specs.declared.Regs.{Regs}
use Rattle.mdl_state.specs.declared.Hidden.{Hidden}
use Rattle.mdl_state.specs.Bytes.{bit}
use Rattle.mdl_state.specs.Registers.{seg_of, with_seg}
use Rattle.mdl_state.specs.Attempt.{Plan, Done, Load, then_plan, checked}
use Rattle.mdl_cpu.specs.declared.Desc.{Desc}
use Rattle.mdl_cpu.specs.Segments as segment
use Rattle.mdl_cpu.specs.Faults.{Row, row, first_of, fault_at, general_protection}
use Rattle.mdl_cpu.specs.SystemFlags.{NT, RF, VM, taken_flags, with_flags_from}
use Rattle.mdl_cpu.specs.Descriptors.{is_null, rpl, dpl, is_present, is_code, is_conforming, descriptor_plan}
use Rattle.mdl_cpu.specs.Loads.{null_segment, virtual_segment, known_plan, not_present, stack_plan}
use Rattle.mdl_cpu.specs.Stack.{with_top, above_top, pop_plan}
use Rattle.mdl_cpu.specs.Transfers.{Transfer, made, switch_to, in_mode, real_code_plan, virtual_code_plan, enter_plan}
use Rattle.mdl_cpu.specs.Virtual.{sensitive_rows}

-- ---- flags

-- The flags that IRET takes, as bits. A doubleword gives RF as well; none gives VM. A word leaves both.
abbrev pub returned_flags : Regs → Size → ℕ
returned_flags r B4 = taken_flags r + 2 ^ RF
returned_flags r _ = taken_flags r

-- ---- without descriptors, with the load of CS of real mode or of V86

-- RETF: EIP and CS are popped, and then so many bytes more are taken off the stack. Of a doubleword that is
-- popped into CS the low word is the selector.
abbrev pub plain_return_plan : (Regs → ℕ → ℕ → Plan Regs) → Regs → Size → ℕ → Plan Regs
plain_return_plan code r size drop =
    then_plan (pop_plan r size) (λ eip.
    then_plan (pop_plan eip.1 size) (λ cs.
    then_plan (code cs.1 (cs.0 % 2 ^ 16) eip.0) (λ q.
    Done (with_top q (above_top q drop)))))

-- IRET: EIP, CS and EFLAGS are popped, all of them before the new EIP is tested. NT is not asked, and VM stays. IOPL
-- stays in V86, as at each level above 0.
abbrev pub plain_interrupt_return_plan : (Regs → ℕ → ℕ → Plan Regs) → Regs → Size → Plan Transfer
plain_interrupt_return_plan code r size =
    then_plan (pop_plan r size) (λ eip.
    then_plan (pop_plan eip.1 size) (λ cs.
    then_plan (pop_plan cs.1 size) (λ image.
    then_plan (code image.1 (cs.0 % 2 ^ 16) eip.0) (λ q.
    made (record q { eflags = with_flags_from image.0 (returned_flags r size) r.eflags })))))

-- in V86 it is a sensitive instruction
unfoldable pub virtual_interrupt_return_plan : Regs → Size → Plan Transfer
virtual_interrupt_return_plan r size =
    checked (first_of (sensitive_rows r)) (λ _. plain_interrupt_return_plan virtual_code_plan r size)

-- ---- in protected mode

-- the selector that comes off the stack into CS
abbrev pub return_selector_rows : ℕ → ℕ → List Row
return_selector_rows cpl sel =
    row (is_null sel) (general_protection 0)
    ∷ row (nat_lt (rpl sel) cpl) (fault_at 13 sel)
    ∷ []

-- the code of that selector, behind the row on its table
abbrev pub return_code_rows : ℕ → Desc → List Row
return_code_rows sel d =
    row (not (is_code d)) (fault_at 13 sel)
    ∷ row (is_conforming d && nat_lt (rpl sel) (dpl d)) (fault_at 13 sel)
    ∷ row (not (is_conforming d) && not (dpl d == rpl sel)) (fault_at 13 sel)
    ∷ row (not (is_present d)) (not_present sel)
    ∷ []

-- so many bytes more off the stack
abbrev pub dropped : Regs → ℕ → Regs
dropped r bytes = with_top r (above_top r bytes)

-- to the same level
unfoldable pub same_return_plan : Regs → ℕ → ℕ → ℕ → Desc → Plan Regs
same_return_plan r drop eip sel d = enter_plan (dropped r drop) sel d eip

-- a segment that is too privileged for a level: data, or code that does not conform, with DPL below it
abbrev pub is_too_inner : ℕ → Hidden → Bool
is_too_inner level h =
    not (segment.is_unusable h) && not (segment.is_code h && bit h.rights 2) && nat_lt (h.rights / 2 ^ 5 % 4) level

-- such a data segment register can't be used at the outer level
abbrev pub for_level : ℕ → Hidden → Hidden
for_level level h = if is_too_inner level h then null_segment 0 else h

-- one register, and all four of them
abbrev pub with_level : Regs → Seg → ℕ → Regs
with_level r seg level = with_seg r seg (for_level level (seg_of r seg))

unfoldable pub lowered : Regs → ℕ → Regs
lowered r level = with_level (with_level (with_level (with_level r Es level) Ds level) Fs level) Gs level

-- the registers at an outer level, with the ESP of its stack. Own: ESP of an outer stack.
abbrev pub at_level : Regs → ℕ → ℕ → Regs
at_level r level esp = record r { cpl = level; gpr = slice_set r.gpr 4 esp }

-- To an outer level: behind the parameters ESP and SS are popped, and the stack is tested; then EIP is tested, and the
-- code and the stack are accessed. The parameters are taken off both stacks.
unfoldable pub outer_return_plan : Regs → Size → ℕ → ℕ → ℕ → Desc → Plan Regs
outer_return_plan r size drop eip sel d =
    then_plan (pop_plan (dropped r drop) size) (λ esp.
    then_plan (pop_plan esp.1 size) (λ ss.
    then_plan (stack_plan 13 (rpl sel) ss.1 (ss.0 % 2 ^ 16)) (λ e.
    then_plan (enter_plan (at_level ss.1 (rpl sel) esp.0) sel d eip) (λ a.
    then_plan (known_plan a Ss (ss.0 % 2 ^ 16) e) (λ b.
    Done (lowered (dropped b drop) (rpl sel)))))))

-- behind EIP and CS, and behind EFLAGS where that is popped: the code is tested, and the level decides
unfoldable pub return_to_plan : Regs → Size → ℕ → ℕ → ℕ → Plan Regs
return_to_plan r size drop eip sel =
    checked (first_of (return_selector_rows r.cpl sel)) (λ _.
    then_plan (descriptor_plan r sel 13) (λ d.
    checked (first_of (return_code_rows sel d)) (λ _.
    if rpl sel == r.cpl then same_return_plan r drop eip sel d
    else outer_return_plan r size drop eip sel d)))

-- RETF
unfoldable pub protected_return_plan : Regs → Size → ℕ → Plan Regs
protected_return_plan r size drop =
    then_plan (pop_plan r size) (λ eip.
    then_plan (pop_plan eip.1 size) (λ cs.
    return_to_plan cs.1 size drop eip.0 (cs.0 % 2 ^ 16)))

-- ---- IRET in protected mode

-- the six segment registers of V86
unfoldable pub virtual_segments : Regs → ℕ → ℕ → ℕ → ℕ → ℕ → ℕ → Regs
virtual_segments r es cs ss ds fs gs = record r {
  seg = virtual_segment es ∷ virtual_segment cs ∷ virtual_segment ss ∷ virtual_segment ds ∷ virtual_segment fs ∷ virtual_segment gs ∷ [];
}

-- the registers in V86, at level 3
abbrev pub at_virtual : Regs → ℕ → ℕ → ℕ → Regs
at_virtual r eip esp eflags = record r { cpl = 3; eip = eip; eflags = eflags; gpr = slice_set r.gpr 4 esp }

-- An EIP of V86 has 16 bits. Own: EIP of a return to V86.
abbrev pub virtual_rows : ℕ → List Row
virtual_rows eip = row (nat_lt 0xFFFF eip) (general_protection 0) ∷ []

-- To V86: behind EFLAGS come ESP, SS, ES, DS, FS and GS. Every flag is taken, VM among them.
unfoldable pub return_to_virtual_plan : Regs → Regs → ℕ → ℕ → ℕ → Plan Regs
return_to_virtual_plan old r eip cs image =
    then_plan (pop_plan r B4) (λ esp.
    then_plan (pop_plan esp.1 B4) (λ ss.
    then_plan (pop_plan ss.1 B4) (λ es.
    then_plan (pop_plan es.1 B4) (λ ds.
    then_plan (pop_plan ds.1 B4) (λ fs.
    then_plan (pop_plan fs.1 B4) (λ gs.
    checked (first_of (virtual_rows eip)) (λ _.
    Done (virtual_segments (at_virtual gs.1 eip esp.0 (with_flags_from image (returned_flags old B4 + 2 ^ VM) old.eflags))
    (es.0 % 2 ^ 16) (cs % 2 ^ 16) (ss.0 % 2 ^ 16) (ds.0 % 2 ^ 16) (fs.0 % 2 ^ 16) (gs.0 % 2 ^ 16)))))))))

-- a doubleword gives VM, at level 0
abbrev pub gives_virtual : Regs → Size → ℕ → Bool
gives_virtual r B4 image = r.cpl == 0 && bit image VM
gives_virtual r _ image = false

-- the three words are popped, and the return is to V86 or to code with a descriptor; the flags go by the old level
unfoldable pub popped_return_plan : Regs → Size → Plan Regs
popped_return_plan r size =
    then_plan (pop_plan r size) (λ eip.
    then_plan (pop_plan eip.1 size) (λ cs.
    then_plan (pop_plan cs.1 size) (λ image.
    if gives_virtual r size image.0 then return_to_virtual_plan r image.1 eip.0 cs.0 image.0
    else then_plan (return_to_plan image.1 size 0 eip.0 (cs.0 % 2 ^ 16)) (λ q.
    Done (record q { eflags = with_flags_from image.0 (returned_flags r size) r.eflags })))))

-- with NT a switch to the task of the link follows, which the TSS of TR begins with
unfoldable pub protected_interrupt_return_plan : Regs → Size → Plan Transfer
protected_interrupt_return_plan r size =
    if bit r.eflags NT then Load r.tr.base B2 Tables (λ link. switch_to r link)
    else then_plan (popped_return_plan r size) made

-- ---- by the mode

-- RETF, which then takes so many bytes more off the stack
unfoldable pub return_far_plan : Regs → Size → ℕ → Plan Regs
return_far_plan r size drop = in_mode r
    (plain_return_plan real_code_plan r size drop)
    (plain_return_plan virtual_code_plan r size drop)
    (protected_return_plan r size drop)

-- IRET
unfoldable pub interrupt_return_plan : Regs → Size → Plan Transfer
interrupt_return_plan r size = in_mode r
    (plain_interrupt_return_plan real_code_plan r size)
    (virtual_interrupt_return_plan r size)
    (protected_interrupt_return_plan r size)
