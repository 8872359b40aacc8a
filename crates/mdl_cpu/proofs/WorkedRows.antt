-- Worked rows of gates, returns, task switches and ports, as values of the definitions. Manual, chapters 6 to 9 and 15.
use Rattle.mdl_cpu.specs.Access.{legal}
use Rattle.mdl_cpu.specs.Causes.{fault_cause}
use Rattle.mdl_cpu.specs.Delivery.{Arrival}
use Rattle.mdl_cpu.specs.Descriptors.{unpack, is_outside, place_of, descriptor_at, descriptor_plan, mark_plan, accessed_plan}
use Rattle.mdl_cpu.specs.DoubleFault.{combine}
use Rattle.mdl_cpu.specs.Faults.{undefined_opcode}
use Rattle.mdl_cpu.specs.GateDescriptors.{target_plan}
use Rattle.mdl_cpu.specs.Gates.{gate_way_plan}
use Rattle.mdl_cpu.specs.InnerStacks.{on_stack, inner_stack_plan, push_stack_plan, parameter_plan, parameters_plan}
use Rattle.mdl_cpu.specs.InterruptGates.{protected_gate_plan, vector_plan, through_code_plan, handler_plan, begin_frame_plan, inner_frame_plan, push_segments_plan, end_frame_plan, push_code_plan, keep_stack_plan, without_segments, at_gate}
use Rattle.mdl_cpu.specs.Loads.{virtual_segment, known_plan, stack_plan, data_plan}
use Rattle.mdl_cpu.specs.NewTask.{begun, ldt_stage, virtual_stage, code_stage, stack_stage, limit_stage, code_word_stage}
use Rattle.mdl_cpu.specs.OldTask.{old_plan}
use Rattle.mdl_cpu.specs.Returns.{protected_return_plan, protected_interrupt_return_plan, return_to_plan, same_return_plan, outer_return_plan, lowered, virtual_segments, return_to_virtual_plan, popped_return_plan}
use Rattle.mdl_cpu.specs.Stack.{push_plan, pop_plan}
use Rattle.mdl_cpu.specs.Switch.{Left, switch, new_part}
use Rattle.mdl_cpu.specs.TaskDeliveries.{delivered_by_gate, deliver_by_gate, deliveries_by_gate}
use Rattle.mdl_cpu.specs.TaskSegments.{level_stack_plan}
use Rattle.mdl_cpu.specs.Tasks.{reads_plan, writes_plan, read_image_plan, save_image_plan, image_of, free_plan, busy_bits_plan, link_plan}
use Rattle.mdl_cpu.specs.Transfers.{Transfer, protected_call_plan, protected_jump_plan, enter_plan, call_gate_plan, inner_call_plan, same_call_plan, jump_code_plan, call_code_plan, push_place_plan, task_gate_plan, jump_gate_plan, land_plan, virtual_code_plan}
use Rattle.mdl_cpu.specs.Virtual.{port_plan}
use Rattle.mdl_cpu.specs.declared.Cause.{Cause}
use Rattle.mdl_cpu.specs.declared.Request.{Request}
use Rattle.mdl_cpu.specs.declared.Switched.{Switched}
use Rattle.mdl_num.specs.Flags.{with_bit}
use Rattle.mdl_state.specs.Accesses.{got, translated, seen_byte, got_from, held_bytes, read_at, written_at, committed, discarded}
use Rattle.mdl_state.specs.Attempt.{tried, then_plan}
use Rattle.mdl_state.specs.Boot.{reset_regs, plain_mem}
use Rattle.mdl_state.specs.Bytes.{little_bytes, with_bytes}
use Rattle.mdl_state.specs.Memory.{byte_at, placed}
use Rattle.mdl_state.specs.Registers.{seg_of, reg_of, with_reg, with_seg}
use Rattle.mdl_state.specs.Serving.{Serve, Outcome, Passed, Failed, NoStep}
use Rattle.mdl_state.specs.State.{Mem}
use Rattle.mdl_state.specs.declared.Activity.{Activity}
use Rattle.mdl_state.specs.declared.Hidden.{Hidden}
use Rattle.mdl_state.specs.declared.Regs.{Regs}
use Rattle.mdl_state.specs.declared.Seg.TheVariants.{Es, Cs, Ss, Ds, Gs}
use Rattle.mdl_state.specs.declared.Size.TheVariants.{B1, B2, B4}
use Rattle.std.proofs.Common.{◌≡◌, ℕ, Bool, true, false, refl, [], None}
use Rattle.std.specs.Prelude.{◌+◌, ◌*◌, List, ◌∷◌, replicate, slice_index}
use Rattle.mdl_state.specs.declared.Activity.TheVariants as activity
use Rattle.mdl_cpu.specs.declared.Reason.TheVariants as reason
use Rattle.mdl_cpu.specs.declared.Switched.TheVariants as switched

abbrev dword : ℕ → ℕ → List ℕ → List ℕ
dword at value ram = with_bytes ram at (little_bytes 4 value)

-- GDT at 40: 8 code, 10 data, 18 user code, 20 user data, 28 TSS busy at 200, 30 call gate, 38 TSS at 300, 40 absent data
abbrev base_ram : List ℕ
base_ram =
    dword 0x48 0x0000FFFF (dword 0x4C 0x00CF9A00 (dword 0x50 0x0000FFFF (dword 0x54 0x00CF9200
    (dword 0x58 0x0000FFFF (dword 0x5C 0x00CFFA00 (dword 0x60 0x0000FFFF (dword 0x64 0x00CFF200
    (dword 0x68 0x02000067 (dword 0x6C 0x00008B00 (dword 0x70 0x00081000 (dword 0x74 0x0000EC02
    (dword 0x78 0x03000067 (dword 0x7C 0x00008900 (dword 0x80 0x0000FFFF (dword 0x84 0x00CF1200
    (dword 0x204 0x300 (dword 0x208 0x10
    (replicate 0x400 0))))))))))))))))))

abbrev mem_of : List ℕ → Mem
mem_of ram = plain_mem (record { ram = ram; rom = []; a20 = true })

abbrev flat : ℕ → ℕ → Hidden
flat sel rights = record { sel = sel; base = 0; limit = 0xFFFFFFFF; rights = rights }

abbrev fault_of : {A : Type 0} → Outcome A → ℕ
fault_of (Passed x) = 0
fault_of (Failed f) = 0x10000 * f.vector + f.code
fault_of NoStep = 7

abbrev is_shutdown : Activity → Bool
is_shutdown activity.Shutdown = true
is_shutdown _ = false

abbrev ends_shut : Outcome Arrival → Bool
ends_shut (Passed a) = is_shutdown a.activity
ends_shut _ = false

-- level 3
abbrev user_regs : Regs
user_regs = record reset_regs {
  gpr = 0x11 ∷ 0 ∷ 0 ∷ 0 ∷ 0x150 ∷ 0 ∷ 0 ∷ 0 ∷ [];
  eip = 0x77;
  eflags = 2;
  seg = flat 0x23 0xC0F3 ∷ flat 0x1B 0xC0FB ∷ flat 0x23 0xC0F3 ∷ flat 0x23 0xC0F3 ∷ flat 0 0 ∷ flat 0 0 ∷ [];
  tr = record { sel = 0x28; base = 0x200; limit = 0x67; rights = 0x8B };
  gdt_base = 0x40;
  gdt_limit = 0x47;
  idt_base = 0x100;
  idt_limit = 0;
  cr0 = 1;
  cpl = 3;
}

-- level 0
abbrev kernel_regs : Regs
kernel_regs = record user_regs {
  gpr = 0x11 ∷ 0 ∷ 0 ∷ 0 ∷ 0x2E8 ∷ 0 ∷ 0 ∷ 0 ∷ [];
  seg = flat 0x23 0xC0F3 ∷ flat 0x08 0xC09B ∷ flat 0x10 0xC093 ∷ flat 0x10 0xC093 ∷ flat 0 0 ∷ flat 0 0 ∷ [];
  cpl = 0;
}

abbrev by_transfer : {A : Type 0} → Outcome A × Mem → (A → ℕ) → ℕ
by_transfer (Passed t, m) f = f t
by_transfer (Failed fault, m) f = 0xF0000 + 0x10000 * fault.vector + fault.code
by_transfer (NoStep, m) f = 0xE0000

abbrev word_at : {A : Type 0} → ℕ → Outcome A × Mem → ℕ
word_at at w = got w.1 (record { first = at; second = 0; cut = 4 }) B4

abbrev byte_of : {A : Type 0} → ℕ → A × Mem → ℕ
byte_of at w = got w.1 (record { first = at; second = 0; cut = 4 }) B1

abbrev code_of : Outcome Switched → ℕ
code_of (Passed (switched.Done t)) = 1
code_of (Passed (switched.OldFault f)) = 0x1000000 + 0x10000 * f.vector + f.code
code_of (Passed (switched.NewFault f)) = 0x2000000 + 0x10000 * f.vector + f.code
code_of _ = 0

abbrev asked : Request
asked = record { selector = 0x38; reason = reason.Jump; direct = true; back = 0x55; code = None; ext = false; fault = false }

abbrev call_asked : Request
call_asked = record asked { reason = reason.Call }

-- TSS B: CS 8, SS 40 absent
abbrev task_ram : ℕ → List ℕ
task_ram ss = dword 0x320 0x1234 (dword 0x324 0x2 (dword 0x328 0x99 (dword 0x338 0x2E8 (dword 0x34C 8 (dword 0x350 ss base_ram)))))

abbrev short_ram : List ℕ
short_ram = dword 0x78 0x03000066 (task_ram 0x10)

abbrev call_ram : List ℕ
call_ram = dword 0x150 0xAAAA (dword 0x154 0xBBBB base_ram)

abbrev return_ram : List ℕ
return_ram = dword 0x2E8 0x77 (dword 0x2EC 0x1B (dword 0x2F0 0xAAAA (dword 0x2F4 0xBBBB (dword 0x2F8 0x150 (dword 0x2FC 0x23 base_ram)))))

abbrev virtual_ram : List ℕ
virtual_ram = dword 0x2D8 0x77 (dword 0x2DC 0x22 (dword 0x2E0 0x32002 (dword 0x2E4 0xABCD (dword 0x2E8 0x33 (dword 0x2EC 0x11 (dword 0x2F0 0x44 (dword 0x2F4 0x55 (dword 0x2F8 0x66 base_ram))))))))

abbrev io_regs : ℕ → Regs
io_regs limit = record user_regs { tr = record { sel = 0x28; base = 0x200; limit = limit; rights = 0x8B } }

abbrev io_ram : List ℕ
io_ram = dword 0x264 0x00680000 (dword 0x268 0x0000FF00 base_ram)

-- V86 with IOPL 2, and a gate for vector 13 whose handler is the kernel's
abbrev virtual_regs : Regs
virtual_regs = record user_regs {
  gpr = 0 ∷ 0 ∷ 0 ∷ 0 ∷ 0xABCD ∷ 0 ∷ 0 ∷ 0 ∷ [];
  eflags = 0x22002;
  seg = virtual_segment 0x11 ∷ virtual_segment 0x22 ∷ virtual_segment 0x33 ∷ virtual_segment 0x44 ∷ virtual_segment 0x55 ∷ virtual_segment 0x66 ∷ [];
  idt_limit = 0x6F;
}

abbrev gate_ram : List ℕ
gate_ram = dword 0x168 0x00081000 (dword 0x16C 0x0000EE00 base_ram)

-- a task gate for vector 13 to TSS B
abbrev task_gate_ram : List ℕ
task_gate_ram = dword 0x168 0x00380000 (dword 0x16C 0x00008500 (task_ram 0x10))

abbrev protection_cause : Cause
protection_cause = fault_cause virtual_regs (record { vector = 13; code = 0; addr = 0 })

module _ (serve : Serve) where
  abbrev call : Outcome Transfer × Mem
  call = tried serve 0 (protected_call_plan user_regs 0x33 0 B4 0x77) (mem_of call_ram)

  abbrev ret : Outcome Regs × Mem
  ret = tried serve 0 (protected_return_plan kernel_regs B4 8) (mem_of return_ram)

  abbrev iret : Outcome Transfer × Mem
  iret = tried serve 0 (protected_interrupt_return_plan (record kernel_regs { gpr = 0x11 ∷ 0 ∷ 0 ∷ 0 ∷ 0x2D8 ∷ 0 ∷ 0 ∷ 0 ∷ [] }) B4) (mem_of virtual_ram)

  abbrev task : ℕ → Left Switched × Mem
  task ss = switch serve kernel_regs asked (mem_of (task_ram ss))

  abbrev called : Left Switched × Mem
  called = switch serve kernel_regs call_asked (mem_of (task_ram 0x10))

  abbrev short : Left Switched × Mem
  short = switch serve kernel_regs asked (mem_of short_ram)

  abbrev handler : Left Bool × Mem
  handler = delivered_by_gate serve protection_cause virtual_regs (mem_of gate_ram)

  abbrev by_task : Left Bool × Mem
  by_task = delivered_by_gate serve protection_cause (record kernel_regs { idt_limit = 0x6F }) (mem_of task_gate_ram)

  abbrev undefined : Left Bool × Mem
  undefined = delivered_by_gate serve (fault_cause user_regs undefined_opcode) user_regs (mem_of base_ram)

  abbrev chain : Outcome Arrival × Mem
  chain = deliver_by_gate serve (fault_cause user_regs undefined_opcode) user_regs (mem_of base_ram)

  abbrev io : ℕ → ℕ → Outcome (Unit {0}) × Mem
  io limit port = tried serve 0 (port_plan (io_regs limit) port B2) (mem_of io_ram)

  -- a call by a gate of the 80386 to level 0, with two parameters
  a_call_inward :
      (by_transfer call (λ t. slice_index t.regs.gpr 4) ≡ 0x2E8)
      × (word_at 0x2FC call ≡ 0x23)
      × (word_at 0x2F8 call ≡ 0x150)
      × (word_at 0x2F4 call ≡ 0xBBBB)
      × (word_at 0x2F0 call ≡ 0xAAAA)
      × (word_at 0x2EC call ≡ 0x1B)
      × (word_at 0x2E8 call ≡ 0x77)
      × (by_transfer call (λ t. t.regs.eip) ≡ 0x1000)
      × (by_transfer call (λ t. (seg_of t.regs Cs).sel) ≡ 8)
      × (by_transfer call (λ t. t.regs.cpl) ≡ 0)
  unfolding with_bit protected_gate_plan vector_plan through_code_plan handler_plan begin_frame_plan inner_frame_plan push_segments_plan end_frame_plan push_code_plan keep_stack_plan without_segments at_gate on_stack inner_stack_plan push_stack_plan parameter_plan parameters_plan level_stack_plan target_plan enter_plan protected_call_plan protected_jump_plan call_gate_plan inner_call_plan same_call_plan jump_code_plan call_code_plan push_place_plan task_gate_plan jump_gate_plan land_plan virtual_code_plan is_outside place_of unpack descriptor_at descriptor_plan mark_plan accessed_plan known_plan stack_plan data_plan push_plan pop_plan legal seg_of reg_of with_reg with_seg then_plan translated seen_byte got_from held_bytes read_at written_at committed discarded byte_at placed protected_return_plan return_to_plan same_return_plan outer_return_plan lowered virtual_segments return_to_virtual_plan popped_return_plan protected_interrupt_return_plan port_plan old_plan begun ldt_stage virtual_stage code_stage stack_stage limit_stage code_word_stage new_part switch reads_plan writes_plan read_image_plan save_image_plan image_of free_plan busy_bits_plan link_plan gate_way_plan delivered_by_gate deliveries_by_gate deliver_by_gate combine
  a_call_inward = (refl, refl, refl, refl, refl, refl, refl, refl, refl, refl)

  -- the return from it, by RETF 8
  a_return_outward :
      (by_transfer ret (λ r. slice_index r.gpr 4) ≡ 0x158)
      × (by_transfer ret (λ r. r.cpl) ≡ 3)
      × (by_transfer ret (λ r. (seg_of r Ds).sel) ≡ 0)
      × (by_transfer ret (λ r. (seg_of r Es).sel) ≡ 0x23)
      × (by_transfer ret (λ r. (seg_of r Ss).sel) ≡ 0x23)
  unfolding with_bit protected_gate_plan vector_plan through_code_plan handler_plan begin_frame_plan inner_frame_plan push_segments_plan end_frame_plan push_code_plan keep_stack_plan without_segments at_gate on_stack inner_stack_plan push_stack_plan parameter_plan parameters_plan level_stack_plan target_plan enter_plan protected_call_plan protected_jump_plan call_gate_plan inner_call_plan same_call_plan jump_code_plan call_code_plan push_place_plan task_gate_plan jump_gate_plan land_plan virtual_code_plan is_outside place_of unpack descriptor_at descriptor_plan mark_plan accessed_plan known_plan stack_plan data_plan push_plan pop_plan legal seg_of reg_of with_reg with_seg then_plan translated seen_byte got_from held_bytes read_at written_at committed discarded byte_at placed protected_return_plan return_to_plan same_return_plan outer_return_plan lowered virtual_segments return_to_virtual_plan popped_return_plan protected_interrupt_return_plan port_plan old_plan begun ldt_stage virtual_stage code_stage stack_stage limit_stage code_word_stage new_part switch reads_plan writes_plan read_image_plan save_image_plan image_of free_plan busy_bits_plan link_plan gate_way_plan delivered_by_gate deliveries_by_gate deliver_by_gate combine
  a_return_outward = (refl, refl, refl, refl, refl)

  -- IRET to V86
  a_return_to_virtual :
      (by_transfer iret (λ t. t.regs.eflags) ≡ 0x32002)
      × (by_transfer iret (λ t. slice_index t.regs.gpr 4) ≡ 0xABCD)
      × (by_transfer iret (λ t. (seg_of t.regs Cs).base) ≡ 0x220)
      × (by_transfer iret (λ t. (seg_of t.regs Gs).sel) ≡ 0x66)
      × (by_transfer iret (λ t. t.regs.cpl) ≡ 3)
  unfolding with_bit protected_gate_plan vector_plan through_code_plan handler_plan begin_frame_plan inner_frame_plan push_segments_plan end_frame_plan push_code_plan keep_stack_plan without_segments at_gate on_stack inner_stack_plan push_stack_plan parameter_plan parameters_plan level_stack_plan target_plan enter_plan protected_call_plan protected_jump_plan call_gate_plan inner_call_plan same_call_plan jump_code_plan call_code_plan push_place_plan task_gate_plan jump_gate_plan land_plan virtual_code_plan is_outside place_of unpack descriptor_at descriptor_plan mark_plan accessed_plan known_plan stack_plan data_plan push_plan pop_plan legal seg_of reg_of with_reg with_seg then_plan translated seen_byte got_from held_bytes read_at written_at committed discarded byte_at placed protected_return_plan return_to_plan same_return_plan outer_return_plan lowered virtual_segments return_to_virtual_plan popped_return_plan protected_interrupt_return_plan port_plan old_plan begun ldt_stage virtual_stage code_stage stack_stage limit_stage code_word_stage new_part switch reads_plan writes_plan read_image_plan save_image_plan image_of free_plan busy_bits_plan link_plan gate_way_plan delivered_by_gate deliveries_by_gate deliver_by_gate combine
  a_return_to_virtual = (refl, refl, refl, refl, refl)

  -- JMP to a TSS that is too short, to one whose stack is not present, and to one that is whole; CALL to that
  switches :
      (code_of short.0.outcome ≡ 0x10A0038)
      × (code_of (task 0x40).0.outcome ≡ 0x20C0040)
      × ((task 0x40).0.regs.tr.sel ≡ 0x38)
      × (slice_index (task 0x40).0.regs.gpr 0 ≡ 0x99)
      × ((seg_of (task 0x40).0.regs Cs).rights ≡ 0xC09A)
      × ((seg_of (task 0x40).0.regs Ss).rights ≡ 0)
      × (byte_of 0x6D (task 0x40) ≡ 0x89)
      × (byte_of 0x7D (task 0x40) ≡ 0x8B)
      × (byte_of 0x4D (task 0x40) ≡ 0x9A)
      × (byte_of 0x220 (task 0x40) ≡ 0x55)
      × (byte_of 0x228 (task 0x40) ≡ 0x11)
      × (byte_of 0x254 (task 0x40) ≡ 0x10)
      × (code_of (task 0x10).0.outcome ≡ 1)
      × (byte_of 0x4D (task 0x10) ≡ 0x9B)
      × ((task 0x10).0.regs.eflags ≡ 2)
      × ((task 0x10).0.regs.cr0 ≡ 9)
      × (called.0.regs.eflags ≡ 0x4002)
      × (byte_of 0x300 called ≡ 0x28)
      × (byte_of 0x6D called ≡ 0x8B)
  unfolding with_bit protected_gate_plan vector_plan through_code_plan handler_plan begin_frame_plan inner_frame_plan push_segments_plan end_frame_plan push_code_plan keep_stack_plan without_segments at_gate on_stack inner_stack_plan push_stack_plan parameter_plan parameters_plan level_stack_plan target_plan enter_plan protected_call_plan protected_jump_plan call_gate_plan inner_call_plan same_call_plan jump_code_plan call_code_plan push_place_plan task_gate_plan jump_gate_plan land_plan virtual_code_plan is_outside place_of unpack descriptor_at descriptor_plan mark_plan accessed_plan known_plan stack_plan data_plan push_plan pop_plan legal seg_of reg_of with_reg with_seg then_plan translated seen_byte got_from held_bytes read_at written_at committed discarded byte_at placed protected_return_plan return_to_plan same_return_plan outer_return_plan lowered virtual_segments return_to_virtual_plan popped_return_plan protected_interrupt_return_plan port_plan old_plan begun ldt_stage virtual_stage code_stage stack_stage limit_stage code_word_stage new_part switch reads_plan writes_plan read_image_plan save_image_plan image_of free_plan busy_bits_plan link_plan gate_way_plan delivered_by_gate deliveries_by_gate deliver_by_gate combine
  switches = (refl, refl, refl, refl, refl, refl, refl, refl, refl, refl, refl, refl, refl, refl, refl, refl, refl, refl, refl)

  -- words of ports by a bitmap of one byte, with a limit that is one too small, with one that is right, and at the last port of a byte
  ports :
      (by_transfer (io 0x68 0) (λ _. 1) ≡ 0x1C0000)
      × (by_transfer (io 0x69 0) (λ _. 1) ≡ 1)
      × (by_transfer (io 0x69 7) (λ _. 1) ≡ 0x1C0000)
  unfolding with_bit protected_gate_plan vector_plan through_code_plan handler_plan begin_frame_plan inner_frame_plan push_segments_plan end_frame_plan push_code_plan keep_stack_plan without_segments at_gate on_stack inner_stack_plan push_stack_plan parameter_plan parameters_plan level_stack_plan target_plan enter_plan protected_call_plan protected_jump_plan call_gate_plan inner_call_plan same_call_plan jump_code_plan call_code_plan push_place_plan task_gate_plan jump_gate_plan land_plan virtual_code_plan is_outside place_of unpack descriptor_at descriptor_plan mark_plan accessed_plan known_plan stack_plan data_plan push_plan pop_plan legal seg_of reg_of with_reg with_seg then_plan translated seen_byte got_from held_bytes read_at written_at committed discarded byte_at placed protected_return_plan return_to_plan same_return_plan outer_return_plan lowered virtual_segments return_to_virtual_plan popped_return_plan protected_interrupt_return_plan port_plan old_plan begun ldt_stage virtual_stage code_stage stack_stage limit_stage code_word_stage new_part switch reads_plan writes_plan read_image_plan save_image_plan image_of free_plan busy_bits_plan link_plan gate_way_plan delivered_by_gate deliveries_by_gate deliver_by_gate combine
  ports = (refl, refl, refl)

  -- a general protection fault in V86 with IOPL 2, by a gate to level 0
  a_handler_of_virtual :
      (slice_index handler.0.regs.gpr 4 ≡ 0x2D8)
      × (handler.0.regs.eflags ≡ 0x2002)
      × ((seg_of handler.0.regs Cs).sel ≡ 8)
      × ((seg_of handler.0.regs Es).rights ≡ 0)
      × (byte_of 0x2D8 handler ≡ 0)
      × (byte_of 0x2DC handler ≡ 0x77)
      × (byte_of 0x2E0 handler ≡ 0x22)
      × (byte_of 0x2E6 handler ≡ 3)
      × (byte_of 0x2E5 handler ≡ 0x20)
      × (byte_of 0x2E9 handler ≡ 0xAB)
      × (byte_of 0x2EC handler ≡ 0x33)
      × (byte_of 0x2F0 handler ≡ 0x11)
      × (byte_of 0x2F4 handler ≡ 0x44)
      × (byte_of 0x2F8 handler ≡ 0x55)
      × (byte_of 0x2FC handler ≡ 0x66)
  unfolding with_bit protected_gate_plan vector_plan through_code_plan handler_plan begin_frame_plan inner_frame_plan push_segments_plan end_frame_plan push_code_plan keep_stack_plan without_segments at_gate on_stack inner_stack_plan push_stack_plan parameter_plan parameters_plan level_stack_plan target_plan enter_plan protected_call_plan protected_jump_plan call_gate_plan inner_call_plan same_call_plan jump_code_plan call_code_plan push_place_plan task_gate_plan jump_gate_plan land_plan virtual_code_plan is_outside place_of unpack descriptor_at descriptor_plan mark_plan accessed_plan known_plan stack_plan data_plan push_plan pop_plan legal seg_of reg_of with_reg with_seg then_plan translated seen_byte got_from held_bytes read_at written_at committed discarded byte_at placed protected_return_plan return_to_plan same_return_plan outer_return_plan lowered virtual_segments return_to_virtual_plan popped_return_plan protected_interrupt_return_plan port_plan old_plan begun ldt_stage virtual_stage code_stage stack_stage limit_stage code_word_stage new_part switch reads_plan writes_plan read_image_plan save_image_plan image_of free_plan busy_bits_plan link_plan gate_way_plan delivered_by_gate deliveries_by_gate deliver_by_gate combine
  a_handler_of_virtual = (refl, refl, refl, refl, refl, refl, refl, refl, refl, refl, refl, refl, refl, refl, refl)

  -- the same at level 0, by a task gate
  a_task_gate :
      (by_task.0.regs.tr.sel ≡ 0x38)
      × (slice_index by_task.0.regs.gpr 4 ≡ 0x2E4)
      × (by_task.0.regs.eflags ≡ 0x4002)
      × (byte_of 0x300 by_task ≡ 0x28)
      × (byte_of 0x226 by_task ≡ 1)
  unfolding with_bit protected_gate_plan vector_plan through_code_plan handler_plan begin_frame_plan inner_frame_plan push_segments_plan end_frame_plan push_code_plan keep_stack_plan without_segments at_gate on_stack inner_stack_plan push_stack_plan parameter_plan parameters_plan level_stack_plan target_plan enter_plan protected_call_plan protected_jump_plan call_gate_plan inner_call_plan same_call_plan jump_code_plan call_code_plan push_place_plan task_gate_plan jump_gate_plan land_plan virtual_code_plan is_outside place_of unpack descriptor_at descriptor_plan mark_plan accessed_plan known_plan stack_plan data_plan push_plan pop_plan legal seg_of reg_of with_reg with_seg then_plan translated seen_byte got_from held_bytes read_at written_at committed discarded byte_at placed protected_return_plan return_to_plan same_return_plan outer_return_plan lowered virtual_segments return_to_virtual_plan popped_return_plan protected_interrupt_return_plan port_plan old_plan begun ldt_stage virtual_stage code_stage stack_stage limit_stage code_word_stage new_part switch reads_plan writes_plan read_image_plan save_image_plan image_of free_plan busy_bits_plan link_plan gate_way_plan delivered_by_gate deliveries_by_gate deliver_by_gate combine
  a_task_gate = (refl, refl, refl, refl, refl)

  -- an undefined instruction with no table: the fault behind it, and then shutdown
  no_gates :
      (fault_of undefined.0.outcome ≡ 0xD0033)
      × (ends_shut chain.0 ≡ true)
  unfolding with_bit protected_gate_plan vector_plan through_code_plan handler_plan begin_frame_plan inner_frame_plan push_segments_plan end_frame_plan push_code_plan keep_stack_plan without_segments at_gate on_stack inner_stack_plan push_stack_plan parameter_plan parameters_plan level_stack_plan target_plan enter_plan protected_call_plan protected_jump_plan call_gate_plan inner_call_plan same_call_plan jump_code_plan call_code_plan push_place_plan task_gate_plan jump_gate_plan land_plan virtual_code_plan is_outside place_of unpack descriptor_at descriptor_plan mark_plan accessed_plan known_plan stack_plan data_plan push_plan pop_plan legal seg_of reg_of with_reg with_seg then_plan translated seen_byte got_from held_bytes read_at written_at committed discarded byte_at placed protected_return_plan return_to_plan same_return_plan outer_return_plan lowered virtual_segments return_to_virtual_plan popped_return_plan protected_interrupt_return_plan port_plan old_plan begun ldt_stage virtual_stage code_stage stack_stage limit_stage code_word_stage new_part switch reads_plan writes_plan read_image_plan save_image_plan image_of free_plan busy_bits_plan link_plan gate_way_plan delivered_by_gate deliveries_by_gate deliver_by_gate combine
  no_gates = (refl, refl)
