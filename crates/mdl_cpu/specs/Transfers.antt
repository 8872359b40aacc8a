-- Far transfers by JMP and CALL. Manual, chapters 6, 7, 14, 15 and 17, under JMP and CALL.
-- Own: The order of a far transfer. Own: Accessed bits of a transfer.
use Rattle.std.specs.Prelude.{⊤, ℕ, ◌%◌, ◌==◌, ◌&&◌, not, nat_le, nat_lt, if◌then◌else◌, List, [], ◌∷◌, Result, Ok, Err}
use Rattle.mdl_state.specs.declared.Size.{Size}
use Rattle.mdl_state.specs.declared.Seg.TheVariants.{Cs, Ss}
use Rattle.mdl_state.specs.declared.Regs.{Regs}
use Rattle.mdl_state.specs.declared.Fault.{Fault}
use Rattle.mdl_state.specs.Bytes.{bound_of}
use Rattle.mdl_state.specs.Registers.{seg_of, with_seg}
use Rattle.mdl_state.specs.Serving.{Outcome as Attempted, Passed, Failed}
use Rattle.mdl_state.specs.Attempt.{Plan, Done, Fail, then_plan, checked}
use Rattle.mdl_cpu.specs.declared.Desc.{Desc}
use Rattle.mdl_cpu.specs.declared.Outcome.{Outcome}
use Rattle.mdl_cpu.specs.declared.Outcome.TheVariants as outcome
use Rattle.mdl_cpu.specs.Segments.{has_protection, is_virtual}
use Rattle.mdl_cpu.specs.Faults.{Row, row, first_of, fault_at, general_protection}
use Rattle.mdl_cpu.specs.Descriptors.{is_null, rpl, with_rpl, dpl, is_present, is_code, is_conforming, descriptor_plan}
use Rattle.mdl_cpu.specs.Loads.{with_selector, virtual_segment, known_plan, not_present}
use Rattle.mdl_cpu.specs.Stack.{push_plan}
use Rattle.mdl_cpu.specs.GateDescriptors.{is_call_gate, is_task_gate, gate_selector, gate_size, gate_offset, gate_count, gate_rows, target_rows, jump_target_rows, target_plan, level_of}
use Rattle.mdl_cpu.specs.TaskSegments.{is_tss}
use Rattle.mdl_cpu.specs.InnerStacks.{inner_stack_plan, push_stack_plan, parameters_plan}

-- what a far transfer leaves: the registers, and whether it is made or a switch to another task follows
pub record Transfer : Type 0 where
  pub regs : Regs
  pub outcome : Outcome

abbrev pub made : Regs → Plan Transfer
made r = Done (record { regs = r; outcome = outcome.Done })

-- a switch to the task of a TSS follows
abbrev pub switch_to : Regs → ℕ → Plan Transfer
switch_to r sel = Done (record { regs = r; outcome = outcome.Switch sel })

-- a way by the mode
abbrev pub in_mode : {A : Type 0} → Regs → Plan A → Plan A → Plan A → Plan A
in_mode r real virtual protected = if not (has_protection r) then real else if is_virtual r then virtual else protected

-- a fact that holds where a switch follows
abbrev pub IfSwitch : Outcome → Type 0 → Type 0
IfSwitch outcome.Done P = ⊤
IfSwitch (outcome.Switch sel) P = P

-- what a call answers that makes a far transfer
abbrev pub transferred : Result Outcome Fault → Regs → Attempted Transfer
transferred (Ok way) r = Passed (record { regs = r; outcome = way })
transferred (Err fault) r = Failed fault

-- ---- the new CS and EIP

-- EIP set, unless it lies past the limit of CS
unfoldable pub land_plan : Regs → ℕ → Plan Regs
land_plan r eip = if nat_le eip (seg_of r Cs).limit then Done (record r { eip = eip }) else Fail (general_protection 0)

-- In real mode CS keeps its limit, which is that of the new EIP, and its rights; its base is 16 times the selector.
unfoldable pub real_code_plan : Regs → ℕ → ℕ → Plan Regs
real_code_plan r sel eip = land_plan (with_selector r Cs sel) eip

-- in V86 CS has the limit of each segment there
unfoldable pub virtual_code_plan : Regs → ℕ → ℕ → Plan Regs
virtual_code_plan r sel eip = land_plan (with_seg r Cs (virtual_segment sel)) eip

-- In protected mode the descriptor was tested before: the EIP is tested, and then the segment is accessed and put in place.
unfoldable pub enter_plan : Regs → ℕ → Desc → ℕ → Plan Regs
enter_plan r sel d eip =
    checked (first_of (row (nat_lt d.limit eip) (general_protection 0) ∷ [])) (λ _.
    then_plan (known_plan r Cs sel d) (λ q.
    Done (record q { eip = eip })))

-- the place behind the instruction on the stack: CS, zero extended to the operand size, and then EIP
unfoldable pub push_place_plan : Regs → Size → ℕ → Plan Regs
push_place_plan r size back = then_plan (push_plan r size (seg_of r Cs).sel) (λ q. push_plan q size (back % bound_of size))

-- ---- JMP and CALL without descriptors, with the load of CS of real mode or of V86

abbrev pub plain_jump_plan : (Regs → ℕ → ℕ → Plan Regs) → Regs → ℕ → ℕ → Plan Transfer
plain_jump_plan code r sel eip = then_plan (code r sel eip) made

-- both are pushed before the new EIP is tested
abbrev pub plain_call_plan : (Regs → ℕ → ℕ → Plan Regs) → Regs → ℕ → ℕ → Size → ℕ → Plan Transfer
plain_call_plan code r sel eip size back = then_plan (push_place_plan r size back) (λ q. then_plan (code q sel eip) made)

-- ---- to code

-- code that JMP or CALL names, behind the row on its table
abbrev pub code_rows : ℕ → ℕ → Desc → List Row
code_rows cpl sel d =
    row (not (is_code d)) (fault_at 13 sel)
    ∷ row (is_conforming d && nat_lt cpl (dpl d)) (fault_at 13 sel)
    ∷ row (not (is_conforming d) && nat_lt cpl (rpl sel)) (fault_at 13 sel)
    ∷ row (not (is_conforming d) && not (dpl d == cpl)) (fault_at 13 sel)
    ∷ row (not (is_present d)) (not_present sel)
    ∷ []

unfoldable pub jump_code_plan : Regs → ℕ → Desc → ℕ → Plan Transfer
jump_code_plan r sel d eip =
    checked (first_of (code_rows r.cpl sel d)) (λ _.
    then_plan (enter_plan r (with_rpl sel r.cpl) d eip) made)

unfoldable pub call_code_plan : Regs → ℕ → Desc → ℕ → Size → ℕ → Plan Transfer
call_code_plan r sel d eip size back =
    checked (first_of (code_rows r.cpl sel d)) (λ _.
    then_plan (push_place_plan r size back) (λ q.
    then_plan (enter_plan q (with_rpl sel r.cpl) d eip) made))

-- ---- through a gate

-- JMP by a call gate, whose selector and offset count
unfoldable pub jump_gate_plan : Regs → ℕ → Desc → Plan Transfer
jump_gate_plan r sel g =
    checked (first_of (gate_rows r.cpl sel g)) (λ _.
    then_plan (target_plan r g (jump_target_rows r.cpl (gate_selector g))) (λ d.
    then_plan (enter_plan r (with_rpl (gate_selector g) r.cpl) d (gate_offset g)) made))

-- CALL by a call gate to the same level, in the size of the gate
unfoldable pub same_call_plan : Regs → Desc → Desc → ℕ → Plan Regs
same_call_plan r g d back =
    then_plan (push_place_plan r (gate_size g) back) (λ q.
    enter_plan q (with_rpl (gate_selector g) r.cpl) d (gate_offset g))

-- To an inner level: on the new stack SS and ESP of the old one, the parameters, CS and EIP; then the EIP is tested, and
-- the code and the stack are accessed.
unfoldable pub inner_call_plan : Regs → Desc → Desc → ℕ → Plan Regs
inner_call_plan r g d back =
    then_plan (inner_stack_plan r (dpl d)) (λ s.
    then_plan (push_stack_plan r s.regs (gate_size g)) (λ a.
    then_plan (parameters_plan (gate_count g) r a (gate_size g)) (λ b.
    then_plan (push_place_plan b (gate_size g) back) (λ c.
    then_plan (enter_plan c (with_rpl (gate_selector g) (dpl d)) d (gate_offset g)) (λ e.
    known_plan e Ss s.segment.selector s.segment.desc)))))

-- CALL by a call gate
unfoldable pub call_gate_plan : Regs → ℕ → Desc → ℕ → Plan Transfer
call_gate_plan r sel g back =
    checked (first_of (gate_rows r.cpl sel g)) (λ _.
    then_plan (target_plan r g (target_rows r.cpl (gate_selector g))) (λ d.
    then_plan (if nat_lt (level_of r.cpl d) r.cpl then inner_call_plan r g d back else same_call_plan r g d back) made))

-- a task gate, which names the TSS
unfoldable pub task_gate_plan : Regs → ℕ → Desc → Plan Transfer
task_gate_plan r sel g = checked (first_of (gate_rows r.cpl sel g)) (λ _. switch_to r (gate_selector g))

-- ---- JMP and CALL in protected mode

-- by what the selector names: a call gate, a task gate, a TSS, or else what must be code
abbrev pub by_kind : Regs → ℕ → Desc → Plan Transfer → Plan Transfer → Plan Transfer
by_kind r sel d gate code =
    if is_call_gate d then gate
    else if is_task_gate d then task_gate_plan r sel d
    else if is_tss d then switch_to r sel
    else code

-- the descriptor of the selector that they name
abbrev pub named_plan : Regs → ℕ → (Desc → Plan Transfer) → Plan Transfer
named_plan r sel k =
    checked (first_of (row (is_null sel) (general_protection 0) ∷ [])) (λ _.
    then_plan (descriptor_plan r sel 13) k)

unfoldable pub protected_jump_plan : Regs → ℕ → ℕ → Plan Transfer
protected_jump_plan r sel eip = named_plan r sel (λ d. by_kind r sel d (jump_gate_plan r sel d) (jump_code_plan r sel d eip))

unfoldable pub protected_call_plan : Regs → ℕ → ℕ → Size → ℕ → Plan Transfer
protected_call_plan r sel eip size back = named_plan r sel (λ d. by_kind r sel d (call_gate_plan r sel d back) (call_code_plan r sel d eip size back))

-- ---- JMP and CALL

-- JMP to a selector and an offset, which is cut to the operand size
unfoldable pub jump_far_plan : Regs → ℕ → ℕ → Size → Plan Transfer
jump_far_plan r sel off size = in_mode r
    (plain_jump_plan real_code_plan r sel (off % bound_of size))
    (plain_jump_plan virtual_code_plan r sel (off % bound_of size))
    (protected_jump_plan r sel (off % bound_of size))

-- CALL likewise; `back` is the EIP behind it
unfoldable pub call_far_plan : Regs → ℕ → ℕ → Size → ℕ → Plan Transfer
call_far_plan r sel off size back = in_mode r
    (plain_call_plan real_code_plan r sel (off % bound_of size) size back)
    (plain_call_plan virtual_code_plan r sel (off % bound_of size) size back)
    (protected_call_plan r sel (off % bound_of size) size back)
