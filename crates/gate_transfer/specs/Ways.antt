-- What the parts of transfers answer. Manual, chapters 6, 9 and 15.
use Rattle.std.specs.Prelude.{ℕ, List, Option, Result, Ok, Err}
use Rattle.mdl_state.specs.declared.Regs.{Regs}
use Rattle.mdl_state.specs.declared.Fault.{Fault}
use Rattle.mdl_state.specs.Serving.{Outcome, Passed, Failed}
use Rattle.mdl_state.specs.Attempt.{Plan}
use Rattle.mdl_cpu.specs.declared.Desc.{Desc}
use Rattle.mdl_cpu.specs.declared.StackSegment.{StackSegment}
use Rattle.mdl_cpu.specs.Faults.{Row}
use Rattle.mdl_cpu.specs.GateDescriptors.{target_rows, jump_target_rows}
use Rattle.mdl_cpu.specs.TaskSegments.{LevelStack}
use Rattle.mdl_cpu.specs.InnerStacks.{InnerStack}
use Rattle.mdl_cpu.specs.InterruptGates.{Frame}
use Rattle.mdl_cpu.specs.Transfers.{real_code_plan, virtual_code_plan}
use Rattle.gate_transfer.specs.declared.code.PlainMode.{PlainMode}
use Rattle.gate_transfer.specs.declared.code.PlainMode.TheVariants.{Real, Virtual}
use Rattle.gate_transfer.specs.declared.gate_descriptors.Purpose.{Purpose}
use Rattle.gate_transfer.specs.declared.gate_descriptors.Purpose.TheVariants.{Jumps, Enters}
use Rattle.gate_transfer.specs.declared.stacks.LevelStack as own

-- the load of CS without a descriptor, in real mode or in V86
abbrev pub plain_code_plan : PlainMode → Regs → ℕ → ℕ → Plan Regs
plain_code_plan Real = real_code_plan
plain_code_plan Virtual = virtual_code_plan

-- the rows of the code that a gate names, for JMP, and for CALL and interrupts
abbrev pub rows_for : Purpose → ℕ → ℕ → Desc → List Row
rows_for Jumps = jump_target_rows
rows_for Enters = target_rows

-- the stack that a TSS has for a level
abbrev pub level_stack_of : Result own.LevelStack Fault → Outcome LevelStack
level_stack_of (Ok s) = Passed (record { esp = s.esp; selector = s.selector })
level_stack_of (Err fault) = Failed fault

-- the registers on the stack of an inner level, with its segment
abbrev pub turned : Result StackSegment Fault → Regs → Outcome InnerStack
turned (Ok segment) r = Passed (record { regs = r; segment = segment })
turned (Err fault) r = Failed fault

-- the registers behind the first part of a frame, with the segment of a new stack
abbrev pub framed : Result (Option StackSegment) Fault → Regs → Outcome Frame
framed (Ok stack) r = Passed (record { regs = r; stack = stack })
framed (Err fault) r = Failed fault
