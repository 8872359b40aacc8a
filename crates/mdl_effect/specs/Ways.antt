-- What the ways through the plan of an instruction have in common.
use Rattle.std.specs.Prelude.{◌≡◌, ◌≢◌, ⊤, ◌==◌, Bool, true, false}
use Rattle.mdl_state.specs.declared.Regs.{Regs}
use Rattle.mdl_state.specs.declared.Fault.{Fault}
use Rattle.mdl_state.specs.declared.Next.{Next}
use Rattle.mdl_state.specs.declared.Next.TheVariants.{Soft, Task}
use Rattle.mdl_state.specs.Attempt.{Plan}
use Rattle.mdl_state.specs.Ends.{Ends}
use Rattle.mdl_insn.specs.declared.instruction.Operand.{Operand}
use Rattle.mdl_insn.specs.declared.instruction.Operand.TheVariants.{Creg}
use Rattle.mdl_insn.specs.declared.mnemonics.Op.{Op}
use Rattle.mdl_insn.specs.declared.mnemonics.Op.TheVariants as ops
use Rattle.mdl_cpu.specs.Steady.{IsSound, Steady, StaysSound, has_paging}
use Rattle.mdl_cpu.specs.Transfers.{IfSwitch}
use Rattle.mdl_effect.specs.Operands.{After, IsOrdinary}
use Rattle.mdl_effect.specs.FarEffects.{FarTransfer}

-- the fault is not that of an instruction that is not defined
abbrev pub IsDefined : Fault → Type 0
IsDefined fault = fault.vector ≢ 6

-- the instruction leaves the mode, and neither a software interrupt nor a task switch follows
abbrev pub Leaves : Regs → After → Type 0
Leaves r after = Steady r after.regs × IsOrdinary after.next

-- Each way that passes leaves the mode and goes on in order, and no check fails as if the instruction were not defined. So no
-- way comes to the row that stands where no instruction has such an operand.
abbrev pub IsComplete : Regs → Plan After → Type 0
IsComplete r plan = Ends (Leaves r) IsDefined plan

-- a software interrupt finds the registers as they were, and no task switch follows
abbrev pub LeavesTo : Next → Regs → Regs → Type 0
LeavesTo (Soft vector) old new = new ≡ old
LeavesTo (Task trap) old new = ⊥
LeavesTo _ old new = ⊤

-- the instruction may change the mode, but leaves registers that are sound
abbrev pub LeavesSound : Regs → After → Type 0
LeavesSound r after = (IsSound r → IsSound after.regs) × LeavesTo after.next r after.regs

-- The same of an instruction that may change the mode.
abbrev pub IsSystemComplete : Regs → Plan After → Type 0
IsSystemComplete r plan = Ends (LeavesSound r) IsDefined plan

-- A far transfer may change the level, and enter or leave V86, and leaves registers that are sound where they were so. Where a
-- switch follows it leaves them as they were.
pub record LeavesFar (r : Regs) (f : FarTransfer) : Type 0 where
  pub stays : StaysSound r f.transfer.regs
  pub same : IfSwitch f.transfer.outcome (f.transfer.regs ≡ r)

-- the same of a far transfer
abbrev pub IsFarComplete : Regs → Plan FarTransfer → Type 0
IsFarComplete r plan = Ends (LeavesFar r) IsDefined plan

-- PG and CR3 as they were; or, where they are loaded, the other of both
abbrev pub PagesBy : Bool → Bool → Regs → Regs → Type 0
PagesBy true tables old new = new.cr3 ≡ old.cr3
PagesBy false true old new = has_paging new ≡ has_paging old
PagesBy false false old new = (has_paging new ≡ has_paging old) × (new.cr3 ≡ old.cr3)

-- only a MOV to CR0 loads PG, and one to CR3 the tables
abbrev pub PagesAs : Op → Operand → Regs → Regs → Type 0
PagesAs ops.Mov (Creg number) old new = PagesBy (number == 0) (number == 3) old new
PagesAs _ _ old new = PagesBy false false old new
