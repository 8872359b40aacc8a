-- Which instructions are those of far flow, and what each of them does. Manual, chapters 3, 6, 7, 14, 15 and 17.
use Rattle.std.specs.Prelude.{ℕ, ◌+◌, ◌==◌, Bool, true, false, None}
use Rattle.mdl_state.specs.declared.Size.{Size}
use Rattle.mdl_state.specs.declared.Size.TheVariants.{B2}
use Rattle.mdl_state.specs.declared.Regs.{Regs}
use Rattle.mdl_state.specs.declared.Next.TheVariants as next
use Rattle.mdl_state.specs.Bytes.{bytes_of}
use Rattle.mdl_state.specs.State.{Mem}
use Rattle.mdl_state.specs.Serving.{Serve, Outcome as Attempted, Passed, Failed, NoStep}
use Rattle.mdl_state.specs.Attempt.{Plan, Done, then_plan, attempt}
use Rattle.mdl_insn.specs.declared.instruction.Insn.{Insn}
use Rattle.mdl_insn.specs.declared.instruction.Operand.{Operand}
use Rattle.mdl_insn.specs.declared.instruction.Operand.TheVariants.{At, Far}
use Rattle.mdl_insn.specs.declared.mnemonics.Op.{Op}
use Rattle.mdl_insn.specs.declared.mnemonics.Op.TheVariants as ops
use Rattle.mdl_cpu.specs.declared.Outcome.{Outcome}
use Rattle.mdl_cpu.specs.declared.Outcome.TheVariants as outcome
use Rattle.mdl_cpu.specs.declared.Reason.{Reason}
use Rattle.mdl_cpu.specs.declared.Reason.TheVariants.{Jump, Call, Return}
use Rattle.mdl_cpu.specs.declared.Request.{Request}
use Rattle.mdl_cpu.specs.declared.Switched.{Switched}
use Rattle.mdl_cpu.specs.declared.Switched.TheVariants as switched
use Rattle.mdl_cpu.specs.Addresses.{offset_of}
use Rattle.mdl_cpu.specs.Access.{load_from}
use Rattle.mdl_cpu.specs.Transfers.{Transfer, made, jump_far_plan, call_far_plan}
use Rattle.mdl_cpu.specs.Returns.{return_far_plan, interrupt_return_plan}
use Rattle.mdl_cpu.specs.Switch.{Left, left, switch}
use Rattle.mdl_effect.specs.Operands.{After, NoPort, no_such, value_of}

-- the mnemonics of far flow
abbrev pub is_far : Op → Bool
is_far ops.Callf = true
is_far ops.Jmpf = true
is_far ops.Retf = true
is_far ops.Iret = true
is_far _ = false

abbrev pub runs_far : Insn → Bool
runs_far insn = is_far insn.op

-- ---- the transfer

-- what an instruction transfers, and whether its own selector names the task that it leads to
pub record FarTransfer : Type 0 where
  pub transfer : Transfer
  pub direct : Bool

abbrev pub names_task : ℕ → Outcome → Bool
names_task selector outcome.Done = false
names_task selector (outcome.Switch task) = task == selector

-- behind JMP and CALL, which name a selector, and behind a return, which names none
abbrev pub named : ℕ → Transfer → Plan FarTransfer
named selector t = Done (record { transfer = t; direct = names_task selector t.outcome })

abbrev pub unnamed : Transfer → Plan FarTransfer
unnamed t = Done (record { transfer = t; direct = false })

-- Where JMP and CALL lead: to a selector and an offset, or to those of a pointer in memory, which has the offset in
-- the operand size first and the selector behind it.
abbrev pub far_target : {A : Type 0} → Operand → Size → Regs → (ℕ → ℕ → Plan A) → Plan A
far_target (Far selector offset) size r k = k selector offset
far_target (At mem own) size r k = then_plan (load_from r mem.seg (offset_of r mem) size) (λ offset.
    then_plan (load_from r mem.seg (offset_of r mem + bytes_of size) B2) (λ selector. k selector offset))
far_target _ size r k = no_such

unfoldable pub far_jump_plan : Insn → Regs → Plan FarTransfer
far_jump_plan insn r = far_target insn.a insn.size r (λ selector offset. then_plan (jump_far_plan r selector offset insn.size) (named selector))

unfoldable pub far_call_plan : Insn → Regs → ℕ → Plan FarTransfer
far_call_plan insn r back = far_target insn.a insn.size r (λ selector offset. then_plan (call_far_plan r selector offset insn.size back) (named selector))

-- RETF and IRET
unfoldable pub far_return_plan : Insn → Regs → Plan FarTransfer
far_return_plan insn r = then_plan (return_far_plan r insn.size (value_of r insn.a)) (λ q. then_plan (made q) unnamed)

unfoldable pub iret_plan : Insn → Regs → Plan FarTransfer
iret_plan insn r = then_plan (interrupt_return_plan r insn.size) unnamed

-- by mnemonic; `back` is the EIP behind the instruction
abbrev pub far_by : Op → Insn → Regs → ℕ → Plan FarTransfer
far_by ops.Callf insn r back = far_call_plan insn r back
far_by ops.Jmpf insn r back = far_jump_plan insn r
far_by ops.Retf insn r back = far_return_plan insn r
far_by ops.Iret insn r back = iret_plan insn r
far_by _ insn r back = no_such

unfoldable pub far_transfer : Insn → Regs → ℕ → Plan FarTransfer
far_transfer insn r back = far_by insn.op insn r back

-- ---- behind it

-- code goes on at the new CS and EIP
abbrev pub going_on : Regs → After
going_on r = record { regs = r; next = next.Landed; access = NoPort }

-- code goes on in another task, whose T bit is told
abbrev pub in_task : Bool → Regs → After
in_task trap r = record { regs = r; next = next.Task trap; access = NoPort }

-- why the task is left
abbrev pub reason_of : Op → Reason
reason_of ops.Callf = Call
reason_of ops.Iret = Return
reason_of _ = Jump

-- the switch that is asked for; what is saved as EIP is that behind the instruction
abbrev pub far_request : Op → ℕ → Bool → ℕ → Request
far_request op task direct back = record {
  selector = task;
  reason = reason_of op;
  direct = direct;
  back = back;
  code = None;
  ext = false;
  fault = false;
}

-- What a switch comes to: a fault has the registers of the task in which it is raised.
abbrev pub in_either_task : Attempted Switched → Regs → Mem → Left After × Mem
in_either_task (Passed (switched.Done trap)) r m = left (Passed (in_task trap r)) r m
in_either_task (Passed (switched.OldFault fault)) r m = left (Failed fault) r m
in_either_task (Passed (switched.NewFault fault)) r m = left (Failed fault) r m
in_either_task (Failed fault) r m = left (Failed fault) r m
in_either_task NoStep r m = left NoStep r m

abbrev pub switching : Left Switched × Mem → Left After × Mem
switching w = in_either_task w.0.outcome w.0.regs w.1

-- on at the new place, or by a switch to the task
abbrev pub by_outcome : Outcome → Serve → Op → FarTransfer → ℕ → Mem → Left After × Mem
by_outcome outcome.Done serve op f back m = left (Passed (going_on f.transfer.regs)) f.transfer.regs m
by_outcome (outcome.Switch task) serve op f back m = switching (switch serve f.transfer.regs (far_request op task f.direct back) m)

-- a fault of the transfer leaves the registers
abbrev pub behind_transfer : Serve → Op → Regs → ℕ → Attempted FarTransfer × Mem → Left After × Mem
behind_transfer serve op r back (Passed f, n) = by_outcome f.transfer.outcome serve op f back n
behind_transfer serve op r back (Failed fault, n) = left (Failed fault) r n
behind_transfer serve op r back (NoStep, n) = left NoStep r n

-- A far instruction whole: the transfer is attempted and placed, and where it leads to another task, the switch follows.
unfoldable pub far_run : Serve → Insn → Regs → ℕ → Mem → Left After × Mem
far_run serve insn r back m = behind_transfer serve insn.op r back (attempt serve 0 (far_transfer insn r back) m)
