-- One step of the machine over any board. Manual, chapters 9, 10 and 12.
use Rattle.std.specs.Prelude.{◌≡◌, ℕ, ◌+◌, ◌%◌, ◌^◌, ◌==◌, Bool, true, false, if◌then◌else◌, [], bit_or}
use Rattle.std.specs.FinMap.{empty}
use Rattle.mdl_state.specs.declared.Regs.{Regs}
use Rattle.mdl_state.specs.declared.Fault.{Fault}
use Rattle.mdl_state.specs.declared.Latches.{Latches}
use Rattle.mdl_state.specs.declared.Activity.{Activity}
use Rattle.mdl_state.specs.declared.Activity.TheVariants.{Running, Halted}
use Rattle.mdl_state.specs.declared.Next.{Next}
use Rattle.mdl_state.specs.declared.Next.TheVariants as next
use Rattle.mdl_state.specs.State.{Mem, Core, State, Choice}
use Rattle.mdl_state.specs.Machine.{Rules, Machine}
use Rattle.mdl_state.specs.Bytes.{bit}
use Rattle.mdl_state.specs.Watches.{watching, unwatched}
use Rattle.mdl_state.specs.Accesses.{with_a20}
use Rattle.mdl_state.specs.Serving.{Serve, Policy, Outcome, Passed, Failed, NoStep, by_list, with_items}
use Rattle.mdl_num.specs.Flags.{with_bit}
use Rattle.mdl_cpu.specs.SystemFlags.{TF, RF}
use Rattle.mdl_cpu.specs.Steady.{has_paging}
use Rattle.mdl_cpu.specs.Breakpoints.{data_breakpoints}
use Rattle.mdl_cpu.specs.Switch.{Left}
use Rattle.mdl_cpu.specs.declared.Cause.{Cause}
use Rattle.mdl_cpu.specs.Causes.{fault_cause, event_cause, soft_cause, with_address}
use Rattle.mdl_insn.specs.declared.instruction.Insn.{Insn}
use Rattle.mdl_insn.specs.declared.instruction.Operand.{Operand}
use Rattle.mdl_insn.specs.declared.instruction.Operand.TheVariants.{Creg}
use Rattle.mdl_insn.specs.declared.mnemonics.Op.{Op}
use Rattle.mdl_insn.specs.declared.mnemonics.Op.TheVariants as ops
use Rattle.mdl_effect.specs.Operands.{After}
use Rattle.mdl_effect.specs.Ports.{Accesses}
use Rattle.mdl_step.specs.Effects.{run_whole}
use Rattle.mdl_step.specs.Fetching.{Code, Instruction, Refused, Fetches}
use Rattle.mdl_step.specs.Boundary.{Boundary, Idle, Trap, Break, Nmi, Line, Execute, boundary}
use Rattle.mdl_step.specs.Delivering.{with_debug_bits, BT, delivered}
use Rattle.mdl_step.specs.Events.{after_reset}

-- one step more
abbrev pub counted : Core → Core
counted core = record core { steps = core.steps + 1 }

-- ---- what an instruction leaves that passes

-- EIP behind an instruction. Own: EIP is not cut.
abbrev pub behind : Regs → ℕ → ℕ
behind r count = (r.eip + count) % 2 ^ 32

-- EIP goes behind the instruction, unless that set it, goes on, or goes elsewhere
abbrev pub landed : Next → Regs → ℕ → Regs
landed next.Landed r back = r
landed next.Again r back = r
landed (next.Soft vector) r back = r
landed (next.Task trap) r back = r
landed _ r back = record r { eip = back }

-- the instructions that set RF, or leave it, by themselves; the delivery of a software interrupt sees it as it stood
abbrev pub keeps_resume : Op → Next → Bool
keeps_resume ops.Iret _ = true
keeps_resume ops.Popf _ = true
keeps_resume _ next.Again = true
keeps_resume _ (next.Soft vector) = true
keeps_resume _ (next.Task trap) = true
keeps_resume _ _ = false

-- RF is 0 behind any other instruction
abbrev pub resumed : Op → Next → Regs → Regs
resumed op after r = if keeps_resume op after then r else record r { eflags = with_bit r.eflags RF 0 }

abbrev pub activity_after : Next → Activity
activity_after next.Halt = Halted
activity_after _ = Running

-- what is held back for the next instruction: 1 every interrupt and debug trap, 2 the interrupt line
abbrev pub hold_after : Next → ℕ
hold_after next.HoldAll = 1
hold_after next.HoldIntr = 2
hold_after _ = 0

-- BS of DR6
abbrev pub BS : ℕ
BS = 0x4000

-- the debug trap of single steps, where TF was 1 as the instruction began
abbrev pub step_trap : Next → Regs → ℕ
step_trap (next.Soft vector) r = 0
step_trap (next.Task trap) r = 0
step_trap _ r = if bit r.eflags TF then BS else 0

-- that of a task whose T bit is set
abbrev pub task_trap : Next → ℕ
task_trap (next.Task true) = BT
task_trap _ = 0

-- IRET lets NMIs in again
abbrev pub masks : Op → Bool → Bool
masks ops.Iret masked = false
masks _ masked = masked

-- the latches behind an instruction that began with these registers and met these breakpoints
abbrev pub latches_after : Op → Next → Regs → ℕ → Latches → Latches
latches_after op after r hits latches = record latches {
  masked = masks op latches.masked;
  hold = hold_after after;
  pending = bit_or latches.pending (bit_or hits (bit_or (step_trap after r) (task_trap after)));
}

-- the processor behind an instruction
abbrev pub completed : Core → Insn → After → ℕ → ℕ → Core
completed core insn after back hits = record core {
  regs = resumed insn.op after.next (landed after.next after.regs back);
  activity = activity_after after.next;
  latches = latches_after insn.op after.next core.regs hits core.latches;
}

-- an instruction that passes; a software interrupt is then delivered
abbrev pub passed_by : Next → Serve → Core → Insn → After → ℕ → ℕ → Mem → Outcome Core × Mem
passed_by (next.Soft vector) serve core insn after back hits m = delivered serve (soft_cause vector back) (completed core insn after back hits) m
passed_by _ serve core insn after back hits m = (Passed (completed core insn after back hits), m)

-- a fault of the instruction at EIP, which is delivered. What was held back no longer is.
abbrev pub faulted : Serve → Core → Fault → Mem → Outcome Core × Mem
faulted serve core fault m = delivered serve (fault_cause core.regs fault)
    (record core { regs = with_address core.regs fault; latches = record core.latches { hold = 0 } }) m

-- Memory as a control register says that was loaded: by CR0 paging is on or off, and the cached entries stay; by CR3
-- other tables are in place, and nothing is cached.
abbrev pub with_control : ℕ → Regs → Mem → Mem
with_control number r m =
    if number == 0 then record m { paging = has_paging r }
    else if number == 3 then record m { cr3 = r.cr3; cache = empty }
    else m

-- Memory behind an instruction that left these registers: a MOV to a control register loads that. LMSW leaves PG.
abbrev pub remapped : Op → Operand → Regs → Mem → Mem
remapped ops.Mov (Creg number) r m = with_control number r m
remapped _ _ r m = m

-- ---- an instruction

-- the instruction, with the data breakpoints looked for
abbrev pub attempted : Serve → Core → Insn → ℕ → ℕ → ℕ → Mem → Left After × Mem
attempted serve core insn back given free m = run_whole serve insn core.regs back given free (watching m (data_breakpoints core.regs) 0)

-- what the processor comes to: it goes on, or a fault is delivered, in the task in which it is raised
abbrev pub ended : Outcome After → Serve → Core → Insn → ℕ → Regs → Mem → Outcome Core × Mem
ended (Passed after) serve core insn back r m = passed_by after.next serve core insn after back m.hits (remapped insn.op insn.a after.regs (unwatched m))
ended (Failed fault) serve core insn back r m = faulted serve (record core { regs = r }) fault (unwatched m)
ended NoStep serve core insn back r m = (NoStep, m)

abbrev pub ended_by : Serve → Core → Insn → ℕ → Left After × Mem → Outcome Core × Mem
ended_by serve core insn back w = ended w.0.outcome serve core insn back w.0.regs w.1

abbrev pub executed : Serve → Core → Insn → ℕ → ℕ → ℕ → Mem → Outcome Core × Mem
executed serve core insn back given free m = ended_by serve core insn back (attempted serve core insn back given free m)

-- an instruction that faults leaves the board
abbrev pub MovesBoard : {B : Type 0} → Rules B → Outcome After → ℕ → B → B → Type 0
MovesBoard rules (Passed after) given old new = Accesses rules after.access given old new
MovesBoard rules (Failed fault) given old new = new ≡ old
MovesBoard rules NoStep given old new = ⊥

-- what was fetched is executed, or its fault delivered
abbrev pub Comes : {B : Type 0} → Rules B → Serve → Core → Code → ℕ → Mem → B → Outcome Core × Mem → B → Type 0
Comes rules serve core (Instruction insn count) free m old w new = (given : ℕ)
    × MovesBoard rules (attempted serve core insn (behind core.regs count) given free m).0.outcome given old new
    × (executed serve core insn (behind core.regs count) given free m ≡ w)
Comes rules serve core (Refused fault) free m old w new = (new ≡ old) × (faulted serve core fault m ≡ w)

-- What is at CS:EIP is fetched, and comes to this processor and memory for this choice of undefined flags. The
-- items serve the fetch and then all else, in order and wholly.
pub record Executes {B : Type 0} (rules : Rules B) (policy : Policy) (m : Machine B) (choice : Choice) (n : Machine B) : Type 0 where
  pub code : Code
  pub mid : Mem
  pub fetched : Fetches (by_list policy) m.state.core.regs (with_items m.state.mem choice.served) code mid
  pub comes : Comes rules (by_list policy) m.state.core code choice.flags mid m.board (Passed n.state.core, n.state.mem) n.board
  pub wholly : n.state.mem.served ≡ []

-- ---- an event

-- a cause is delivered to this processor, by these items in order and wholly
pub record Delivers {B : Type 0} (policy : Policy) (cause : Cause) (core : Core) (m : Machine B) (choice : Choice) (n : Machine B) : Type 0 where
  pub comes : delivered (by_list policy) cause core (with_items m.state.mem choice.served) ≡ (Passed n.state.core, n.state.mem)
  pub wholly : n.state.mem.served ≡ []

-- the processor as a pending debug trap, a breakpoint or an NMI is delivered
abbrev pub at_trap : Core → Core
at_trap core = record core { regs = with_debug_bits core.regs core.latches.pending; latches = record core.latches { pending = 0 } }

abbrev pub at_break : Core → ℕ → Core
at_break core hits = record core { regs = with_debug_bits core.regs hits; latches = record core.latches { hold = 0 } }

abbrev pub at_nmi : Core → Core
at_nmi core = record core { latches = record core.latches { nmi = false; masked = true } }

-- the fault of a breakpoint, which is met before the instruction
abbrev pub break_cause : Regs → Cause
break_cause r = record (event_cause r 1) { fault = true }

-- the board tells the vector of the interrupt, which then is in service though its delivery may fault
pub record Acknowledges {B : Type 0} (rules : Rules B) (policy : Policy) (m : Machine B) (choice : Choice) (n : Machine B) : Type 0 where
  pub vector : ℕ
  pub told : rules.tells m.board vector n.board
  pub delivers : Delivers policy (event_cause m.state.core.regs vector) m.state.core m choice n

-- nothing happens
pub record Idles {B : Type 0} (m : Machine B) (choice : Choice) (n : Machine B) : Type 0 where
  pub same : n ≡ m
  pub none : choice.served ≡ []

-- ---- the step

-- what a row of the boundary does
abbrev pub Does : {B : Type 0} → Boundary → Rules B → Policy → Machine B → Choice → Machine B → Type 0
Does Idle rules policy m choice n = Idles m choice n
Does Trap rules policy m choice n = Delivers policy (event_cause m.state.core.regs 1) (at_trap m.state.core) m choice n × (n.board ≡ m.board)
Does (Break hits) rules policy m choice n = Delivers policy (break_cause m.state.core.regs) (at_break m.state.core hits) m choice n × (n.board ≡ m.board)
Does Nmi rules policy m choice n = Delivers policy (event_cause m.state.core.regs 2) (at_nmi m.state.core) m choice n × (n.board ≡ m.board)
Does Line rules policy m choice n = Acknowledges rules policy m choice n
Does Execute rules policy m choice n = Executes rules policy m choice n

-- the row of a machine
abbrev pub row_of : {B : Type 0} → Rules B → Machine B → Boundary
row_of rules m = boundary (rules.wants m.board) m.state.core

-- one step is counted, and the line A20 is as the board has it
abbrev pub counted_with : Bool → State → State
counted_with a20 s = record { core = counted s.core; mem = with_a20 a20 s.mem }

-- then a reset is made that the board asks for, which it forgets
abbrev pub EndsBy : {B : Type 0} → Bool → Rules B → Machine B → Machine B → Type 0
EndsBy true rules mid n = rules.forgets mid.board n.board × (n.state ≡ after_reset (rules.gate n.board) (counted_with (rules.gate mid.board) mid.state))
EndsBy false rules mid n = n ≡ record { state = counted_with (rules.gate mid.board) mid.state; board = mid.board }

-- A step with this choice, each item of which meets the policy.
pub record Step {B : Type 0} (rules : Rules B) (policy : Policy) (m : Machine B) (choice : Choice) (n : Machine B) : Type 0 where
  pub mid : Machine B
  pub does : Does (row_of rules m) rules policy m choice mid
  pub ends : EndsBy (rules.asks mid.board) rules mid n
