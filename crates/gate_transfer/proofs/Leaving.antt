-- What a transfer leaves of registers and of memory, by the laws of its plan.
use Rattle.std.proofs.Common.{◌≡◌, subst, sym}
use Rattle.std.specs.Prelude.{Result, Ok}
use Rattle.mdl_state.specs.declared.Regs.{Regs}
use Rattle.mdl_state.specs.declared.Fault.{Fault}
use Rattle.mdl_state.specs.State.{Mem}
use Rattle.mdl_state.specs.Serving.{Serve, Pick, Outcome as Attempted, by_pick}
use Rattle.mdl_state.specs.Attempt.{Plan, tried}
use Rattle.mdl_state.specs.Ends.{Ends, IfPassed, tried_ends}
use Rattle.mdl_cpu.specs.declared.Outcome.{Outcome}
use Rattle.mdl_cpu.specs.Steady.{StaysSound}
use Rattle.mdl_cpu.specs.Loads.{answered}
use Rattle.mdl_cpu.specs.Transfers.{Transfer, transferred}
use Rattle.mdl_cpu.specs.Deliveries.{Serious, KeepsWatch}
use Rattle.mdl_cpu.proofs.ServingLaws.{tried_keeps}
use Rattle.mdl_cpu.proofs.TransferLaws.{IsSoundTransfer}

-- a transfer that is made leaves sound registers
pub made_sound : (serve : Serve) (plan : Plan Transfer) (old new : Regs) (m n : Mem) (way : Outcome) → Ends (IsSoundTransfer old) Serious plan
    → (transferred (Ok way) new, n) ≡ tried serve 0 plan m → StaysSound old new
made_sound serve plan old new m n way ends e =
    (subst (λ (w : Attempted Transfer × Mem). IfPassed (IsSoundTransfer old) w.0) (sym e) (tried_ends (IsSoundTransfer old) Serious serve 0 plan m ends)).stays

-- so does a return
pub returned_sound : (serve : Serve) (plan : Plan Regs) (old new : Regs) (m n : Mem) (done : Unit {0}) → Ends (StaysSound old) Serious plan
    → (answered (Ok done) new, n) ≡ tried serve 0 plan m → StaysSound old new
returned_sound serve plan old new m n done ends e =
    subst (λ (w : Attempted Regs × Mem). IfPassed (StaysSound old) w.0) (sym e) (tried_ends (StaysSound old) Serious serve 0 plan m ends)

-- the items that are left and the breakpoints stay
pub leaves_watch : (pick : Pick) (plan : Plan Transfer) (new : Regs) (m n : Mem) (result : Result Outcome Fault) → (transferred result new, n) ≡ tried (by_pick pick) 0 plan m → KeepsWatch m n
leaves_watch pick plan new m n result e = subst (λ (w : Attempted Transfer × Mem). KeepsWatch m w.1) (sym e) (tried_keeps pick 0 plan m)
