-- What an attempt at an instruction leaves, where it passes.
use Rattle.std.proofs.Common.{◌≡◌, ℕ, Bool, true, List, sym, subst}
use Rattle.std.specs.Prelude.{⊤}
use Rattle.mdl_state.specs.declared.Fault.{Fault}
use Rattle.mdl_state.specs.declared.Regs.{Regs}
use Rattle.mdl_state.specs.State.{Mem}
use Rattle.mdl_state.specs.Serving.{Outcome, Passed, Serve}
use Rattle.mdl_state.specs.Attempt.{Plan, tried}
use Rattle.mdl_state.specs.Ends.{IfPassed, tried_ends}
use Rattle.mdl_insn.specs.declared.instruction.Insn.{Insn}
use Rattle.mdl_insn.specs.Spelling.{Spelt}
use Rattle.mdl_cpu.specs.Segments.{is_protected}
use Rattle.mdl_effect.specs.Operands.{After}
use Rattle.mdl_effect.specs.DataEffects.{runs_data, data_effect}
use Rattle.mdl_effect.specs.FlowEffects.{runs_flow, flow_effect}
use Rattle.mdl_effect.specs.StringEffects.{runs_string, string_plan}
use Rattle.mdl_effect.specs.FarEffects.{runs_far, FarTransfer, far_transfer}
use Rattle.mdl_effect.specs.ProtectionEffects.{is_protected_only}
use Rattle.mdl_effect.specs.SystemEffects.{runs_system, system_effect}
use Rattle.mdl_effect.specs.Ways.{IsDefined, Leaves, IsComplete, LeavesSound, IsSystemComplete, LeavesFar, IsFarComplete, PagesAs}
use Rattle.mdl_effect.proofs.FormLaws.{spelt_formed}
use Rattle.mdl_effect.proofs.DataWays.{data_complete}
use Rattle.mdl_effect.proofs.FlowWays.{flow_complete}
use Rattle.mdl_effect.proofs.StringWays.{string_complete}
use Rattle.mdl_effect.proofs.FarWays.{far_complete}
use Rattle.mdl_effect.proofs.SystemWays.{system_complete, system_sound}
use Rattle.mdl_effect.proofs.PagingWays.{paging_kept}

-- ---- what some bytes spell comes to no missing row

pub data_spelt : (bytes : List ℕ) (big : Bool) (insn : Insn) (r : Regs) (free : ℕ) → Spelt bytes big insn → runs_data insn ≡ true → IsComplete r (data_effect insn r free)
data_spelt bytes big insn r free h e = data_complete insn r free (spelt_formed bytes big insn h) e

pub flow_spelt : (bytes : List ℕ) (big : Bool) (insn : Insn) (r : Regs) (back : ℕ) → Spelt bytes big insn → runs_flow insn ≡ true → IsComplete r (flow_effect insn r back)
flow_spelt bytes big insn r back h e = flow_complete insn r back (spelt_formed bytes big insn h) e

pub string_spelt : (bytes : List ℕ) (big : Bool) (insn : Insn) (r : Regs) (free : ℕ) → Spelt bytes big insn → runs_string insn.op ≡ true → IsComplete r (string_plan insn r free)
string_spelt bytes big insn r free h e = string_complete insn r free e

pub far_spelt : (bytes : List ℕ) (big : Bool) (insn : Insn) (r : Regs) (back : ℕ) → Spelt bytes big insn → runs_far insn ≡ true → IsFarComplete r (far_transfer insn r back)
far_spelt bytes big insn r back h e = far_complete insn r back (spelt_formed bytes big insn h) e

pub system_spelt : (bytes : List ℕ) (big : Bool) (insn : Insn) (r : Regs) (back : ℕ) → Spelt bytes big insn → runs_system insn ≡ true → (is_protected_only insn.op ≡ true → is_protected r ≡ true)
    → IsSystemComplete r (system_effect insn r back)
system_spelt bytes big insn r back h e only = system_complete insn r back (spelt_formed bytes big insn h) e only

-- ---- attempts

-- what an attempt at such a plan answers leaves the mode
pub answer_leaves : (r : Regs) (serve : Serve) (given : ℕ) (plan : Plan After) (m n : Mem) (answer : Outcome After)
    → IsComplete r plan → (answer, n) ≡ tried serve given plan m → IfPassed (Leaves r) answer
answer_leaves r serve given plan m n answer h e = subst (λ (w : Outcome After × Mem). IfPassed (Leaves r) w.0) (sym e) (tried_ends (Leaves r) IsDefined serve given plan m h)

pub passed_leaves : (r : Regs) (serve : Serve) (given : ℕ) (plan : Plan After) (m n : Mem) (after : After)
    → IsComplete r plan → (Passed after, n) ≡ tried serve given plan m → Leaves r after
passed_leaves r serve given plan m n after h e = answer_leaves r serve given plan m n (Passed after) h e

pub data_leaves : (bytes : List ℕ) (big : Bool) (insn : Insn) (r : Regs) (free : ℕ) (serve : Serve) (given : ℕ) (m n : Mem) (answer : Outcome After)
    → Spelt bytes big insn → runs_data insn ≡ true → (answer, n) ≡ tried serve given (data_effect insn r free) m → IfPassed (Leaves r) answer
data_leaves bytes big insn r free serve given m n answer h e ran = answer_leaves r serve given (data_effect insn r free) m n answer (data_spelt bytes big insn r free h e) ran

pub flow_leaves : (bytes : List ℕ) (big : Bool) (insn : Insn) (r : Regs) (back : ℕ) (serve : Serve) (given : ℕ) (m n : Mem) (answer : Outcome After)
    → Spelt bytes big insn → runs_flow insn ≡ true → (answer, n) ≡ tried serve given (flow_effect insn r back) m → IfPassed (Leaves r) answer
flow_leaves bytes big insn r back serve given m n answer h e ran = answer_leaves r serve given (flow_effect insn r back) m n answer (flow_spelt bytes big insn r back h e) ran

pub string_leaves : (bytes : List ℕ) (big : Bool) (insn : Insn) (r : Regs) (free : ℕ) (serve : Serve) (given : ℕ) (m n : Mem) (answer : Outcome After)
    → Spelt bytes big insn → runs_string insn.op ≡ true → (answer, n) ≡ tried serve given (string_plan insn r free) m → IfPassed (Leaves r) answer
string_leaves bytes big insn r free serve given m n answer h e ran = answer_leaves r serve given (string_plan insn r free) m n answer (string_spelt bytes big insn r free h e) ran

pub system_leaves : (bytes : List ℕ) (big : Bool) (insn : Insn) (r : Regs) (back : ℕ) (serve : Serve) (given : ℕ) (m n : Mem) (answer : Outcome After)
    → Spelt bytes big insn → runs_system insn ≡ true → (answer, n) ≡ tried serve given (system_effect insn r back) m → IfPassed (LeavesSound r) answer
system_leaves bytes big insn r back serve given m n answer h e ran = subst (λ (w : Outcome After × Mem). IfPassed (LeavesSound r) w.0) (sym ran)
    (tried_ends (LeavesSound r) (λ (_ : Fault). ⊤) serve given (system_effect insn r back) m (system_sound insn r back (spelt_formed bytes big insn h) e))

-- what an attempt at a far transfer answers leaves sound registers
pub transfer_leaves : (bytes : List ℕ) (big : Bool) (insn : Insn) (r : Regs) (back : ℕ) (serve : Serve) (given : ℕ) (m n : Mem) (answer : Outcome FarTransfer)
    → Spelt bytes big insn → runs_far insn ≡ true → (answer, n) ≡ tried serve given (far_transfer insn r back) m → IfPassed (LeavesFar r) answer
transfer_leaves bytes big insn r back serve given m n answer h e ran = subst (λ (w : Outcome FarTransfer × Mem). IfPassed (LeavesFar r) w.0) (sym ran)
    (tried_ends (LeavesFar r) IsDefined serve given (far_transfer insn r back) m (far_spelt bytes big insn r back h e))

-- what one of the system answers leaves paging and the tables, unless it loads them
pub system_pages : (bytes : List ℕ) (big : Bool) (insn : Insn) (r : Regs) (back : ℕ) (serve : Serve) (given : ℕ) (m n : Mem) (answer : Outcome After)
    → Spelt bytes big insn → runs_system insn ≡ true → (answer, n) ≡ tried serve given (system_effect insn r back) m → IfPassed (λ (after : After). PagesAs insn.op insn.a r after.regs) answer
system_pages bytes big insn r back serve given m n answer h e ran = subst (λ (w : Outcome After × Mem). IfPassed (λ (after : After). PagesAs insn.op insn.a r after.regs) w.0) (sym ran)
    (tried_ends (λ (after : After). PagesAs insn.op insn.a r after.regs) (λ (_ : Fault). ⊤) serve given (system_effect insn r back) m (paging_kept insn r back (spelt_formed bytes big insn h) e))
