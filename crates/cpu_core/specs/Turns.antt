-- What a row of the boundary does, over a memory with a rule that serves its pages, and for some choice.
use Rattle.std.specs.Prelude.{◌≡◌, ◌+◌, ℕ}
use Rattle.mdl_state.specs.State.{Mem, Choice}
use Rattle.mdl_state.specs.Machine.{Rules, Machine}
use Rattle.mdl_state.specs.Choices.{Meets, walks_after}
use Rattle.mdl_state.specs.Serving.{Pick, Policy, Passed, by_pick}
use Rattle.mdl_cpu.specs.Causes.{event_cause}
use Rattle.mdl_step.specs.Boundary.{Boundary, Idle, Trap, Break, Nmi, Line, Execute}
use Rattle.mdl_step.specs.Delivering.{delivered}
use Rattle.mdl_step.specs.Fetching.{Code, Fetches}
use Rattle.mdl_step.specs.RunLaws.{SomeStep}
use Rattle.mdl_step.specs.Step.{at_trap, at_break, at_nmi, break_cause, Comes, Does}

-- what is at CS:EIP is fetched, and comes to this machine
pub record Executed {B : Type 0} (rules : Rules B) (pick : Pick) (m n : Machine B) : Type 0 where
  pub code : Code
  pub mid : Mem
  pub free : ℕ
  pub fetched : Fetches (by_pick pick) m.state.core.regs m.state.mem code mid
  pub comes : Comes rules (by_pick pick) m.state.core code free mid m.board (Passed n.state.core, n.state.mem) n.board

-- a row is taken
abbrev pub Takes : {B : Type 0} → Boundary → Rules B → Pick → Machine B → Machine B → Type 0
Takes Idle rules pick m n = n ≡ m
Takes Trap rules pick m n = (delivered (by_pick pick) (event_cause m.state.core.regs 1) (at_trap m.state.core) m.state.mem ≡ (Passed n.state.core, n.state.mem)) × (n.board ≡ m.board)
Takes (Break hits) rules pick m n = (delivered (by_pick pick) (break_cause m.state.core.regs) (at_break m.state.core hits) m.state.mem ≡ (Passed n.state.core, n.state.mem)) × (n.board ≡ m.board)
Takes Nmi rules pick m n = (delivered (by_pick pick) (event_cause m.state.core.regs 2) (at_nmi m.state.core) m.state.mem ≡ (Passed n.state.core, n.state.mem)) × (n.board ≡ m.board)
Takes Line rules pick m n = (vector : ℕ) × rules.tells m.board vector n.board
    × (delivered (by_pick pick) (event_cause m.state.core.regs vector) m.state.core m.state.mem ≡ (Passed n.state.core, n.state.mem))
Takes Execute rules pick m n = Executed rules pick m n

-- the row is taken for some choice, whose walks are counted
pub record SomeTurn {B : Type 0} (row : Boundary) (rules : Rules B) (policy : Policy) (m n : Machine B) : Type 0 where
  pub choice : Choice
  pub does : Does row rules policy m choice n
  pub walks : n.state.mem.walks ≡ walks_after choice.served m.state.mem.walks

-- a step was made, for some choice that meets each policy that the rule of the memory meets
pub record Makes {B : Type 0} (rules : Rules B) (pick : Pick) (m n : Machine B) : Type 0 where
  pub made : (policy : Policy) → Meets pick policy → SomeStep rules policy m n
  pub count : n.state.core.steps ≡ m.state.core.steps + 1
  pub a20 : rules.gate n.board ≡ n.state.mem.physical.a20
