-- The steps that a session makes, each with the events of the count that it reaches. Own: The answers of the monitor
use Rattle.std.specs.Prelude.{◌≡◌, ◌≢◌, ◌⊎◌, ◌<◌, ◌-◌, ℕ, zero, suc, IsTrue, List}
use Rattle.mdl_board.specs.Board.{BoardState}
use Rattle.mdl_cpu.specs.Access.{linear_of}
use Rattle.mdl_state.specs.declared.Activity.TheVariants.{Running}
use Rattle.mdl_state.specs.declared.Event.{Event}
use Rattle.mdl_state.specs.declared.Regs.{Regs}
use Rattle.mdl_state.specs.declared.Seg.TheVariants.{Cs}
use Rattle.mdl_state.specs.Machine.{Machine}
use Rattle.mdl_state.specs.Registers.{seg_of}
use Rattle.mdl_step.specs.Computer.{board_rules, on_board, run_policy}
use Rattle.mdl_step.specs.RunLaws.{StepsFor}
use Rattle.mdl_text.specs.CommandLine.{most_steps}
use Rattle.monitor.specs.Stops.{is_stop}

-- how many steps more there may be
abbrev pub steps_left : Machine BoardState → ℕ
steps_left m = most_steps - m.state.core.steps

-- so many steps of a machine with these events, where the events of its own count were applied
abbrev pub Makes : List Event → ℕ → Machine BoardState → Machine BoardState → Type 0
Makes events steps m n = StepsFor board_rules on_board events run_policy steps m n

-- ---- up to a breakpoint

-- the linear address of the next instruction: CS base + EIP
abbrev pub code_address : Regs → ℕ
code_address r = linear_of (seg_of r Cs) r.eip

-- the machine stands at a breakpoint, or does not run
abbrev pub IsStopped : List ℕ → Machine BoardState → Type 0
IsStopped stops m = (m.state.core.activity ≢ Running) ⊎ IsTrue (is_stop stops (code_address m.state.core.regs))

-- so many steps, behind each of which it runs and stands at no breakpoint
abbrev pub Passes : List Event → List ℕ → ℕ → Machine BoardState → Machine BoardState → Type 0
Passes events stops zero m n = n ≡ m
Passes events stops (suc steps) m n =
    (mid : Machine BoardState) × Passes events stops steps m mid × Makes events 1 mid n × ¬ (IsStopped stops n)

-- steps up to the first behind which it stands at a breakpoint or does not run, but at most so many
abbrev pub Continues : List Event → List ℕ → ℕ → Machine BoardState → Machine BoardState → Type 0
Continues events stops most m n =
    ((steps : ℕ) × (steps < most) × (mid : Machine BoardState) × Passes events stops steps m mid × Makes events 1 mid n × IsStopped stops n)
    ⊎ ((steps : ℕ) × (steps ≡ most) × Passes events stops steps m n)
