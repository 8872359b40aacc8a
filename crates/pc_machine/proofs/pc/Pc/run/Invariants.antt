use Rattle.std.proofs.Common.{◌≡◌, ◌≤◌, ◌+◌, ◌-◌}
use Rattle.mdl_step.specs.Run.{after_events}
use Rattle.mdl_step.specs.RunLaws.{StepsFor}
use Rattle.mdl_step.specs.Computer.{board_rules, on_board, run_policy}
use Rattle.pc_machine.specs.EventLaws.{Split}
use Rattle.pc_machine.proofs.pc.Pc.run.Given as goal

abbrev pub invariant-loop-done : goal.invariant-loop-done
invariant-loop-done l = record {
  ran : StepsFor board_rules on_board l.events run_policy l.done (after_events board_rules on_board l.events l.fn.self) l.self;
  split : Split (l.self.state.core.steps + 1) (l.self.state.core.steps + 1) l.events l.applied;
  steps : l.self.state.core.steps ≡ l.fn.self.state.core.steps + l.done;
  most : l.done ≤ l.steps;
}

abbrev pub decreases-loop-done : goal.decreases-loop-done
decreases-loop-done l = l.steps - l.done
