use Rattle.std.proofs.Common.{◌≡◌, ◌+◌, ◌-◌, length, drop}
use Rattle.mdl_step.specs.Run.{after_events}
use Rattle.mdl_step.specs.Computer.{board_rules, on_board}
use Rattle.pc_machine.specs.EventLaws.{Split, after_due}
use Rattle.pc_machine.proofs.pc.Pc.apply.Given as goal

abbrev pub invariant-loop-event : goal.invariant-loop-event
invariant-loop-event l = record {
  split : Split (l.fn.self.state.core.steps + 1) l.fn.self.state.core.steps l.events l.done;
  applied : after_due l.fn.self.state.core.steps (drop l.done l.events) l.self ≡ after_events board_rules on_board l.events l.fn.self;
  steps : l.self.state.core.steps ≡ l.fn.self.state.core.steps;
}

abbrev pub decreases-loop-event : goal.decreases-loop-event
decreases-loop-event l = length l.events - l.done
