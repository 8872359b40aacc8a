use Rattle.std.proofs.Common.{◌≡◌, ◌+◌, []}
use Rattle.mdl_step.specs.RunLaws.{StepsFor}
use Rattle.mdl_step.specs.Computer.{board_rules, on_board, run_policy}
use Rattle.pc_machine.proofs.pc.Pc.advance.Given as goal

abbrev pub invariant-loop-done : goal.invariant-loop-done
invariant-loop-done l = record {
  ran : StepsFor board_rules on_board [] run_policy l.done l.fn.self l.self;
  steps : l.self.state.core.steps ≡ l.fn.self.state.core.steps + l.done;
}
