use Rattle.std.proofs.Common.{◌≡◌, ◌+◌, ◌*◌, ◌≤◌, length}
use Rattle.mdl_state.specs.Serving.{by_pick}
use Rattle.mdl_state.specs.Accesses.{Keeps}
use Rattle.mdl_state.specs.Attempt.{tried}
use Rattle.mdl_cpu.specs.InnerStacks.{parameters_plan}
use Rattle.gate_transfer.proofs.stacks.copy_parameters.Given as goal

-- what is left to copy comes to the same as the whole
abbrev pub invariant-loop-left : goal.invariant-loop-left
invariant-loop-left g l =
    let serve = by_pick g.L.Linear.pick in
    let seen = g.L.Linear.seen in
    record {
      run : tried serve 0 (parameters_plan l.left l.old l.regs l.size) (seen l.lin) ≡ tried serve 0 (parameters_plan l.count l.old l.fn.regs l.size) (seen l.fn.lin);
      within : l.left ≤ l.count;
      room : length (seen l.lin).held + l.left * 4 ≤ length (seen l.fn.lin).held + l.count * 4;
      keeps : Keeps (seen l.fn.lin) (seen l.lin);
    }

abbrev pub decreases-loop-left : goal.decreases-loop-left
decreases-loop-left g l = l.left
