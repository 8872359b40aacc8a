use Rattle.std.proofs.Common.{◌≡◌, ◌+◌, ◌≤◌, ◌%◌, ◌^◌}
use Rattle.mdl_state.specs.Serving.{by_pick}
use Rattle.mdl_state.specs.Accesses.{Keeps}
use Rattle.mdl_state.specs.Attempt.{tried}
use Rattle.mdl_cpu.specs.Tasks.{reads_plan}
use Rattle.task_switch.proofs.images.read_row.Given as goal

-- what is left to read comes to the same as the whole row
abbrev pub invariant-loop-left : goal.invariant-loop-left
invariant-loop-left g l =
    let serve = by_pick g.L.Linear.pick in
    let seen = g.L.Linear.seen in
    record {
      run : tried serve 0 (reads_plan l.left l.at l.row.size l.row.step l.place l.image) (seen l.lin)
          ≡ tried serve 0 (reads_plan l.row.count ((l.base + l.row.offset) % 2 ^ 32) l.row.size l.row.step l.row.place l.fn.before) (seen l.fn.lin);
      within : l.place + l.left ≤ 19;
      held : (seen l.lin).held ≡ (seen l.fn.lin).held;
      keeps : Keeps (seen l.fn.lin) (seen l.lin);
    }

abbrev pub decreases-loop-left : goal.decreases-loop-left
decreases-loop-left g l = l.left
