use Rattle.std.proofs.Common.{◌≡◌, ◌+◌, ◌*◌, ◌≤◌, ◌%◌, ◌^◌, length}
use Rattle.mdl_state.specs.Bytes.{bytes_of}
use Rattle.mdl_state.specs.Serving.{by_pick}
use Rattle.mdl_state.specs.Accesses.{Keeps}
use Rattle.mdl_state.specs.Attempt.{tried}
use Rattle.mdl_cpu.specs.Tasks.{writes_plan}
use Rattle.task_switch.proofs.images.write_row.Given as goal

-- what is left to write comes to the same as the whole row
abbrev pub invariant-loop-left : goal.invariant-loop-left
invariant-loop-left g l =
    let serve = by_pick g.L.Linear.pick in
    let seen = g.L.Linear.seen in
    record {
      run : tried serve 0 (writes_plan l.left l.at l.row.size l.row.step l.place l.image) (seen l.lin)
          ≡ tried serve 0 (writes_plan l.row.count ((l.base + l.row.offset) % 2 ^ 32) l.row.size l.row.step l.row.place l.image) (seen l.fn.lin);
      within : l.place + l.left ≤ 19;
      room : length (seen l.lin).held + l.left * bytes_of l.row.size ≤ length (seen l.fn.lin).held + l.row.count * bytes_of l.row.size;
      keeps : Keeps (seen l.fn.lin) (seen l.lin);
    }

abbrev pub decreases-loop-left : goal.decreases-loop-left
decreases-loop-left g l = l.left
