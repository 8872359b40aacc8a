use Rattle.std.proofs.Common.{◌≡◌, drop}
use Rattle.mdl_state.specs.Accesses.{all_placed, KeepsPhysical}
use Rattle.tlb.specs.Held.{bytes_held}
use Rattle.tlb.proofs.writes.put_all.Given as goal

abbrev pub invariant-loop-i : goal.invariant-loop-i
invariant-loop-i l = record {
  placed : all_placed l.phys (bytes_held (drop l.i l.writes)) ≡ all_placed l.fn.phys (bytes_held l.writes);
  keeps : KeepsPhysical l.fn.phys l.phys;
}
