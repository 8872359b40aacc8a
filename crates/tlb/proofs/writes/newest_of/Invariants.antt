use Rattle.std.proofs.Common.{◌≡◌, drop}
use Rattle.mdl_state.specs.Accesses.{newest}
use Rattle.tlb.specs.Held.{bytes_held}
use Rattle.tlb.proofs.writes.newest_of.Given as goal

abbrev pub invariant-loop-write : goal.invariant-loop-write
invariant-loop-write l = newest l.phys.a20 (bytes_held (drop l.write-index l.writes)) l.out l.byte ≡ newest l.phys.a20 (bytes_held l.writes) l.out l.here
