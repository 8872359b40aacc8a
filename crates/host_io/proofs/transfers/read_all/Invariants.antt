use Rattle.std.proofs.Common.{◌≡◌, ◌≤◌, ◌-◌, length}
use Rattle.std.specs.Io.KnownBytes.{Consumes}
use Rattle.host_io.specs.Slots.{Same, SameBut, TellsAlike}
use Rattle.host_io.proofs.transfers.read_all.Given as goal

abbrev pub invariant-loop-slot : goal.invariant-loop-slot
invariant-loop-slot g l = record {
  within : length l.bytes.items ≤ l.most;
  taken : Consumes (g.H.Host.left l.fn.host l.slot) (g.H.Host.left l.host l.slot) l.bytes.items;
  tells : TellsAlike (g.H.Host.left l.fn.host l.slot) (g.H.Host.left l.host l.slot);
  inputs : SameBut l.slot (g.H.Host.left l.fn.host) (g.H.Host.left l.host);
  took : Same (g.H.Host.took l.fn.host) (g.H.Host.took l.host);
  paths : Same (g.H.Host.path l.fn.host) (g.H.Host.path l.host);
  counts : Same (g.H.Host.faults l.fn.host) (g.H.Host.faults l.host);
  promise : g.H.Host.promise l.host ≡ g.H.Host.promise l.fn.host;
}

abbrev pub decreases-loop-slot : goal.decreases-loop-slot
decreases-loop-slot g l = l.most - length l.bytes.items
