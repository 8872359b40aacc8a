use Rattle.std.proofs.Common.{◌≡◌, ◌≤◌, ◌-◌, take, length}
use Rattle.std.specs.Io.KnownBytes.{Appends}
use Rattle.host_io.specs.Slots.{Same, SameBut, TellsAlike}
use Rattle.host_io.proofs.transfers.write_all.Given as goal

abbrev pub invariant-loop-at : goal.invariant-loop-at
invariant-loop-at g l = record {
  within : l.at ≤ length l.bytes;
  taken : Appends (g.H.Host.took l.fn.host l.slot) (g.H.Host.took l.host l.slot) (take l.at l.bytes);
  tells : TellsAlike (g.H.Host.took l.fn.host l.slot) (g.H.Host.took l.host l.slot);
  outputs : SameBut l.slot (g.H.Host.took l.fn.host) (g.H.Host.took l.host);
  left : Same (g.H.Host.left l.fn.host) (g.H.Host.left l.host);
  paths : Same (g.H.Host.path l.fn.host) (g.H.Host.path l.host);
  counts : Same (g.H.Host.faults l.fn.host) (g.H.Host.faults l.host);
  promise : g.H.Host.promise l.host ≡ g.H.Host.promise l.fn.host;
}

abbrev pub decreases-loop-at : goal.decreases-loop-at
decreases-loop-at g l = length l.bytes - l.at
