use Rattle.std.proofs.Common.{◌≡◌, ◌≤◌, ◌-◌, take, length}
use Rattle.std.specs.Io.KnownBytes.{Appends}
use Rattle.host_io.specs.Slots.{Same, SameBut}
use Rattle.m386.specs.Writing.{image_bytes}
use Rattle.m386.proofs.outputs.write_image.Given as goal

abbrev pub invariant-loop-at : goal.invariant-loop-at
invariant-loop-at g l = record {
  within : l.at ≤ length (image_bytes l.image l.pc);
  taken : Appends (g.H.Host.took l.fn.host l.slot) (g.H.Host.took l.host l.slot) (take l.at (image_bytes l.image l.pc));
  outputs : SameBut l.slot (g.H.Host.took l.fn.host) (g.H.Host.took l.host);
  left : Same (g.H.Host.left l.fn.host) (g.H.Host.left l.host);
  paths : Same (g.H.Host.path l.fn.host) (g.H.Host.path l.host);
  counts : Same (g.H.Host.faults l.fn.host) (g.H.Host.faults l.host);
  promise : g.H.Host.promise l.host ≡ g.H.Host.promise l.fn.host;
}

abbrev pub decreases-loop-at : goal.decreases-loop-at
decreases-loop-at g l = length (image_bytes l.image l.pc) - l.at
