use Rattle.std.proofs.Common.{◌≡◌}
use Rattle.host_io.specs.Slots.{Same, SameBut}
use Rattle.host_io.specs.declared.host.OutSlot.TheVariants.{Report}
use Rattle.reports.specs.Lines.{AppendsLines}
use Rattle.reports.proofs.listing.write_listing.Given as goal

abbrev pub invariant-loop-line : goal.invariant-loop-line
invariant-loop-line g l = record {
  listed : AppendsLines l.bytes l.from l.big l._line l.at (g.H.Host.took l.fn.host Report) (g.H.Host.took l.host Report);
  outputs : SameBut Report (g.H.Host.took l.fn.host) (g.H.Host.took l.host);
  paths : Same (g.H.Host.path l.fn.host) (g.H.Host.path l.host);
  left : Same (g.H.Host.left l.fn.host) (g.H.Host.left l.host);
  counts : Same (g.H.Host.faults l.fn.host) (g.H.Host.faults l.host);
  promise : g.H.Host.promise l.host ≡ g.H.Host.promise l.fn.host;
}
