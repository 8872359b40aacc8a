use Rattle.std.proofs.Common.{◌≡◌, ◌≤◌}
use Rattle.std.specs.Io.KnownBytes.{prepend_known}
use Rattle.host_io.specs.declared.host.InSlot.TheVariants.{Commands}
use Rattle.host_io.specs.declared.host.OutSlot.TheVariants.{Report}
use Rattle.host_io.specs.Slots.{Same, SameBut}
use Rattle.mdl_text.specs.CommandLine.{most_steps}
use Rattle.monitor.specs.Unread.{unread}
use Rattle.monitor.proofs.Sessions.{Underway}
use Rattle.monitor.proofs.session.converse.Given as goal

abbrev pub invariant-loop-taken : goal.invariant-loop-taken
invariant-loop-taken g l = record {
  underway : Underway (g.T.Target.script l.fn.target) (g.T.Target.machine l.fn.target) (g.T.Target.machine l.target) l.breaks.items l.line (g.H.Host.left l.fn.host Commands) (prepend_known (unread l.reader) (g.H.Host.left l.host Commands)) (g.H.Host.took l.fn.host Report) (g.H.Host.took l.host Report) l._taken;
  bound : (g.T.Target.machine l.target).state.core.steps ≤ most_steps;
  script : g.T.Target.script l.target ≡ g.T.Target.script l.fn.target;
  outputs : SameBut Report (g.H.Host.took l.fn.host) (g.H.Host.took l.host);
  inputs : SameBut Commands (g.H.Host.left l.fn.host) (g.H.Host.left l.host);
  paths : Same (g.H.Host.path l.fn.host) (g.H.Host.path l.host);
  counts : Same (g.H.Host.faults l.fn.host) (g.H.Host.faults l.host);
  promise : g.H.Host.promise l.host ≡ g.H.Host.promise l.fn.host;
}
