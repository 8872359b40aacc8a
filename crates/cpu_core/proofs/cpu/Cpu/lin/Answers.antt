use Rattle.std.proofs.Common.{◌≡◌, subst}
use Rattle.mdl_state.specs.Machine.{Machine}
use Rattle.mdl_state.specs.Watches.{unwatched}
use Rattle.cpu_core.proofs.Settled.{bare_is}
use Rattle.cpu_core.proofs.cpu.Cpu.lin.Goals as goal

pub returns : goal.returns
returns g c =
    let inside = c.self.inside in
    let m = g.L.Linear.seen inside.code.inside.lin in
    let quiet = c.self.invariant.quiet in
    subst (λ (x : Machine _). unwatched m ≡ x.state.mem) c.self.view_is (bare_is m inside.code.watch.items inside.code.hits quiet.watch quiet.hits)
