use Rattle.std.proofs.Common.{◌≡◌, subst}
use Rattle.mdl_state.specs.Machine.{Machine}
use Rattle.mdl_state.specs.Watches.{watching}
use Rattle.mem_iface.specs.Rules.{rules_of}
use Rattle.mdl_step.specs.Step.{row_of}
use Rattle.operands.specs.Whole.{whole}
use Rattle.cpu_core.specs.Rows.{told}
use Rattle.cpu_core.proofs.Rows.{row_told}
use Rattle.cpu_core.proofs.cpu.Cpu.row.Goals as goal

pub returns : goal.returns
returns g c =
    let inside = c.self.inside in
    let m : Machine _ = record { state = record { core = record { regs = whole inside.regs inside.flags; activity = inside.between.activity; latches = inside.between.latches; steps = inside.steps }; mem = watching (g.L.Linear.seen inside.code.inside.lin) inside.code.watch.items inside.code.hits }; board = inside.ports } in
    subst (λ (x : Machine _). told c.boundary.result ≡ row_of (rules_of g.P.Ports) x) c.self.view_is
    (row_told (rules_of g.P.Ports) m (told c.boundary.result) c.wants_interrupt-wants.result c.hits_here-hits.result c.wants_interrupt-wants.ensures (c.hits_here-hits.ensures inside.flags) (c.boundary.ensures inside.flags))
