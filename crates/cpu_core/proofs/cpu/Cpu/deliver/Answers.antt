use Rattle.std.proofs.Common.{◌≡◌, sym, ap, subst, ◌∙◌}
use Rattle.mdl_state.specs.declared.Regs.{Regs}
use Rattle.mdl_state.specs.declared.Latches.{Latches}
use Rattle.mdl_state.specs.State.{Mem, Core}
use Rattle.mdl_state.specs.Watches.{watching}
use Rattle.mdl_state.specs.Machine.{Machine}
use Rattle.mdl_state.specs.Serving.{Outcome, Passed, by_pick, on}
use Rattle.mdl_cpu.specs.Delivery.{Arrival}
use Rattle.mdl_cpu.specs.TaskDeliveries.{deliver_by_gate}
use Rattle.mdl_step.specs.Delivering.{arrived, delivered}
use Rattle.operands.specs.Whole.{whole}
use Rattle.fault_delivery.proofs.Attempts.{task_ready}
use Rattle.cpu_core.specs.Plain.{IsReady}
use Rattle.cpu_core.proofs.Settled.{still_quiet}
use Rattle.cpu_core.proofs.Arriving.{arrived_as}
use Rattle.cpu_core.proofs.Families.{whole_unpacked}
use Rattle.cpu_core.proofs.cpu.Cpu.deliver.Goals as goal

pub deliver-delivered-requires : goal.deliver-delivered-requires
deliver-delivered-requires g c =
    let inside = c.self.inside in
    let m = watching (g.L.Linear.seen inside.code.inside.lin) inside.code.watch.items inside.code.hits in
    let packed = record inside.regs { eflags = c.pack-self-inside.result } in
    let before : packed ≡ whole inside.regs inside.flags = ap (λ e. record inside.regs { eflags = e }) c.pack-self-inside.ensures in
    let ready = subst (λ (r : Regs). IsReady r m) (sym before) c.self.invariant in
    record { ready = task_ready packed m ready.sound ready.tables; held = ready.quiet.held }

pub invariant_of-self : goal.invariant_of-self
invariant_of-self g c =
    let inside = c.self.inside in
    let packed = record inside.regs { eflags = c.pack-self-inside.result } in
    let m = watching (g.L.Linear.seen inside.code.inside.lin) inside.code.watch.items inside.code.hits in
    let now = c.deliver-delivered in
    let new = now.new.regs in
    let n = watching (g.L.Linear.seen now.new.lin.inside.lin) now.new.lin.watch.items now.new.lin.hits in
    let before : packed ≡ whole inside.regs inside.flags = ap (λ e. record inside.regs { eflags = e }) c.pack-self-inside.ensures in
    let ready = subst (λ (r : Regs). IsReady r m) (sym before) c.self.invariant in
    subst (λ (r : Regs). IsReady r n) (sym (ap (whole new) c.unpack-self-inside.ensures ∙ whole_unpacked new))
    (record { sound = now.ensures.sound ready.sound; tables = now.ensures.tables ready.tables; quiet = still_quiet m n ready.quiet now.ensures.watch now.ensures.held })

pub returns-clause-delivered : goal.returns-clause-delivered
returns-clause-delivered g c =
    let inside = c.self.inside in
    let m : Machine _ = record { state = record { core = record { regs = whole inside.regs inside.flags; activity = inside.between.activity; latches = inside.between.latches; steps = inside.steps }; mem = watching (g.L.Linear.seen inside.code.inside.lin) inside.code.watch.items inside.code.hits }; board = inside.ports } in
    let packed = record inside.regs { eflags = c.pack-self-inside.result } in
    let now = c.deliver-delivered in
    let new = now.new.regs in
    let n = watching (g.L.Linear.seen now.new.lin.inside.lin) now.new.lin.watch.items now.new.lin.hits in
    let before : packed ≡ m.state.core.regs = ap (λ e. record inside.regs { eflags = e }) c.pack-self-inside.ensures in
    let left : Core = record m.state.core { regs = whole new c.unpack-self-inside.result; activity = c.new-self-inside.result.activity; latches = c.new-self-inside.result.latches } in
    subst (λ (x : Machine _). delivered (by_pick g.L.Linear.pick) c.args.cause x.state.core x.state.mem ≡ (Passed left, n)) c.self.view_is
    (ap (λ (w : Outcome Arrival × Mem). on w (λ there k. (Passed (arrived m.state.core there), k)))
    (ap (λ (r : Regs). deliver_by_gate (by_pick g.L.Linear.pick) c.args.cause r m.state.mem) (sym before) ∙ sym now.ensures.run)
    ∙ ap (λ (k : Core). (Passed k, n)) (arrived_as m.state.core now.result new (whole new c.unpack-self-inside.result) c.new-self-inside.result.activity c.pending_at.result
    (ap (whole new) c.unpack-self-inside.ensures ∙ whole_unpacked new) (c.new-self-inside.ensures.activity ∙ c.activity_at.ensures new) (c.pending_at.ensures new)
    ∙ ap (λ (l : Latches). record left { latches = l }) (sym c.new-self-inside.ensures.latches)))
