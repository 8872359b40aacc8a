use Rattle.std.proofs.Common.{◌∙◌}
use Rattle.mdl_cpu.specs.Steady.{steady_sound, steady_agrees}
use Rattle.mdl_cpu.proofs.ServingLaws.{then_kept}
use Rattle.fault_delivery.proofs.Attempts.{physical_keeps}
use Rattle.fault_delivery.proofs.Chains.{once_watch, done, ended, went_on, smaller, both_steady, stays_on, addressed, address_ready}
use Rattle.fault_delivery.proofs.deliveries.deliver.Goals as goal

-- src/deliveries.rt:115:25
pub returns-in-Ok-clause-run : goal.returns-in-Ok-clause-run
returns-in-Ok-clause-run g c = done g.L.Linear.pick c.loop-trap.next c.loop-trap.regs c.attempt.new.regs (g.L.Linear.seen c.loop-trap.lin) (g.L.Linear.seen c.attempt.new.lin) c.in-Ok.trap c.in-Ok.ensures.run
    ∙ c.loop-trap.invariant.run

-- src/deliveries.rt:115:25
pub returns-in-Ok-clause-watch : goal.returns-in-Ok-clause-watch
returns-in-Ok-clause-watch g c = then_kept c.loop-trap.invariant.watch
    (once_watch g.L.Linear.pick c.loop-trap.next c.loop-trap.regs c.attempt.new.regs (g.L.Linear.seen c.loop-trap.lin) (g.L.Linear.seen c.attempt.new.lin) c.attempt.result c.attempt.ensures.run)

-- src/deliveries.rt:115:25
pub returns-in-Ok-clause-real : goal.returns-in-Ok-clause-real
returns-in-Ok-clause-real g c = stays_on g.L.Linear.pick c.loop-trap.next c.args.regs.now c.loop-trap.regs c.attempt.new.regs (g.L.Linear.seen c.loop-trap.lin) (g.L.Linear.seen c.attempt.new.lin) c.attempt.result c.attempt.ensures.run
    c.loop-trap.invariant.real

-- src/deliveries.rt:118:21
pub returns-in_default-clause-run : goal.returns-in_default-clause-run
returns-in_default-clause-run g c = ended g.L.Linear.pick c.loop-trap.next c.loop-trap.regs c.attempt.new.regs (g.L.Linear.seen c.loop-trap.lin) (g.L.Linear.seen c.attempt.new.lin) c.in-Err.raised
    c.in-Err.ensures.run c.in_default.ensures
    ∙ c.loop-trap.invariant.run

-- src/deliveries.rt:118:21
pub returns-in_default-clause-watch : goal.returns-in_default-clause-watch
returns-in_default-clause-watch g c = then_kept c.loop-trap.invariant.watch
    (once_watch g.L.Linear.pick c.loop-trap.next c.loop-trap.regs c.attempt.new.regs (g.L.Linear.seen c.loop-trap.lin) (g.L.Linear.seen c.attempt.new.lin) c.attempt.result c.attempt.ensures.run)

-- src/deliveries.rt:118:21
pub returns-in_default-clause-real : goal.returns-in_default-clause-real
returns-in_default-clause-real g c = stays_on g.L.Linear.pick c.loop-trap.next c.args.regs.now c.loop-trap.regs c.attempt.new.regs (g.L.Linear.seen c.loop-trap.lin) (g.L.Linear.seen c.attempt.new.lin) c.attempt.result c.attempt.ensures.run
    c.loop-trap.invariant.real

-- src/deliveries.rt:113:5
pub loop-trap-smaller : goal.loop-trap-smaller
loop-trap-smaller g c = smaller g.L.Linear.pick c.loop-trap.next c.loop-trap.regs c.attempt.new.regs (g.L.Linear.seen c.loop-trap.lin) (g.L.Linear.seen c.attempt.new.lin) c.in-Err.raised
    c.in-Err.ensures.run c.in-Some.fault c.fault_cause-next.result c.in-Some.ensures c.fault_cause-next.ensures

-- src/deliveries.rt:113:5
pub loop-trap-preserved : goal.loop-trap-preserved
loop-trap-preserved g c =
    let there = addressed c.attempt.new.regs c.note_address.new.regs c.in-Some.fault c.note_address.ensures in
    record {
      run = went_on g.L.Linear.pick c.loop-trap.next c.loop-trap.regs c.attempt.new.regs (g.L.Linear.seen c.loop-trap.lin) (g.L.Linear.seen c.attempt.new.lin) c.in-Err.raised
          c.in-Err.ensures.run c.in-Some.fault c.fault_cause-next.result c.note_address.new.regs c.in-Some.ensures c.fault_cause-next.ensures c.note_address.ensures
          ∙ c.loop-trap.invariant.run;
      ready = address_ready c.attempt.new.regs c.note_address.new.regs (g.L.Linear.seen c.attempt.new.lin) there c.attempt.ensures.ready;
      held = c.attempt.ensures.held;
      sound = λ h. steady_sound c.attempt.new.regs c.note_address.new.regs there (c.attempt.ensures.sound (c.loop-trap.invariant.sound h));
      tables = λ h. steady_agrees c.attempt.new.regs c.note_address.new.regs (g.L.Linear.seen c.attempt.new.lin) there (c.attempt.ensures.tables (c.loop-trap.invariant.tables h));
      keeps = physical_keeps (g.L.Linear.seen c.args.lin.now) (g.L.Linear.seen c.loop-trap.lin) (g.L.Linear.seen c.attempt.new.lin) c.loop-trap.invariant.keeps c.attempt.ensures.keeps;
      watch = then_kept c.loop-trap.invariant.watch
          (once_watch g.L.Linear.pick c.loop-trap.next c.loop-trap.regs c.attempt.new.regs (g.L.Linear.seen c.loop-trap.lin) (g.L.Linear.seen c.attempt.new.lin) c.attempt.result c.attempt.ensures.run);
      real = λ h. both_steady (stays_on g.L.Linear.pick c.loop-trap.next c.args.regs.now c.loop-trap.regs c.attempt.new.regs (g.L.Linear.seen c.loop-trap.lin) (g.L.Linear.seen c.attempt.new.lin) c.attempt.result c.attempt.ensures.run
          c.loop-trap.invariant.real h) there;
    }
