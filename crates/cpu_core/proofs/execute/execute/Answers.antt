use Rattle.std.proofs.Common.{sym, ap, ◌∙◌, Ok, Err}
use Rattle.mdl_state.specs.State.{Mem}
use Rattle.mdl_state.specs.Serving.{Passed}
use Rattle.mdl_cpu.specs.Switch.{left}
use Rattle.mdl_effect.specs.Operands.{After}
use Rattle.mdl_step.specs.Step.{remapped}
use Rattle.operands.specs.Whole.{whole}
use Rattle.cpu_core.proofs.Settled.{run_settled}
use Rattle.cpu_core.proofs.execute.execute.Goals as goal

pub returns-in-Ok-clause-passes : goal.returns-in-Ok-clause-passes
returns-in-Ok-clause-passes g c =
    let done = c.in-Ok.ensures in
    let old = whole c.args.regs.now c.args.flags.now in
    let new = whole c.run_any.new.regs c.run_any.new.flags in
    let m = g.L.Linear.seen c.args.lin.now in
    let n = g.L.Linear.seen c.run_any.new.lin in
    let after : After = record { regs = new; next = c.in-Ok.ran.next; access = done.access } in
    record {
      given = done.given;
      access = done.access;
      rest = done.rest;
      placed = g.L.Linear.seen c.commit.new.self;
      passed = done.ran ∙ ap (λ (k : Mem). left (Passed after) done.rest k) (sym c.commit.ensures.placed);
      moves = done.moves;
      mapped = c.settle.ensures c.run_any.new.flags;
    }

pub returns-in-Ok-clause-ready : goal.returns-in-Ok-clause-ready
returns-in-Ok-clause-ready g c =
    let done = c.in-Ok.ensures in
    let old = whole c.args.regs.now c.args.flags.now in
    let new = whole c.run_any.new.regs c.run_any.new.flags in
    let insn = c.args.insn.now in
    let m = g.L.Linear.seen c.args.lin.now in
    let n = g.L.Linear.seen c.run_any.new.lin in
    run_settled g.L.Linear.pick insn old c.args.back done.given new.eflags new m n (Ok c.in-Ok.ran) (g.L.Linear.seen c.settle.new.lin) _ c.requires.ready.still done.ran done.sound done.tables
    (c.settle.ensures c.run_any.new.flags ∙ ap (remapped insn.op insn.a new) c.commit.ensures.placed)

pub returns-in-Err-clause-ready : goal.returns-in-Err-clause-ready
returns-in-Err-clause-ready g c =
    let done = c.in-Err.ensures in
    let old = whole c.args.regs.now c.args.flags.now in
    let new = whole c.run_any.new.regs c.run_any.new.flags in
    let m = g.L.Linear.seen c.args.lin.now in
    let n = g.L.Linear.seen c.run_any.new.lin in
    run_settled g.L.Linear.pick c.args.insn.now old c.args.back done.given new.eflags new m n (Err c.in-Err.fault) (g.L.Linear.seen c.discard.new.self) _ c.requires.ready.still done.ran done.sound done.tables c.discard.ensures.dropped
