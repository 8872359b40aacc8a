use Rattle.std.proofs.Common.{rules, ap, ◌∙◌}
use Rattle.mdl_state.specs.Serving.{by_pick}
use Rattle.mdl_state.specs.Rules.{attempts}
use Rattle.lazy_flags.specs.Keeper.{with_status}
use Rattle.operands.specs.Whole.{whole}
use Rattle.string_ops.proofs.Counts.{repeat_passes}
use Rattle.string_ops.proofs.repeats.repeat.Goals as goal

pub returns-in_err-iterate-clause-run : goal.returns-in_err-iterate-clause-run
returns-in_err-iterate-clause-run g c = let h = c.iterate.ensures.run in (h.0, h.1, h.2, search (rules, attempts))

pub returns-clause-run : goal.returns-clause-run
returns-clause-run g c =
    let h = c.in_ok-iterate.ensures.run in
    let flags = c.iterate.new.flags in
    let old = whole c.args.regs.now c.args.flags.now in
    let before = with_status c.iterate.new.regs.eflags flags in (
      h.0,
      h.1,
      h.2,
      repeat_passes (by_pick g.L.Linear.pick) h.0 c.args.insn.now old (g.L.Linear.seen c.args.lin.now) (g.L.Linear.seen c.iterate.new.lin) before (with_status c.count.new.regs.eflags flags)
          (record { regs = whole c.iterate.new.regs flags; next = c.in_ok-iterate.field-0; access = h.1 }) (record { regs = whole c.count.new.regs flags; next = c.count.result; access = h.1 })
          (λ e. c.if-count_of-eq0.false (c.count_of.ensures.value c.args.flags.now ∙ e))
          (ap (λ eflags. with_status eflags flags) c.count.ensures.kept.eflags)
          (rw c.compares-compares.ensures at (c.count.ensures.value c.in_ok-iterate.field-0 h.1)) h.3,
    )
