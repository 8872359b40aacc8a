use Rattle.std.proofs.Common.{sym, ◌∙◌}
use Rattle.mem_iface.specs.Rules.{rules_of}
use Rattle.operands.specs.Whole.{whole}
use Rattle.cpu_core.proofs.Families.{none_runs}
use Rattle.cpu_core.proofs.dispatch.run_any.Goals as goal

pub returns : goal.returns
returns g c = none_runs (rules_of g.P.Ports) g.L.Linear.pick c.args.insn.now (whole c.args.regs.now c.args.flags.now) c.args.back (g.L.Linear.seen c.args.lin.now) c.args.ports.now
    c.no_such.result c.requires.ready c.no_such.ensures (sym c.runs_data.ensures ∙ c.if-runs_data.false) (sym c.runs_flow.ensures ∙ c.if-runs_flow.false)
    (sym c.runs_string.ensures ∙ c.if-runs_string.false) (sym c.runs_far.ensures ∙ c.if-runs_far.false) (sym c.runs_system.ensures ∙ c.if-runs_system.false)
