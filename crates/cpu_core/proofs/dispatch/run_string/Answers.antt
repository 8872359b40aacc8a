use Rattle.std.proofs.Common.{refl}
use Rattle.std.specs.Prelude.{not}
use Rattle.mem_iface.specs.Rules.{rules_of}
use Rattle.mdl_step.proofs.EffectLaws.{effect_string}
use Rattle.operands.specs.Whole.{whole}
use Rattle.cpu_core.specs.Families.{is_port_string}
use Rattle.cpu_core.proofs.Families.{string_runs, string_alone, kept_ports}
use Rattle.cpu_core.proofs.dispatch.run_string.Goals as goal

pub returns : goal.returns
returns g c =
    let old = whole c.args.regs.now c.args.flags.now in
    let now = c.run in
    let new = whole now.new.regs now.new.flags in
    let insn = c.args.insn.now in
    let m = g.L.Linear.seen c.args.lin.now in
    let n = g.L.Linear.seen now.new.lin in
    let done = now.ensures in
    let tried = done.run in
    string_runs (rules_of g.P.Ports) g.L.Linear.pick insn old c.args.back m c.args.ports.now new n now.new.ports tried.0 tried.1 now.result (not (is_port_string insn.op)) c.requires.ready c.requires.runs tried.2
    (effect_string insn old c.args.back new.eflags c.requires.runs) tried.3
    (kept_ports now.result c.args.regs.now now.new.regs c.args.flags.now now.new.flags c.args.ports.now now.new.ports done.unchanged) done.steady
    (string_alone (rules_of g.P.Ports) g.L.Linear.pick insn old c.args.back m c.args.ports.now new n now.new.ports tried.0 tried.1 now.result (is_port_string insn.op) refl c.requires.runs tried.2 tried.3) done.keeps
