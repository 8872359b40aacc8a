use Rattle.mem_iface.specs.Rules.{rules_of}
use Rattle.mdl_effect.specs.FlowEffects.{flow_effect}
use Rattle.mdl_step.proofs.EffectLaws.{effect_flow, flow_own}
use Rattle.operands.specs.Whole.{whole}
use Rattle.cpu_core.proofs.Families.{alone_runs, kept_whole, flow_mapped}
use Rattle.cpu_core.proofs.dispatch.run_flow_kind.Goals as goal

pub returns : goal.returns
returns g c =
    let old = whole c.args.regs.now c.args.flags.now in
    let new = whole c.run_kind.new.regs c.run_kind.new.flags in
    let insn = c.args.insn.now in
    let m = g.L.Linear.seen c.args.lin.now in
    let n = g.L.Linear.seen c.run_kind.new.lin in
    let done = c.run_kind.ensures in
    alone_runs (rules_of g.P.Ports) g.L.Linear.pick insn old c.args.back m c.args.ports.now new n (flow_effect insn old c.args.back) c.run_kind.result c.requires.ready (flow_own insn c.requires.runs)
    (effect_flow insn old c.args.back new.eflags c.requires.runs) done.run (kept_whole c.run_kind.result c.args.regs.now c.run_kind.new.regs c.args.flags.now c.run_kind.new.flags done.unchanged) done.steady
    (λ r k. flow_mapped insn r k c.requires.runs) done.keeps
