use Rattle.mem_iface.specs.Rules.{rules_of}
use Rattle.operands.specs.Whole.{whole}
use Rattle.cpu_core.proofs.Ends.{run_ends}
use Rattle.cpu_core.proofs.usual.end_flow_kind.Goals as goal

pub returns-clause-ends : goal.returns-clause-ends
returns-clause-ends g c =
    let now = c.run_flow_kind-answer in
    run_ends (rules_of g.P.Ports) g.L.Linear.pick c.args.insn.now (whole c.args.regs.now c.args.flags.now) c.args.back (g.L.Linear.seen c.args.lin.now) c.args.ports.now
    (whole now.new.regs now.new.flags) (g.L.Linear.seen now.new.lin) c.args.ports.now now.result c.end.result (whole c.end.new.regs now.new.flags) (g.L.Linear.seen c.end.new.lin)
    c.requires.ready.still now.ensures c.end.ensures.ends (c.end.ensures.regs now.new.flags) c.end.ensures.memory
