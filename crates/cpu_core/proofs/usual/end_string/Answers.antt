use Rattle.std.proofs.Common.{Bool, ap, subst}
use Rattle.std.specs.Prelude.{not}
use Rattle.mem_iface.specs.Rules.{rules_of}
use Rattle.operands.specs.Whole.{whole}
use Rattle.cpu_core.specs.Ran.{marked, Runs}
use Rattle.cpu_core.proofs.Ends.{run_ends}
use Rattle.cpu_core.proofs.usual.end_string.Goals as goal

pub returns-clause-ends : goal.returns-clause-ends
returns-clause-ends g c =
    let now = c.run_string-answer in
    let insn = c.args.insn.now in
    let old = whole c.args.regs.now c.args.flags.now in
    let m = g.L.Linear.seen c.args.lin.now in
    let new = whole now.new.regs now.new.flags in
    let n = g.L.Linear.seen now.new.lin in
    run_ends (rules_of g.P.Ports) g.L.Linear.pick insn old c.args.back m c.args.ports.now new n now.new.ports now.result c.end.result (whole c.end.new.regs now.new.flags) (g.L.Linear.seen c.end.new.lin)
    c.requires.ready.still (subst (λ (alone : Bool). Runs (rules_of g.P.Ports) g.L.Linear.pick insn old c.args.back m c.args.ports.now (marked now.result alone) new n now.new.ports) (ap not c.requires.portless) now.ensures)
    c.end.ensures.ends (c.end.ensures.regs now.new.flags) c.end.ensures.memory
