use Rattle.std.proofs.Common.{◌≡◌, sym, ap, subst, ◌∙◌, true}
use Rattle.std.specs.Prelude.{Result}
use Rattle.mem_iface.specs.Rules.{rules_of}
use Rattle.mdl_state.specs.declared.Regs.{Regs}
use Rattle.mdl_state.specs.declared.Fault.{Fault}
use Rattle.operands.specs.Whole.{whole}
use Rattle.cpu_core.specs.Ran.{marked, Runs}
use Rattle.cpu_core.specs.declared.dispatch.Ran.{Ran}
use Rattle.cpu_core.proofs.Families.{far_runs, whole_unpacked}
use Rattle.cpu_core.proofs.dispatch.run_far.Goals as goal

pub returns : goal.returns
returns g c =
    let now = c.run-answer in
    let packed = record c.args.regs.now { eflags = c.pack-regs.result } in
    let old = whole c.args.regs.now c.args.flags.now in
    let new = now.new.regs in
    let insn = c.args.insn.now in
    let m = g.L.Linear.seen c.args.lin.now in
    let n = g.L.Linear.seen now.new.lin in
    let done = now.ensures in
    let before : packed ≡ old = ap (λ e. record c.args.regs.now { eflags = e }) c.pack-regs.ensures in
    let behind : new ≡ whole new c.unpack.result = sym (ap (whole new) c.unpack.ensures ∙ whole_unpacked new) in
    subst (λ (r : Result Ran Fault). Runs (rules_of g.P.Ports) g.L.Linear.pick insn old c.args.back m c.args.ports.now r (whole new c.unpack.result) n c.args.ports.now) (sym c.marked.ensures)
    (subst (λ (o : Regs). Runs (rules_of g.P.Ports) g.L.Linear.pick insn o c.args.back m c.args.ports.now (marked now.result true) (whole new c.unpack.result) n c.args.ports.now) before
    (subst (λ (q : Regs). Runs (rules_of g.P.Ports) g.L.Linear.pick insn packed c.args.back m c.args.ports.now (marked now.result true) q n c.args.ports.now) behind
    (far_runs (rules_of g.P.Ports) g.L.Linear.pick insn packed c.args.back m c.args.ports.now new n now.result c.requires.runs done.run done.sound done.tables done.keeps done.held)))
