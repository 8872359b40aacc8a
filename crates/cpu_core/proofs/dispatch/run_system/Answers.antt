use Rattle.std.proofs.Common.{◌≡◌, sym, ap, subst, ◌∙◌, false}
use Rattle.std.specs.Prelude.{Result}
use Rattle.mem_iface.specs.Rules.{rules_of}
use Rattle.mdl_state.specs.declared.Regs.{Regs}
use Rattle.mdl_state.specs.declared.Fault.{Fault}
use Rattle.mdl_state.specs.Serving.{by_pick}
use Rattle.mdl_effect.proofs.Attempts.{system_pages}
use Rattle.mdl_step.proofs.EffectLaws.{effect_system, system_own}
use Rattle.operands.specs.Whole.{whole, ran_at}
use Rattle.cpu_core.specs.Plain.{IsSettled}
use Rattle.cpu_core.specs.Ran.{marked, Runs}
use Rattle.cpu_core.specs.declared.dispatch.Ran.{Ran}
use Rattle.cpu_core.proofs.Families.{system_runs, whole_unpacked}
use Rattle.cpu_core.proofs.dispatch.run_system.Goals as goal

pub returns : goal.returns
returns g c =
    let now = c.run-answer in
    let packed = record c.args.regs.now { eflags = c.pack-regs.result } in
    let old = whole c.args.regs.now c.args.flags.now in
    let new = now.new.regs in
    let insn = c.args.insn.now in
    let m = g.L.Linear.seen c.args.lin.now in
    let n = g.L.Linear.seen now.new.lin in
    let done = now.ensures in
    let before : packed ≡ old = ap (λ e. record c.args.regs.now { eflags = e }) c.pack-regs.ensures in
    let behind : new ≡ whole new c.unpack.result = sym (ap (whole new) c.unpack.ensures ∙ whole_unpacked new) in
    let tried = done.run in
    let spelt = c.requires.spelt in
    subst (λ (r : Result Ran Fault). Runs (rules_of g.P.Ports) g.L.Linear.pick insn old c.args.back m c.args.ports.now r (whole new c.unpack.result) n now.new.ports) (sym c.marked.ensures)
    (subst (λ (o : Regs). Runs (rules_of g.P.Ports) g.L.Linear.pick insn o c.args.back m c.args.ports.now (marked now.result false) (whole new c.unpack.result) n now.new.ports) before
    (subst (λ (q : Regs). Runs (rules_of g.P.Ports) g.L.Linear.pick insn packed c.args.back m c.args.ports.now (marked now.result false) q n now.new.ports) behind
    (system_runs (rules_of g.P.Ports) g.L.Linear.pick insn packed c.args.back m c.args.ports.now new n now.new.ports tried.0 tried.1 now.result (subst (λ (o : Regs). IsSettled o m) (sym before) c.requires.ready)
    (system_own insn c.requires.runs) tried.2 (effect_system insn packed c.args.back new.eflags c.requires.runs) tried.3 done.unchanged (done.sound (subst (λ (o : Regs). IsSettled o m) (sym before) c.requires.ready).sound)
    (system_pages spelt.0 spelt.1 insn packed c.args.back (by_pick g.L.Linear.pick) tried.0 m n (ran_at now.result tried.1 new) spelt.2 c.requires.runs tried.3) done.keeps)))
