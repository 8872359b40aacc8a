use Rattle.mdl_state.specs.Serving.{by_pick}
use Rattle.mdl_cpu.proofs.AddressLaws.{spelt_addresses}
use Rattle.mdl_effect.specs.Ways.{Leaves}
use Rattle.mdl_effect.proofs.Attempts.{flow_leaves}
use Rattle.mdl_effect.proofs.FormLaws.{spelt_formed}
use Rattle.operands.specs.Whole.{whole, ran}
use Rattle.operands.proofs.Steadies.{ran_steady}
use Rattle.exec_flow.proofs.instructions.run_kind.Goals as goal

pub execute-requires-clause-formed : goal.execute-requires-clause-formed
execute-requires-clause-formed g c =
    let spelt = c.requires.spelt in
    spelt_formed spelt.0 spelt.1 c.args.insn.now spelt.2

pub execute-requires-clause-address : goal.execute-requires-clause-address
execute-requires-clause-address g c =
    let spelt = c.requires.spelt in
    (spelt_addresses spelt.0 spelt.1 c.args.insn.now spelt.2).0

pub returns-clause-steady : goal.returns-clause-steady
returns-clause-steady g c =
    let spelt = c.requires.spelt in
    let old = whole c.args.regs.now c.args.flags.now in
    let now = c.execute in
    ran_steady (Leaves old) now.result c.args.regs.now now.new.regs c.args.flags.now now.new.flags (λ after leaves. leaves.0)
    (flow_leaves spelt.0 spelt.1 c.args.insn.now old c.args.back (by_pick g.L.Linear.pick) 0 (g.L.Linear.seen c.args.lin.now) (g.L.Linear.seen now.new.lin)
    (ran now.result (whole now.new.regs now.new.flags)) spelt.2 c.requires.runs now.ensures.run)
    now.ensures.unchanged
