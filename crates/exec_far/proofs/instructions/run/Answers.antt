use Rattle.mdl_cpu.specs.Switch.{left}
use Rattle.mdl_cpu.proofs.AddressLaws.{spelt_addresses}
use Rattle.mdl_effect.proofs.FormLaws.{spelt_formed}
use Rattle.operands.specs.Whole.{ran}
use Rattle.exec_far.proofs.Leaving.{run_keeps}
use Rattle.exec_far.proofs.instructions.run.Goals as goal

pub run_formed-requires-clause-formed : goal.run_formed-requires-clause-formed
run_formed-requires-clause-formed g c =
    let spelt = c.requires.spelt in
    spelt_formed spelt.0 spelt.1 c.args.insn.now spelt.2

pub run_formed-requires-clause-address : goal.run_formed-requires-clause-address
run_formed-requires-clause-address g c =
    let spelt = c.requires.spelt in
    (spelt_addresses spelt.0 spelt.1 c.args.insn.now spelt.2).0

pub returns-clause-watch : goal.returns-clause-watch
returns-clause-watch g c =
    let now = c.run_formed in
    run_keeps g.L.Linear.pick c.args.insn.now c.args.regs.now c.args.back (g.L.Linear.seen c.args.lin.now)
    (left (ran now.result now.new.regs) now.new.regs (g.L.Linear.seen now.new.lin)) now.ensures.run
