use Rattle.mdl_effect.proofs.FormLaws.{spelt_formed}
use Rattle.exec_data.proofs.plain_run.run_plain.Goals as goal

pub run_formed-requires-clause-formed : goal.run_formed-requires-clause-formed
run_formed-requires-clause-formed c =
    let spelt = c.requires.spelt in
    spelt_formed spelt.0 spelt.1 c.args.insn.now spelt.2
