use Rattle.std.proofs.Common.{◌≡◌, true, rules}
use Rattle.cpu_core.specs.Families.{is_arithmetic}
use Rattle.cpu_core.proofs.Arithmetic.{arithmetic_runs}
use Rattle.cpu_core.proofs.usual.execute_usual.Goals as goal

pub end_data_kind-requires-in-Add-clause-runs : goal.end_data_kind-requires-in-Add-clause-runs
end_data_kind-requires-in-Add-clause-runs g c =
    let arithmetic : is_arithmetic c.args.insn.now.op ≡ true = search rules in
    arithmetic_runs c.requires.spelt.0 c.requires.spelt.1 c.args.insn.now c.requires.spelt.2 arithmetic

pub end_data_kind-requires-in-Cmp-clause-runs : goal.end_data_kind-requires-in-Cmp-clause-runs
end_data_kind-requires-in-Cmp-clause-runs g c =
    let arithmetic : is_arithmetic c.args.insn.now.op ≡ true = search rules in
    arithmetic_runs c.requires.spelt.0 c.requires.spelt.1 c.args.insn.now c.requires.spelt.2 arithmetic

pub end_data_kind-requires-in-Inc-clause-runs : goal.end_data_kind-requires-in-Inc-clause-runs
end_data_kind-requires-in-Inc-clause-runs g c =
    let arithmetic : is_arithmetic c.args.insn.now.op ≡ true = search rules in
    arithmetic_runs c.requires.spelt.0 c.requires.spelt.1 c.args.insn.now c.requires.spelt.2 arithmetic

pub end_data_kind-requires-in-Shl-clause-runs : goal.end_data_kind-requires-in-Shl-clause-runs
end_data_kind-requires-in-Shl-clause-runs g c =
    let arithmetic : is_arithmetic c.args.insn.now.op ≡ true = search rules in
    arithmetic_runs c.requires.spelt.0 c.requires.spelt.1 c.args.insn.now c.requires.spelt.2 arithmetic

pub end_data_kind-requires-in-Setcc-clause-runs : goal.end_data_kind-requires-in-Setcc-clause-runs
end_data_kind-requires-in-Setcc-clause-runs g c =
    let arithmetic : is_arithmetic c.args.insn.now.op ≡ true = search rules in
    arithmetic_runs c.requires.spelt.0 c.requires.spelt.1 c.args.insn.now c.requires.spelt.2 arithmetic

pub end_data-requires-clause-runs : goal.end_data-requires-clause-runs
end_data-requires-clause-runs g c =
    let arithmetic : is_arithmetic c.args.insn.now.op ≡ true = search rules in
    arithmetic_runs c.requires.spelt.0 c.requires.spelt.1 c.args.insn.now c.requires.spelt.2 arithmetic
