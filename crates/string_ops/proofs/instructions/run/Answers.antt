use Rattle.operands.proofs.Steadies.{kept_steady}
use Rattle.string_ops.proofs.instructions.run.Goals as goal

pub returns-in-Movs-clause-steady : goal.returns-in-Movs-clause-steady
returns-in-Movs-clause-steady g c =
    kept_steady c.args.regs.now c.run_by_width.new.regs c.args.flags.now c.run_by_width.new.flags c.run_by_width.ensures.kept

pub returns-in-Stos-clause-steady : goal.returns-in-Stos-clause-steady
returns-in-Stos-clause-steady g c =
    let now = c.run_by_width-in-Stos in
    kept_steady c.args.regs.now now.new.regs c.args.flags.now now.new.flags now.ensures.kept

pub returns-in-Lods-clause-steady : goal.returns-in-Lods-clause-steady
returns-in-Lods-clause-steady g c =
    let now = c.run_by_width-in-Lods in
    kept_steady c.args.regs.now now.new.regs c.args.flags.now now.new.flags now.ensures.kept

pub returns-in_default-clause-steady : goal.returns-in_default-clause-steady
returns-in_default-clause-steady g c =
    kept_steady c.args.regs.now c.run_by_prefix.new.regs c.args.flags.now c.run_by_prefix.new.flags c.run_by_prefix.ensures.kept
