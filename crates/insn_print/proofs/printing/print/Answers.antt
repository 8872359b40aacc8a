use Rattle.insn_print.proofs.Printable.{spelt_printable}
use Rattle.insn_print.proofs.printing.print.Goals as goal

pub line-requires : goal.line-requires
line-requires c = spelt_printable c.requires.spelt.0 c.requires.spelt.1 c.args.insn.now c.requires.spelt.2
