use Rattle.std.proofs.Common.{subst, sym, arith}
use Rattle.mdl_insn.specs.declared.rows.Entry.{Entry}
use Rattle.mdl_insn.specs.Fits.{IsEntry}
use Rattle.mdl_insn.proofs.Tables.{at-two, two-fits}
use Rattle.mdl_insn.proofs.lookups.two_entry.Goals as goal

pub returns-clause-entry : goal.returns-clause-entry
returns-clause-entry c = at-two c.args.b c.two_at.result.now (omega arith) c.two_at.ensures

pub returns-clause-fits : goal.returns-clause-fits
returns-clause-fits c = subst (λ (e : Entry). IsEntry e) (sym (at-two c.args.b c.two_at.result.now (omega arith) c.two_at.ensures)) (two-fits c.args.b (omega arith))
