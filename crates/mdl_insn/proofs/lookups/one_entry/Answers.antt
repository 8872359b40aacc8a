use Rattle.std.proofs.Common.{subst, sym, arith}
use Rattle.mdl_insn.specs.declared.rows.Entry.{Entry}
use Rattle.mdl_insn.specs.Fits.{IsEntry}
use Rattle.mdl_insn.proofs.Tables.{at-one, one-fits}
use Rattle.mdl_insn.proofs.lookups.one_entry.Goals as goal

pub returns-clause-entry : goal.returns-clause-entry
returns-clause-entry c = at-one c.args.b c.one_at.result.now (omega arith) c.one_at.ensures

pub returns-clause-fits : goal.returns-clause-fits
returns-clause-fits c = subst (λ (e : Entry). IsEntry e) (sym (at-one c.args.b c.one_at.result.now (omega arith) c.one_at.ensures)) (one-fits c.args.b (omega arith))
