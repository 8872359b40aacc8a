use Rattle.std.proofs.Common.{subst, sym, arith}
use Rattle.mdl_insn.specs.declared.rows.Entry.{Entry}
use Rattle.mdl_insn.specs.Fits.{IsEntry}
use Rattle.mdl_insn.proofs.Tables.{at-member, member-fits}
use Rattle.mdl_insn.proofs.lookups.member_entry.Goals as goal

pub returns-clause-entry : goal.returns-clause-entry
returns-clause-entry c = at-member c.args.group c.args.reg c.member_at.result.now (omega arith) c.member_at.ensures

pub returns-clause-fits : goal.returns-clause-fits
returns-clause-fits c = subst (λ (e : Entry). IsEntry e) (sym (at-member c.args.group c.args.reg c.member_at.result.now (omega arith) c.member_at.ensures)) (member-fits c.args.group c.args.reg (omega arith))
