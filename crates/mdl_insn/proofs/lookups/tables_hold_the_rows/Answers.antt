use Rattle.mdl_insn.proofs.Tables.{locks-table}
use Rattle.mdl_insn.proofs.lookups.tables_hold_the_rows.Goals as goal

pub returns-clause-group_locks : goal.returns-clause-group_locks
returns-clause-group_locks c = locks-table
