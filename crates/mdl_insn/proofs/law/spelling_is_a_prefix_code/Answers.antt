use Rattle.mdl_insn.proofs.PrefixEnds.{one_instruction, no_proper_prefix}
use Rattle.mdl_insn.proofs.law.spelling_is_a_prefix_code.Goals as goal

pub returns-clause-one : goal.returns-clause-one
returns-clause-one c = one_instruction

pub returns-clause-prefix : goal.returns-clause-prefix
returns-clause-prefix c = no_proper_prefix
