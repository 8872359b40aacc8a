use Rattle.debug_regs.proofs.Overlaps.{overlap_common}
use Rattle.debug_regs.proofs.laws.an_overlap_is_a_byte_in_common.Goals as goal

pub returns : goal.returns
returns c = λ a count b more la lb lc lm sc sm. overlap_common a count b more la lb lc lm sc sm
