use Rattle.std.proofs.Common.{length}
use Rattle.exec_flow.proofs.pops.+pop_all.Given as goal

abbrev pub decreases-pop_all : goal.decreases-pop_all
decreases-pop_all g l = length l.numbers.now
