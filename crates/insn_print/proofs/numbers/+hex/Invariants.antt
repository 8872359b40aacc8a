use Rattle.insn_print.proofs.numbers.+hex.Given as goal

abbrev pub decreases-hex : goal.decreases-hex
decreases-hex l = l.digits
