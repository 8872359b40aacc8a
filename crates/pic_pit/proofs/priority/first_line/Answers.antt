use Rattle.std.proofs.Common.{arith}
use Rattle.pic_pit.proofs.FirstLine.{first_found}
use Rattle.pic_pit.proofs.priority.first_line.Goals as goal

pub returns-then-turned-eq0-clause-line : goal.returns-then-turned-eq0-clause-line
returns-then-turned-eq0-clause-line c = grind (arith, first_found c.args.register c.args.lowest)

pub returns-clause-line : goal.returns-clause-line
returns-clause-line c = grind (arith, first_found c.args.register c.args.lowest)
