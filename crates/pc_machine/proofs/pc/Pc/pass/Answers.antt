use Rattle.std.proofs.Common.{sym, subst}
use Rattle.pc_machine.specs.Settled.{IsSettled}
use Rattle.pc_machine.proofs.Bursts.{settled_later}
use Rattle.pc_machine.proofs.pc.Pc.pass.Goals as goal

pub invariant_of-self : goal.invariant_of-self
invariant_of-self c = settled_later c.pass.result c.args.steps c.self.inside.cpu c.pass.new.self c.self.invariant c.pass.ensures.passed c.pass.ensures.unchanged

pub returns-clause-settled : goal.returns-clause-settled
returns-clause-settled c = subst IsSettled c.self.view_is c.self.invariant
