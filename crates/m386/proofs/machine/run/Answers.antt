use Rattle.m386.specs.Feeding.{fed_of}
use Rattle.m386.proofs.Runs.{ran_to}
use Rattle.m386.proofs.machine.run.Goals as goal

pub returns-clause-ok : goal.returns-clause-ok
returns-clause-ok c = ran_to c.args.ram c.args.steps (fed_of c.args.inputs) c.in-Ok.pc c.run.new.self c.in-Ok.ensures.machine (rw c.as_slice.ensures.value at c.run.ensures.ran)
