use Rattle.std.proofs.Common.{subst, List, ℕ}
use Rattle.mdl_text.specs.CommandLine.{IsCommand}
use Rattle.host_io.specs.declared.host.OutSlot.TheVariants.{Report}
use Rattle.mdl_text.specs.CommandInput.{text_of}
use Rattle.monitor.proofs.LineAnswers.{whole_by, part_by}
use Rattle.monitor.proofs.session.answer_line.Goals as goal

pub returns-in-Ok-clause-ok : goal.returns-in-Ok-clause-ok
returns-in-Ok-clause-ok g c =
    let is = subst (λ (xs : List ℕ). IsCommand xs c.in-Ok.command) c.line.ensures c.in-Ok.ensures.command in
    whole_by c.answer.result c.in-Ok.command (text_of c.args.line.now) (g.T.Target.script c.args.target.now) (g.T.Target.machine c.args.target.now) c.args.breaks.now.items (g.T.Target.machine c.answer.new.target) c.answer.new.breaks.items
    (g.H.Host.took c.args.host.now Report) (g.H.Host.took c.answer.new.host Report) is c.answer.ensures.stops c.answer.ensures.ok c.answer.ensures.goes_on

pub returns-in-Ok-clause-err : goal.returns-in-Ok-clause-err
returns-in-Ok-clause-err g c =
    let is = subst (λ (xs : List ℕ). IsCommand xs c.in-Ok.command) c.line.ensures c.in-Ok.ensures.command in
    part_by c.answer.result c.in-Ok.command (text_of c.args.line.now) (g.T.Target.script c.args.target.now) (g.T.Target.machine c.args.target.now) c.args.breaks.now.items (g.T.Target.machine c.answer.new.target) c.answer.new.breaks.items
    (g.H.Host.took c.args.host.now Report) (g.H.Host.took c.answer.new.host Report) is c.answer.ensures.stops c.answer.ensures.err
