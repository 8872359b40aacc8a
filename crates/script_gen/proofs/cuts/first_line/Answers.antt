use Rattle.std.proofs.Common.{rules, ◌∷◌, ap, ◌∙◌, sym}
use Rattle.std.specs.Str.Lines.{lines}
use Rattle.script_gen.proofs.Lines.{cut_line, last_line}
use Rattle.script_gen.proofs.cuts.first_line.Goals as goal

pub returns-in-Some-clause-some : goal.returns-in-Some-clause-some
returns-in-Some-clause-some c =
    cut_line c.args.text.now c.in-Some.line.now c.in-Some.rest.now c.in-Some.ensures.whole c.in-Some.ensures.first
    ∙ ap (λ l. l ∷ lines c.in-Some.rest.now) (sym c.without_carriage_return.ensures)

pub returns-in-None-clause-some : goal.returns-in-None-clause-some
returns-in-None-clause-some c = last_line c.args.text.now (search rules) c.in-None.ensures.none
