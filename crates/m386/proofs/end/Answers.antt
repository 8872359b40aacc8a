use Rattle.m386.proofs.end.Goals as goal

pub returns : goal.returns
returns c = record {
  status = c.answer.result;
  number = c.code.ensures;
  kept = c.answer.ensures;
}
