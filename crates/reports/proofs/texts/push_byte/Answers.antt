use Rattle.reports.proofs.texts.push_byte.Goals as goal

pub returns-clause-text : goal.returns-clause-text
returns-clause-text c = rw c.from.ensures at c.push_hex.ensures.text
