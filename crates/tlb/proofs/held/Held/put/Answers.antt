use Rattle.tlb.proofs.Holding.{all_later, both_placed}
use Rattle.tlb.proofs.held.Held.put.Goals as goal

pub put_all-requires : goal.put_all-requires
put_all-requires c = all_later c.self.inside.oldest c.in-Some.write c.self.inside.later.items c.as_slice.result.now c.self.inside.bytes c.self.invariant.0 c.in-Some.is c.as_slice.ensures.value

pub returns-then-not-is_empty-clause-placed : goal.returns-then-not-is_empty-clause-placed
returns-then-not-is_empty-clause-placed c =
    both_placed c.self.inside.oldest c.in-Some.write c.self.inside.later.items c.as_slice.result.now c.args.phys.now c.put.new.phys c.put_all.new.phys c.args.self.now
    c.in-Some.is c.as_slice.ensures.value c.put.ensures.placed c.put_all.ensures.placed c.self.view_is
