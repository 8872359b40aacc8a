use Rattle.tlb.proofs.Holding.{all_later, both_seen, none_seen}
use Rattle.tlb.proofs.held.Held.seen_byte.Goals as goal

pub newest_of-requires : goal.newest_of-requires
newest_of-requires c = all_later c.self.inside.oldest c.in-Some.write c.self.inside.later.items c.as_slice.result.now c.self.inside.bytes c.self.invariant.0 c.in-Some.is c.as_slice.ensures.value

pub returns-in-Some : goal.returns-in-Some
returns-in-Some c =
    both_seen c.args.phys.now c.self.inside.oldest c.in-Some.write c.self.inside.later.items c.as_slice.result.now c.gated-out.result c.byte-byte.result c.newest-byte.result c.newest_of.result c.args.at c.args.self.now
    c.in-Some.is c.as_slice.ensures.value c.gated-out.ensures c.byte-byte.ensures c.newest-byte.ensures c.newest_of.ensures c.self.view_is

pub returns-in-None : goal.returns-in-None
returns-in-None c =
    none_seen c.args.phys.now c.self.inside.oldest c.self.inside.later.items c.byte-byte.result c.args.at c.args.self.now c.in-None.is c.self.invariant.1 c.byte-byte.ensures c.self.view_is
