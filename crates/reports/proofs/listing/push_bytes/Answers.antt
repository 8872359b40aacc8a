use Rattle.std.proofs.Common.{arith}
use Rattle.reports.proofs.Listings.{byte_more}
use Rattle.reports.proofs.listing.push_bytes.Goals as goal

pub loop-byte-preserved : goal.loop-byte-preserved
loop-byte-preserved c = record {
  text = byte_more c.args.text.now.items c.push_byte.new.text.items c.args.bytes.now c.loop-byte.byte-index (omega arith) (rw c.loop-byte.invariant.text at c.push_byte.ensures.text);
  length = omega arith;
}
