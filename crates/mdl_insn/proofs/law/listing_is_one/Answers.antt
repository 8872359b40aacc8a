use Rattle.mdl_insn.proofs.Listings.{one_listing}
use Rattle.mdl_insn.proofs.law.listing_is_one.Goals as goal

pub returns : goal.returns
returns c = one_listing
