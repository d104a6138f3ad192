use Rattle.node_core.proofs.Listings.{listed_still}
use Rattle.node_core.proofs.listing.Listing.reserve.Goals as goal

pub returns : goal.returns
returns c = λ jobs lists whole. listed_still jobs c.args.self.now.keys.keys c.reserve.new.self.keys c.reserve.ensures.keys.2 (lists whole)
