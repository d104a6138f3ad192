use Rattle.std.proofs.Common.{ℕ, subst}
use Rattle.node_core.specs.Held.{without_held}
use Rattle.node_core.specs.Listing.{AreKeys}
use Rattle.node_core.proofs.Listings.{listed_less}
use Rattle.node_core.proofs.listing.Listing.forget.Goals as goal

pub returns : goal.returns
returns c = λ jobs lists whole.
    subst (λ (o : ℕ). AreKeys (without_held jobs o c.args.id) c.remove.new.self.keys) c.number.ensures.value
    (listed_less jobs c.number.result c.args.id c.args.self.now.keys.keys c.remove.new.self.keys c.remove.ensures.updates.0 (lists whole))
