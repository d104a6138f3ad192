use Rattle.std.proofs.Common.{ap, refl, ◌∙◌}
use Rattle.std.proofs.lemmas.List.{nil_from_length}
use Rattle.node_core.proofs.Listings.{none_listed}
use Rattle.node_core.proofs.listing.Listing.clear.Goals as goal
use Rattle.node_core.proofs.listing.Listing.clear.Goals.{then-not-is_empty, else-not-is_empty}

pub returns : goal.returns
returns c = λ whole. none_listed c.if-not-is_empty.self.keys.keys (elim c.if-not-is_empty.branch [
  | then-not-is_empty w ↦ ap (λ l. l.keys.keys) w.self-is ∙ w.clear.ensures.empty
  | else-not-is_empty w ↦ ap (λ l. l.keys.keys) w.self-is ∙ nil_from_length c.args.self.now.keys.keys (w.if-not-is_empty.ensures.0 refl)
])
