use Rattle.std.proofs.Common.{◌≡◌, length}
use Rattle.node_core.specs.Places.{ArePlacesFrom}
use Rattle.node_core.proofs.places.places_of.Given as goal

abbrev pub invariant-loop-at : goal.invariant-loop-at
invariant-loop-at l = record {
  placed : ArePlacesFrom l.jobs l.at l.first l.next.items;
  wide : length l.first ≡ 256;
}
