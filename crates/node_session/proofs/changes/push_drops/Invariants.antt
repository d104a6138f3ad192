use Rattle.std.proofs.Common.{◌≡◌, ◌++◌, drop, flat_map}
use Rattle.node_session.specs.Changes.{drop_line}
use Rattle.node_session.proofs.changes.push_drops.Given as goal

abbrev pub invariant-loop-pair : goal.invariant-loop-pair
invariant-loop-pair l = l.text.items ++ flat_map drop_line (drop l.pair-index l.pairs) ≡ l.fn.text.items ++ flat_map drop_line l.pairs
