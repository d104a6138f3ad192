use Rattle.std.proofs.Common.{◌≡◌, ◌++◌, drop}
use Rattle.durable_node.specs.Changes.{dropped_since}
use Rattle.durable_node.proofs.changes.dropped.Given as goal

abbrev pub invariant-loop-pair : goal.invariant-loop-pair
invariant-loop-pair l = l.dropped.items ++ dropped_since (drop l.pair-index l.held) l.hand.jobs ≡ dropped_since l.held l.hand.jobs
