use Rattle.std.proofs.Common.{◌≡◌, ◌++◌, drop}
use Rattle.durable_node.specs.Changes.{taken_since}
use Rattle.durable_node.proofs.changes.taken.Given as goal

abbrev pub invariant-loop-at : goal.invariant-loop-at
invariant-loop-at l = l.taken.items ++ taken_since l.held (drop l.at l.jobs) ≡ taken_since l.held (drop l.first l.jobs)
