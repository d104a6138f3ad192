use Rattle.std.proofs.Common.{◌≡◌, drop}
use Rattle.durable_node.specs.Changes.{pair_in}
use Rattle.durable_node.proofs.changes.place_of.Given as goal

abbrev pub invariant-loop-pair : goal.invariant-loop-pair
invariant-loop-pair l = pair_in (drop l.pair-index l.pairs) l.job.origin l.job.id ≡ pair_in l.pairs l.job.origin l.job.id
