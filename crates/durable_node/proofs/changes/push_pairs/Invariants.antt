use Rattle.std.proofs.Common.{◌≡◌, ◌++◌, map}
use Rattle.durable_node.specs.Changes.{held_by}
use Rattle.durable_node.proofs.changes.push_pairs.Given as goal

abbrev pub invariant-loop-job : goal.invariant-loop-job
invariant-loop-job l = l.pairs.items ++ map held_by l.job-iterator ≡ l.fn.pairs.items ++ map held_by l.fn.jobs
