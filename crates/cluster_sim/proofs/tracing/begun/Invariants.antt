use Rattle.std.proofs.Common.{◌≡◌, [], replicate}
use Rattle.cluster_sim.proofs.tracing.begun.Given as goal

abbrev pub invariant-loop-number : goal.invariant-loop-number
invariant-loop-number l = l.histories.items ≡ replicate l._number []
