use Rattle.std.proofs.Common.{◌≡◌, ◌++◌, drop}
use Rattle.cluster_sim.proofs.tracing.sent_since.Given as goal

abbrev pub invariant-loop-at : goal.invariant-loop-at
invariant-loop-at l = l.sent.items ++ drop l.at l.messages.messages ≡ drop l.place l.messages.messages
