use Rattle.node_threads.proofs.Facts.{AreEndedBelow}
use Rattle.node_threads.proofs.ended.take_all.Given as goal

abbrev pub invariant-loop-node : goal.invariant-loop-node
invariant-loop-node l = AreEndedBelow l.node l.size l.plans l.histories.items l.left.items
