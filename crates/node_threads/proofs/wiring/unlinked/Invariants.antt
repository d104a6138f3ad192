use Rattle.node_threads.specs.Wired.{AreUnlinked}
use Rattle.node_threads.proofs.wiring.unlinked.Given as goal

abbrev pub invariant-loop-node : goal.invariant-loop-node
invariant-loop-node l = AreUnlinked l._node l.ends.items
