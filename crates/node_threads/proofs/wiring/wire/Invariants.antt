use Rattle.node_threads.specs.Wired.{AreWiredBelow}
use Rattle.node_threads.proofs.wiring.wire.Given as goal

abbrev pub invariant-loop-sender : goal.invariant-loop-sender
invariant-loop-sender l = AreWiredBelow l.nodes l.capacity l.sender l.ends.items
