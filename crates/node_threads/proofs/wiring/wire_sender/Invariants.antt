use Rattle.node_threads.proofs.Links.{IsWiring}
use Rattle.node_threads.proofs.wiring.wire_sender.Given as goal

abbrev pub invariant-loop-receiver : goal.invariant-loop-receiver
invariant-loop-receiver l = IsWiring l.nodes l.capacity l.sender l.receiver l.ends.items
