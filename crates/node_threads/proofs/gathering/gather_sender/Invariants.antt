use Rattle.node_threads.proofs.Links.{IsGathering}
use Rattle.node_threads.proofs.gathering.gather_sender.Given as goal

abbrev pub invariant-loop-receiver : goal.invariant-loop-receiver
invariant-loop-receiver l = IsGathering l.sender l.receiver l.fn.left.items l.left.items l.fn.links.items l.links.items
