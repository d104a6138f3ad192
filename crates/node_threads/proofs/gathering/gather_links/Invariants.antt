use Rattle.node_threads.proofs.Links.{AreGatheredBelow}
use Rattle.node_threads.proofs.gathering.gather_links.Given as goal

abbrev pub invariant-loop-sender : goal.invariant-loop-sender
invariant-loop-sender l = AreGatheredBelow l.sender l.fn.left.items l.left.items l.links.items
