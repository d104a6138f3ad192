use Rattle.cluster_sim.specs.World.{AreOpened}
use Rattle.cluster_sim.proofs.nodes.opened.Given as goal

abbrev pub invariant-loop-number : goal.invariant-loop-number
invariant-loop-number l = AreOpened l.slots l.nodes l.number l.members.items
