use Rattle.cluster_sim.proofs.Opening.{starts}
use Rattle.cluster_sim.proofs.world.World.open.Goals as goal

pub returns-clause-starts : goal.returns-clause-starts
returns-clause-starts c = starts c.args.slots c.args.nodes c.in_ok-members.members.items c.new.result.network c.in_ok-members.ensures (λ i.
    (c.new.ensures i).network)

pub returns-clause-areas : goal.returns-clause-areas
returns-clause-areas c = c.in_ok-members.ensures.areas

pub returns-clause-unarmed : goal.returns-clause-unarmed
returns-clause-unarmed c = c.in_ok-members.ensures.unarmed
