use Rattle.cluster_sim.proofs.Answering.{idle_areas}
use Rattle.cluster_sim.proofs.nodes.Nodes.apply.Goals as goal

pub returns-in-Lose-clause-acted : goal.returns-in-Lose-clause-acted
returns-in-Lose-clause-acted c = rw c.in-Lose.is c.lose.ensures.acted

pub returns-in-Cut-clause-acted : goal.returns-in-Cut-clause-acted
returns-in-Cut-clause-acted c = rw c.in-Cut.is c.link.ensures.acted

pub returns-in-Mend-clause-acted : goal.returns-in-Mend-clause-acted
returns-in-Mend-clause-acted c = rw c.in-Mend.is c.link-in-Mend.ensures.acted

pub returns-in-Lose-clause-areas : goal.returns-in-Lose-clause-areas
returns-in-Lose-clause-areas c = idle_areas c.args.self.now.nodes c.lose.new.self.nodes c.lose.result c.lose.ensures.nodes
    c.lose.ensures.own

pub returns-in-Cut-clause-areas : goal.returns-in-Cut-clause-areas
returns-in-Cut-clause-areas c = idle_areas c.args.self.now.nodes c.link.new.self.nodes c.link.result c.link.ensures.nodes c.link.ensures.own

pub returns-in-Mend-clause-areas : goal.returns-in-Mend-clause-areas
returns-in-Mend-clause-areas c = idle_areas c.args.self.now.nodes c.link-in-Mend.new.self.nodes c.link-in-Mend.result
    c.link-in-Mend.ensures.nodes c.link-in-Mend.ensures.own
