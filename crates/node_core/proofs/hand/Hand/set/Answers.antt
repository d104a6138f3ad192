use Rattle.std.proofs.Common.{All, subst, sym}
use Rattle.job_model.specs.JobLists.{JobRoom}
use Rattle.node_core.specs.Listing.{HasNode}
use Rattle.node_core.proofs.hand.Hand.set.Goals as goal

pub invariant_of-self : goal.invariant_of-self
invariant_of-self c = record {
  nodes = subst (λ (list : JobRoom). All HasNode list.jobs) (sym c.set.ensures) c.other.invariant.nodes;
  lists = c.give_up.ensures _;
}
