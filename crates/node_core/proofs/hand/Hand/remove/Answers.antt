use Rattle.std.proofs.Common.{subst, sym}
use Rattle.node_core.specs.Listing.{Lists, in_hand}
use Rattle.node_core.proofs.hand.Hand.remove.Goals as goal

pub invariant_of-self : goal.invariant_of-self
invariant_of-self c = record {
  nodes = c.remove_job.ensures.nodes;
  lists = subst (λ jobs. Lists c.forget.new.self jobs) (sym c.remove_job.ensures.jobs)
      (c.forget.ensures (in_hand c.self.inside.list.jobs) c.self.invariant.lists);
}
