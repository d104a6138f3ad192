use Rattle.std.proofs.Common.{List, All, subst, sym}
use Rattle.job_model.specs.declared.kept_job.KeptJob.{KeptJob}
use Rattle.node_core.specs.Listing.{HasNode, Lists, in_hand}
use Rattle.node_core.proofs.hand.Hand.reserve.Goals as goal

pub invariant_of-self-2 : goal.invariant_of-self-2
invariant_of-self-2 c =
    let was = c.self.inside in
    record {
      nodes = subst (λ (kept : List KeptJob). All HasNode kept) (sym c.reserve.ensures.jobs) c.self.invariant.nodes;
      lists = subst (λ (kept : List KeptJob). Lists c.reserve-2.new.self (in_hand kept)) (sym c.reserve.ensures.jobs)
          (c.reserve-2.ensures (in_hand was.list.jobs) c.self.invariant.lists);
    }
