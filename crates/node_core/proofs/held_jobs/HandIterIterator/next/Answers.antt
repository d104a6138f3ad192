use Rattle.std.proofs.Common.{List, All, subst}
use Rattle.std.proofs.lemmas.List.Elements.{All-tail}
use Rattle.job_model.specs.declared.kept_job.KeptJob.{KeptJob}
use Rattle.node_core.specs.Listing.{HasNode}
use Rattle.node_core.proofs.held_jobs.HandIterIterator.next.Goals as goal

pub invariant_of-self-2 : goal.invariant_of-self-2
invariant_of-self-2 c = All-tail HasNode c.in_ok-next.field-0 c.next.new.self
    (subst (λ (kept : List KeptJob). All HasNode kept) c.in_ok-next.ensures.steps c.self.invariant)
