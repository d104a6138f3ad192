use Rattle.job_journal.proofs.PublicLaws.{value_is}
use Rattle.node_store.proofs.store.NodeStore.is_numbered.Goals as goal

pub returns : goal.returns
returns g c = rw (← c.self.view_is) (λ honest whole image is.
    value_is c.self.inside.journal image (c.self.invariant.journals honest whole image is))
