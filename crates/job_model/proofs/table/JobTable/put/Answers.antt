use Rattle.std.proofs.Common.{◌+◌, ◌∙◌, subst, sym, ap, arith}
use Rattle.job_model.specs.JobLists.{JobRoom, jobs_of}
use Rattle.job_model.specs.Order.{IsInOrder}
use Rattle.job_model.proofs.OrderLaws.{IdsRise-append}
use Rattle.job_model.proofs.Rows.{jobs_more}
use Rattle.job_model.proofs.table.JobTable.put.Goals as goal

pub invariant_of-self : goal.invariant_of-self
invariant_of-self c =
    let was = c.self.inside in
    subst (λ jobs. IsInOrder jobs (was.next + 1)) (sym (ap (λ (list : JobRoom). jobs_of list.jobs) c.push.ensures
    ∙ jobs_more was.jobs.jobs _))
    (IdsRise-append 0 (was.next + 1) (jobs_of was.jobs.jobs) _ (omega arith) (omega arith) c.self.invariant)
