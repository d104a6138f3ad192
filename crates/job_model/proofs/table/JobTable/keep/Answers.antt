use Rattle.std.proofs.Common.{◌∙◌, subst, sym, ap, arith}
use Rattle.job_model.specs.JobLists.{JobRoom, jobs_of}
use Rattle.job_model.specs.Order.{IsInOrder}
use Rattle.job_model.specs.Table.{CanKeep}
use Rattle.job_model.proofs.OrderLaws.{IdsRise-append}
use Rattle.job_model.proofs.Rows.{jobs_more}
use Rattle.job_model.proofs.table.JobTable.keep.Goals as goal

pub invariant_of-self : goal.invariant_of-self
invariant_of-self c =
    let was = c.self.inside in
    let can : CanKeep (record { next = was.next; pending = jobs_of was.jobs.jobs; room = was.jobs.room }) c.args.job.id =
    subst (λ t. CanKeep t c.args.job.id) (sym c.self.view_is) c.requires.in_order in
    subst (λ jobs. IsInOrder jobs was.next) (sym (ap (λ (list : JobRoom). jobs_of list.jobs) c.push.ensures ∙ jobs_more was.jobs.jobs _))
    (IdsRise-append 0 was.next (jobs_of was.jobs.jobs) c.args.job (omega arith) can.1 can.0)
