use Rattle.std.proofs.Common.{◌≡◌, List, ◌∙◌, subst, sym, ap}
use Rattle.std.specs.Prelude.{Some}
use Rattle.job_model.specs.Fold.{without_job}
use Rattle.job_model.specs.JobLists.{JobRoom, jobs_of}
use Rattle.job_model.specs.Order.{IsInOrder}
use Rattle.job_model.specs.Table.{IsPlaceOf, Table}
use Rattle.job_model.specs.declared.job.Job.{Job}
use Rattle.job_model.proofs.OrderLaws.{IdsRise-without_job}
use Rattle.job_model.proofs.Rows.{jobs_left}
use Rattle.job_model.proofs.table.JobTable.done.Goals as goal

pub invariant_of-self : goal.invariant_of-self
invariant_of-self c =
    let was = c.self.inside in
    let id = c.args.id in
    let there : IsPlaceOf (jobs_of was.jobs.jobs) id (Some c.in-Some.place) =
    subst (λ place. IsPlaceOf (jobs_of was.jobs.jobs) id place) c.in-Some.is (c.place_of.ensures was.next c.self.invariant) in
    let left_is : jobs_of c.remove.new.self.jobs ≡ without_job (jobs_of was.jobs.jobs) id =
    ap (λ (list : JobRoom). jobs_of list.jobs) c.remove.ensures ∙ jobs_left was.jobs.jobs id c.in-Some.place there in
    subst (λ jobs. IsInOrder jobs was.next) (sym left_is) (IdsRise-without_job 0 was.next (jobs_of was.jobs.jobs) id c.self.invariant)

pub returns-in-Some : goal.returns-in-Some
returns-in-Some c =
    let was = c.self.inside in
    let id = c.args.id in
    let there : IsPlaceOf (jobs_of was.jobs.jobs) id (Some c.in-Some.place) =
    subst (λ place. IsPlaceOf (jobs_of was.jobs.jobs) id place) c.in-Some.is (c.place_of.ensures was.next c.self.invariant) in
    ap (λ (list : JobRoom). record { next = was.next; pending = jobs_of list.jobs; room = list.room }) c.remove.ensures
    ∙ ap (λ (jobs : List Job). record { next = was.next; pending = jobs; room = was.jobs.room })
    (jobs_left was.jobs.jobs id c.in-Some.place there)
    ∙ ap (λ (t : Table). record t { pending = without_job t.pending id }) c.self.view_is
