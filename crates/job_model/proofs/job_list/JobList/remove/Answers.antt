use Rattle.std.proofs.Common.{◌+◌, ◌++◌, List, take, drop, ◌∙◌, ap}
use Rattle.job_model.specs.Gaps.{beside}
use Rattle.job_model.specs.JobLists.{JobRoom, kept_in}
use Rattle.job_model.specs.declared.kept_job.KeptJob.{KeptJob}
use Rattle.job_model.proofs.Packing.{removed}
use Rattle.job_model.proofs.job_list.JobList.remove.Goals as goal

pub returns : goal.returns
returns c =
    let was = c.self.inside in
    ap (λ (jobs : List KeptJob). record { jobs = jobs; room = was.room })
    (removed (kept_in was.payloads.items) (beside was.gap was.rows.items) (beside c.take_out.new.gap c.take_out.new.items.items)
    c.args.place c.take_out.ensures.items)
    ∙ ap (λ (list : JobRoom). record list { jobs = take c.args.place list.jobs ++ drop (c.args.place + 1) list.jobs }) c.self.view_is
