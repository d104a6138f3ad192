use Rattle.std.proofs.Common.{◌≡◌, ◌++◌}
use Rattle.job_model.proofs.job_list.JobList.set.Given as goal

abbrev pub invariant-loop-kept : goal.invariant-loop-kept
invariant-loop-kept l = record {
  jobs : l.self.jobs ++ l.kept-iterator ≡ l.fn.other.jobs;
  room : l.self.room ≡ l.fn.self.room;
}
