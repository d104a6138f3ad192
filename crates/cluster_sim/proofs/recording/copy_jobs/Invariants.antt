use Rattle.std.proofs.Common.{◌≡◌, ◌+◌, ◌++◌, length, vec_len, vec_capacity}
use Rattle.cluster_sim.proofs.recording.copy_jobs.Given as goal

abbrev pub invariant-loop-job : goal.invariant-loop-job
invariant-loop-job l = record {
  copied : l.jobs.items ++ l.job-iterator ≡ l.fn.jobs.items ++ l.fn.more;
  len : vec_len l.jobs + length l.job-iterator ≡ vec_len l.fn.jobs + length l.fn.more;
  room : vec_capacity l.jobs ≡ vec_capacity l.fn.jobs;
}
