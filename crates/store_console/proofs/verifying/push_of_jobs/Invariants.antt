use Rattle.std.proofs.Common.{◌≡◌, ◌++◌}
use Rattle.store_console.specs.Findings.{job_findings}
use Rattle.store_console.proofs.verifying.push_of_jobs.Given as goal

abbrev pub invariant-loop-job : goal.invariant-loop-job
invariant-loop-job l = l.findings.items ++ job_findings l.others l.job-iterator ≡ l.fn.findings.items ++ job_findings l.others l.jobs
