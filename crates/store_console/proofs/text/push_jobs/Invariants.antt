use Rattle.std.proofs.Common.{◌≡◌, ◌++◌, flat_map}
use Rattle.console_text.specs.Ends.{line}
use Rattle.store_console.specs.Replies.{job_text}
use Rattle.store_console.proofs.text.push_jobs.Given as goal

abbrev pub invariant-loop-job : goal.invariant-loop-job
invariant-loop-job l = l.text.items ++ flat_map (λ job. line (job_text job)) l.job-iterator
    ≡ l.fn.text.items ++ flat_map (λ job. line (job_text job)) l.jobs
