use Rattle.std.proofs.Common.{◌≡◌, ◌++◌}
use Rattle.node_words.specs.Words.{ids_text, more_ids_text}
use Rattle.invite_console.specs.Rows.{job_ids}
use Rattle.invite_console.proofs.rows.push_job_ids.Given as goal

abbrev pub invariant-loop-job : goal.invariant-loop-job
invariant-loop-job l = l.text.items ++ more_ids_text (job_ids l.job-iterator) ≡ l.fn.text.items ++ ids_text (job_ids l.fn.jobs)
