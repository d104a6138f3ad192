use Rattle.runs.proofs.Fences.{one_worker_each}
use Rattle.runs.proofs.Finished.{done_was_finished}
use Rattle.runs.proofs.laws.jobs_have_one_worker.Goals as goal

pub returns : goal.returns
returns c = record { worker = one_worker_each; finished = done_was_finished }
