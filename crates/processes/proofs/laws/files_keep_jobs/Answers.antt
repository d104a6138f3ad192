use Rattle.processes.proofs.Ids.{commands_are_whole, done_stays_done, ids_are_new}
use Rattle.processes.proofs.Jobs.{jobs_are_kept}
use Rattle.processes.proofs.Finished.{done_was_finished}
use Rattle.processes.proofs.Works.{work_is_job}
use Rattle.processes.proofs.laws.files_keep_jobs.Goals as goal

pub returns : goal.returns
returns c = record {
  kept = jobs_are_kept;
  whole = commands_are_whole;
  done = done_stays_done;
  new = ids_are_new;
  finished = done_was_finished;
  work = work_is_job;
}
