use Rattle.histories.proofs.Owners.{owner_finishes, one_worker}
use Rattle.histories.proofs.Jobs.{work_is_job}
use Rattle.histories.proofs.Pending.{one_job}
use Rattle.histories.proofs.Puts.{pending_was_put}
use Rattle.histories.proofs.Gone.{done_is_gone}
use Rattle.histories.proofs.laws.owner_finishes.Goals as goal

pub returns : goal.returns
returns c = record {
  finishes = owner_finishes;
  worker = one_worker;
  job = work_is_job;
  one_job = one_job;
  put = pending_was_put;
  gone =
      done_is_gone;
}
