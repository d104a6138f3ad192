use Rattle.processes.proofs.Groups.{creator_leads, numbers_are_above, numbers_are_new, one_task_each, one_worker_each}
use Rattle.processes.proofs.Leading.{leader_counts_rise}
use Rattle.processes.proofs.laws.files_have_one_book.Goals as goal

pub returns : goal.returns
returns c = record {
  once = numbers_are_new;
  above = numbers_are_above;
  leader = creator_leads;
  task = one_task_each;
  worker = one_worker_each;
  rise = leader_counts_rise;
}
