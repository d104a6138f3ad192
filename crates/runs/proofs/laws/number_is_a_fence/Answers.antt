use Rattle.runs.proofs.Fences.{one_coordinator, one_task, one_leader, one_owner_each, members_agree}
use Rattle.runs.proofs.laws.number_is_a_fence.Goals as goal

pub returns : goal.returns
returns c = record {
  coordinator = one_coordinator;
  task = one_task;
  leader = one_leader;
  owner = one_owner_each;
  members = members_agree;
}
