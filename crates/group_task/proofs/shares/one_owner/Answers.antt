use Rattle.group_task.proofs.ShareLaws.{one_owner}
use Rattle.group_task.proofs.shares.one_owner.Goals as goal

pub returns : goal.returns
returns c = one_owner
