use Rattle.histories.proofs.OneBooks.{one_coordinator, one_task}
use Rattle.histories.proofs.laws.one_coordinator_and_task.Goals as goal

pub returns : goal.returns
returns c = record { coordinator = one_coordinator; task = one_task }
