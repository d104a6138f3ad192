use Rattle.sim_net.proofs.Changes.{delivered_by_changes}
use Rattle.sim_net.proofs.laws.delivered_by_changes.Goals as goal

pub returns : goal.returns
returns c = delivered_by_changes
