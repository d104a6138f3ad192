use Rattle.node_session.proofs.Taking.{opened_alone}
use Rattle.node_session.proofs.laws.opened_alone.Goals as goal

pub returns : goal.returns
returns c = opened_alone
