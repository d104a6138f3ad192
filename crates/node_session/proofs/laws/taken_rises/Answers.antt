use Rattle.node_session.proofs.Taking.{taken_rises}
use Rattle.node_session.proofs.laws.taken_rises.Goals as goal

pub returns : goal.returns
returns c = taken_rises
