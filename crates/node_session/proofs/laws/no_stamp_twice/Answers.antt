use Rattle.node_session.proofs.Climbing.{no_stamp_twice}
use Rattle.node_session.proofs.laws.no_stamp_twice.Goals as goal

pub returns : goal.returns
returns c = no_stamp_twice
