use Rattle.node_session.proofs.Told.{own_life_alone}
use Rattle.node_session.proofs.laws.own_life_alone.Goals as goal

pub returns : goal.returns
returns c = own_life_alone
