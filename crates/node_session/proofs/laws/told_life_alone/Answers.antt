use Rattle.node_session.proofs.Told.{told_life_alone}
use Rattle.node_session.proofs.laws.told_life_alone.Goals as goal

pub returns : goal.returns
returns c = told_life_alone
