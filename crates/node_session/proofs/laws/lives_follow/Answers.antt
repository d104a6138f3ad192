use Rattle.node_session.proofs.Lives.{lives_follow}
use Rattle.node_session.proofs.laws.lives_follow.Goals as goal

pub returns : goal.returns
returns c = lives_follow
