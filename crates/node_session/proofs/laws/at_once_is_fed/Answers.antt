use Rattle.node_session.proofs.Pieces.{at_once_so}
use Rattle.node_session.proofs.laws.at_once_is_fed.Goals as goal

pub returns : goal.returns
returns g c = λ old new piece fed. at_once_so g.D.SectorDisk.state old new piece fed
