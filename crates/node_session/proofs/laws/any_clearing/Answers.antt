use Rattle.node_session.proofs.Pieces.{any_clearing_so}
use Rattle.node_session.proofs.laws.any_clearing.Goals as goal

pub returns : goal.returns
returns g c = λ old mid new first second a b. any_clearing_so g.D.SectorDisk.state old mid new first second a b
