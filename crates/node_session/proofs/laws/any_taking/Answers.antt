use Rattle.node_session.proofs.Pieces.{any_taking_so}
use Rattle.node_session.proofs.laws.any_taking.Goals as goal

pub returns : goal.returns
returns g c = λ old new piece ms timers fed spends. any_taking_so g.D.SectorDisk.state old new piece ms timers fed spends
