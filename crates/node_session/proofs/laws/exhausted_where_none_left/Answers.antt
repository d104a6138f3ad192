use Rattle.node_session.proofs.Refusals.{exhausted_so}
use Rattle.node_session.proofs.laws.exhausted_where_none_left.Goals as goal

pub returns : goal.returns
returns g c = exhausted_so g.D.SectorDisk.state
