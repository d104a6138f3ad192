use Rattle.node_session.proofs.Failures.{stops_so}
use Rattle.node_session.proofs.laws.stops_where_failed.Goals as goal

pub returns : goal.returns
returns g c = stops_so g.D.SectorDisk.state
