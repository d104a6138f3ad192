use Rattle.node_session.proofs.Refusals.{device_so}
use Rattle.node_session.proofs.laws.device_where_failed.Goals as goal

pub returns : goal.returns
returns g c = device_so g.D.SectorDisk.state
