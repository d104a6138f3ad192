use Rattle.lease_file.proofs.Clauses.{view_lasts}
use Rattle.lease_file.proofs.file.LeaseFile.is_kept.Goals as goal

pub returns : goal.returns
returns g c = view_lasts g.D.SectorDisk.state c.self.view_is c.self.invariant
