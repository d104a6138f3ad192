use Rattle.std.proofs.Common.{inl}
use Rattle.lease_file.proofs.Clauses.{still_has, view_lasts}
use Rattle.lease_file.proofs.file.LeaseFile.reserve.Goals as goal

pub returns-then-block-value-clause-images : goal.returns-then-block-value-clause-images
returns-then-block-value-clause-images g c = λ honest whole i since.
    inl (still_has g.D.SectorDisk.state g.met.D.SectorDisk.laws c.self.view_is c.self.invariant honest whole i since)

pub returns-then-block-value-clause-lasts : goal.returns-then-block-value-clause-lasts
returns-then-block-value-clause-lasts g c = λ honest whole ok. view_lasts g.D.SectorDisk.state c.self.view_is c.self.invariant honest whole
