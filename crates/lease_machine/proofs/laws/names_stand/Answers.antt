use Rattle.std.proofs.Common.{refl, inl}
use Rattle.lease_machine.proofs.Standings.{later, stays, steps}
use Rattle.lease_machine.proofs.laws.names_stand.Goals as goal

pub returns-clause-same : goal.returns-clause-same
returns-clause-same c = λ boot now v. inl refl

pub returns-clause-later : goal.returns-clause-later
returns-clause-later c = later

pub returns-clause-stays : goal.returns-clause-stays
returns-clause-stays c = stays

pub returns-clause-steps : goal.returns-clause-steps
returns-clause-steps c = steps
