use Rattle.lease_network.proofs.Happens.{leases_happen}
use Rattle.lease_network.proofs.leases_happen.Goals as goal

pub returns : goal.returns
returns c = leases_happen
