use Rattle.lease_network.proofs.Suspended.{two_may_hold}
use Rattle.lease_network.proofs.two_may_hold.Goals as goal

pub returns : goal.returns
returns c = two_may_hold
