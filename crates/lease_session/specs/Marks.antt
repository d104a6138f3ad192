-- What a process does in a turn, one thing behind another.
use Rattle.lease_runs.specs.Voter.{Client}
use Rattle.lease_network.specs.Network.{Event}
use Rattle.lease_session.specs.Rows.{Row}

-- a step of the network, by a client of the process, and a line of the answer
pub data Mark : Type 0 where
  did : Client → Event → Mark
  wrote : Row → Mark
