-- The nodes of a cluster and its network, at one moment.
use Rattle.std.specs.Prelude.{ℕ, List, map, slice_get, None, unwrap_or}
use Rattle.std.specs.List.{range_with_len}
use Rattle.job_model.specs.Durable.{formatted}
use Rattle.node_core.specs.Start.{down}
use Rattle.histories.specs.NodeState.{NodeState, opening}
use Rattle.sim_net.specs.Network.{Network, silent}

pub record World : Type 0 where
  pub states : List NodeState
  pub net : Network

-- node n of these, and one that is down where there is none
abbrev pub node_in : List NodeState → ℕ → NodeState
node_in states n = unwrap_or (slice_get states n) (record { state = down n; durable = formatted; doubt = None })

-- each node alone in the group of its first count, with no job, and nothing sent
abbrev pub start : ℕ → World
start nodes = record { states = map opening (range_with_len 0 nodes); net = silent }
