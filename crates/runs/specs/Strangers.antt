-- Nothing is sent to a node outside the cluster.
use Rattle.std.specs.Prelude.{ℕ, List}
use Rattle.histories.specs.Ends.{AreToNodes}
use Rattle.runs.specs.World.{start}
use Rattle.runs.specs.Step.{Step}
use Rattle.runs.specs.Run.{RunFrom, world_at}

-- in every run all messages that were ever sent are
abbrev pub NoStrangers : Type 0
NoStrangers = (nodes : ℕ) (steps : List Step) → RunFrom nodes (start nodes) steps
    → AreToNodes nodes (world_at nodes (start nodes) steps).net.sent
