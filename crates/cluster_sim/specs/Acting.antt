-- An act at nodes over their disks.
use Rattle.std.specs.Prelude.{ℕ, length}
use Rattle.schedule.specs.declared.act.Act.{Act}
use Rattle.runs.specs.World.{World}
use Rattle.runs.specs.Step.{Step, world_after}
use Rattle.runs.specs.Acts.{act_outcome}
use Rattle.cluster_sim.specs.Names.{node_named}
use Rattle.cluster_sim.specs.Operated.{Operates}
use Rattle.cluster_sim.specs.World.{FaultsAt, StandsFor, WorldView, armed_by}

-- The act had this step, and the nodes stand for what it led to. It did to the disk of its node what an act of the operator does, and
-- faulted exactly where that disk failed in it.
pub record IsActed (nodes : ℕ) (old new : WorldView) (w : World) (a : Act) (step : Step) : Type 0 where
  pub stands : StandsFor new (world_after nodes w step)
  pub operates : Operates a old new (act_outcome nodes w a step)
  pub faults : FaultsAt (armed_by a) (node_named (length old.nodes) old.net.sent a) old new (act_outcome nodes w a step)
