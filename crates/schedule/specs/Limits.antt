-- The limits that a schedule which was read keeps.
use Rattle.std.specs.Prelude.{List, length, ◌≤◌}
use Rattle.group_task.specs.declared.node.TheConstants.{NODES}
use Rattle.schedule.specs.declared.act.Act.{Act}
use Rattle.schedule.specs.declared.size.Size.{Size}
use Rattle.disk_layout.specs.declared.layout.TheConstants.{LEAST_SLOTS, MOST_SLOTS}
use Rattle.schedule.specs.declared.size.TheConstants.{MOST_ACTS}

-- a cluster that can be opened
abbrev pub SizeFits : Size → Type 0
SizeFits size = (1 ≤ size.nodes) × (size.nodes ≤ NODES) × (LEAST_SLOTS ≤ size.slots) × (size.slots ≤ MOST_SLOTS)

-- and so many acts that can be run in it
pub record IsWithinLimits (size : Size) (acts : List Act) : Type 0 where
  pub nodes : (1 ≤ size.nodes) × (size.nodes ≤ NODES)
  pub slots : (LEAST_SLOTS ≤ size.slots) × (size.slots ≤ MOST_SLOTS)
  pub few : length acts ≤ MOST_ACTS
