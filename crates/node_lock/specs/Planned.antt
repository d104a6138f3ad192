-- What contracts see of the plans of a node's workers, and of the turns that were taken.
use Rattle.std.specs.Prelude.{ℕ, ◌+◌, List, length}
use Rattle.node_core.specs.declared.timer.Timer.{Timer}
use Rattle.node_lock.specs.declared.order.OperatorOrder.{OperatorOrder}
use Rattle.node_lock.specs.declared.worker.Turns.{Turns}
use Rattle.node_lock.specs.declared.worker.Worker.{Worker}
use Rattle.node_lock.specs.declared.worker.Worker.TheVariants.{Intake, Clock, Operator}

-- the turns of each worker of a node, in order
pub record Planned : Type 0 where
  pub intake : List ℕ
  pub clock : List Timer
  pub operator : List OperatorOrder

-- the length of a worker's plan
abbrev pub plan_len : Planned → Worker → ℕ
plan_len p Intake = length p.intake
plan_len p Clock = length p.clock
plan_len p Operator = length p.operator

-- the turns that a worker has taken
abbrev pub turns_of : Turns → Worker → ℕ
turns_of c Intake = c.intake
turns_of c Clock = c.clock
turns_of c Operator = c.operator

-- the worker has taken one turn more
abbrev pub with_turn : Turns → Worker → Turns
with_turn c Intake = record c { intake = c.intake + 1 }
with_turn c Clock = record c { clock = c.clock + 1 }
with_turn c Operator = record c { operator = c.operator + 1 }

-- nobody has taken a turn
abbrev pub no_turns : Turns
no_turns = record { intake = 0; clock = 0; operator = 0 }
