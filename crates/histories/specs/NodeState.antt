-- A node with its disk, as its history leaves it.
use Rattle.std.specs.Prelude.{ℕ, Bool, if◌then◌else◌, [], Option, None}
use Rattle.job_model.specs.declared.node_command.NodeCommand.{NodeCommand as Command}
use Rattle.job_model.specs.Durable.{Durable}
use Rattle.job_model.specs.Fold.{after_wanted}
use Rattle.job_model.specs.Answer.{answer_to}
use Rattle.node_core.specs.declared.event.Event.{Event}
use Rattle.node_core.specs.State.{State}
use Rattle.node_core.specs.Start.{alone}
use Rattle.node_core.specs.Effect.{Effect}
use Rattle.node_core.specs.Effects.{effect_of}
use Rattle.node_core.specs.Wants.{wants_of}

-- the state vector, what the disk keeps, and the command in doubt: one in which the device failed, so that it is open
-- whether the disk keeps it
pub record NodeState : Type 0 where
  pub state : State
  pub durable : Durable
  pub doubt : Option Command

-- a node opens Normal, alone in the group of its first count, with no job
abbrev pub opening : ℕ → NodeState
opening self = record { state = alone self 1; durable = record { counter = 1; next = 0; pending = [] }; doubt = None }

-- the command that an event wants
abbrev pub wants_at : ℕ → ℕ → NodeState → Event → Option Command
wants_at self nodes s event = wants_of self s.durable.pending event s.state

-- what an event makes, once its command is taken
abbrev pub effect_at : ℕ → ℕ → NodeState → Event → Effect
effect_at self nodes s event = effect_of nodes self s.durable.pending event (answer_to s.durable (wants_at self nodes s event)) s.state

-- what the disk keeps once the doubt is settled: with the command in doubt, or without it
abbrev pub settled : Bool → NodeState → Durable
settled kept s = if kept then after_wanted s.durable s.doubt else s.durable
