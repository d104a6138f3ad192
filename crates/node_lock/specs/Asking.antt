-- What a turn asks of its node, by the plan of its worker.
use Rattle.std.specs.Prelude.{ℕ, ◌≡◌, List, slice_get, Option, Some, None}
use Rattle.wire_msg.specs.Envelope.{Envelope}
use Rattle.node_core.specs.declared.event.Event.{Event}
use Rattle.node_core.specs.declared.event.Event.TheVariants as on
use Rattle.node_core.specs.declared.timer.Timer.{Timer}
use Rattle.node_lock.specs.declared.order.OperatorOrder.{OperatorOrder}
use Rattle.node_lock.specs.declared.order.OperatorOrder.TheVariants as order
use Rattle.node_lock.specs.declared.worker.Worker.{Worker}
use Rattle.node_lock.specs.declared.worker.Worker.TheVariants.{Intake, Clock, Operator}
use Rattle.node_lock.specs.Planned.{Planned}

-- an event is handed to the node, or none is since a poll took nothing, or its disk is armed, or it crashes and these bytes
-- are left in the sectors that weren't synced
pub data Asked : Type 0 where
  Hand : (event : Event) → Asked
  NoEvent : Asked
  Arm : (calls : ℕ) → Asked
  Crash : (fill : List ℕ) → Asked

-- what the operator's order asks
abbrev pub asked_in : OperatorOrder → Asked
asked_in (order.Submit work) = Hand (on.Submit work)
asked_in (order.Finish origin id) = Hand (on.Finish origin id)
asked_in (order.Arm calls) = Arm calls
asked_in (order.Crash fill) = Crash fill
asked_in order.Recover = Hand on.Recover

-- what a poll asks that took this
abbrev pub asked_by : Option Envelope → Asked
asked_by (Some m) = Hand (on.Deliver m)
asked_by None = NoEvent

-- the worker's plan asks this at this turn
abbrev pub IsAsked : Planned → Worker → ℕ → Asked → Type 0
IsAsked p Intake i asked = ((j : ℕ) × (slice_get p.intake i ≡ Some j)) × ((arrived : Option Envelope) × (asked ≡ asked_by arrived))
IsAsked p Clock i asked = (t : Timer) × (slice_get p.clock i ≡ Some t) × (asked ≡ Hand (on.Timer t))
IsAsked p Operator i asked = (o : OperatorOrder) × (slice_get p.operator i ≡ Some o) × (asked ≡ asked_in o)
