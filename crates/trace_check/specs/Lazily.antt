-- A dispatch that is put off, by which a node would take all its pending jobs in hand.
use Rattle.std.specs.Prelude.{◌≡◌, Bool, true, false}
use Rattle.node_core.specs.declared.event.Event.TheVariants.{Timer}
use Rattle.node_core.specs.declared.timer.Timer.TheVariants.{Dispatch}
use Rattle.histories.specs.declared.history_event.HistoryEvent.TheVariants.{Did}
use Rattle.histories.specs.After.{after}
use Rattle.trace_check.specs.declared.trace.TraceAction.{TraceAction}
use Rattle.trace_check.specs.declared.trace.TraceAction.TheVariants as action
use Rattle.trace_check.specs.Twins.{opened}
use Rattle.trace_check.specs.Twins.{Twin}

-- the node, once it has dispatched where it has yet to
abbrev pub paid : Bool → Twin → Twin
paid false t = t
paid true t = record { id = t.id; nodes = t.nodes; node = after t.id t.nodes t.node (Did (Timer Dispatch)) }

-- it has yet to where it stands as where it opens alone
abbrev pub MayOwe : Bool → Twin → Type 0
MayOwe false t = Unit {0}
MayOwe true t = t.node ≡ opened t.id t.node.durable

-- all that is in hand is lost: the node crashes, or it recovers
abbrev pub Loses : TraceAction → Type 0
Loses action.Crashed = Unit {0}
Loses (action.Recovered false) = Unit {0}
Loses a = ⊥
