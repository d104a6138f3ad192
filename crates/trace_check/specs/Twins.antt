-- What contracts see of a node model, and what it says of an entry.
use Rattle.std.specs.Prelude.{ℕ, ◌≡◌, ◌<◌, ◌≤◌, Bool, true, false, List, [], Option, Some, None}
use Rattle.job_model.specs.declared.node_command.NodeCommand.{NodeCommand as Command}
use Rattle.job_model.specs.Durable.{Durable}
use Rattle.wire_msg.specs.Envelope.{Envelope}
use Rattle.group_task.specs.declared.node.TheConstants.{NODES}
use Rattle.node_core.specs.declared.event.Event.{Event}
use Rattle.node_core.specs.declared.event.Event.TheVariants.{Timer}
use Rattle.node_core.specs.declared.event.Event.TheVariants as on
use Rattle.node_core.specs.declared.timer.Timer.TheVariants.{Dispatch}
use Rattle.node_core.specs.declared.wanted.Wanted.{Wanted}
use Rattle.node_core.specs.Core.{Core}
use Rattle.node_core.specs.Planned.{wanted_by}
use Rattle.node_core.specs.NodeStep.{IsSpent}
use Rattle.node_core.specs.Start.{alone, down}
use Rattle.node_core.specs.State.{is_down}
use Rattle.histories.specs.NodeState.{NodeState, wants_at, settled}
use Rattle.histories.specs.declared.history_event.HistoryEvent.{HistoryEvent}
use Rattle.histories.specs.declared.history_event.HistoryEvent.TheVariants.{Did, Faulted}
use Rattle.histories.specs.After.{after, sent_at}
use Rattle.histories.specs.Possible.{IsPossible, IsSettling, Takes}
use Rattle.trace_check.specs.Claims.{Claim, MayCome, after_claim}

-- a node of a cluster, in this state
pub record Twin : Type 0 where
  pub id : ℕ
  pub nodes : ℕ
  pub node : NodeState

abbrev pub twin : Core → Durable → Option Command → Twin
twin core durable doubt = record {
  id = core.id;
  nodes = core.nodes;
  node =
      record { state = core.state; durable = durable; doubt = doubt };
}

-- a node as where it opens: alone in the group of its count, with these jobs, none in hand, and nothing in doubt
abbrev pub opened : ℕ → Durable → NodeState
opened self d = record { state = alone self d.counter; durable = d; doubt = None }

-- a node that is down has the one state of such nodes; nothing is in doubt at a node that is up, and what is in doubt can be taken
pub record IsTwin (t : Twin) : Type 0 where
  pub fallen : is_down t.node.state.phase ≡ true → t.node.state ≡ down t.id
  pub sure : is_down t.node.state.phase ≡ false → t.node.doubt ≡ None
  pub not_spent : IsSpent t.node.durable t.node.doubt → ⊥

-- what is true of a node model in a cluster of so many nodes
pub record IsReplica (nodes : ℕ) (t : Twin) : Type 0 where
  pub twin : IsTwin t
  pub size : t.nodes ≡ nodes
  pub within : t.id < nodes
  pub most : nodes ≤ NODES

-- this may come, and sends just these messages
abbrev pub Comes : Twin → HistoryEvent → List Envelope → Type 0
Comes t what sent = IsPossible t.id t.nodes t.node what × (sent ≡ sent_at t.id t.nodes t.node what)

-- it came: the node is in the state after it. Or it can't come, and nothing is said of the node
abbrev pub Judged : Twin → Twin → HistoryEvent → List Envelope → Bool → Type 0
Judged old new what sent true = Comes old what sent × (new.node ≡ after old.id old.nodes old.node what)
Judged old new what sent false = Comes old what sent → ⊥

-- a dispatch has nothing to do: it may come, sends nothing, and leaves the node in the same state
pub record RestsAt (t : Twin) : Type 0 where
  pub comes : Comes t (Did (Timer Dispatch)) []
  pub stays : t.node ≡ after t.id t.nodes t.node (Did (Timer Dispatch))

-- the event is a submit
abbrev pub IsSubmit : Event → Type 0
IsSubmit (on.Submit work) = Unit {0}
IsSubmit event = ⊥

-- what comes of an event that is handled, or else in whose command the device failed
abbrev pub came : Bool → Event → HistoryEvent
came true event = Did event
came false event = Faulted event

-- so of an entry
abbrev pub Taken : Twin → Twin → Claim → Bool → Type 0
Taken old new c true = MayCome old.id old.nodes old.node c × (new.node ≡ after_claim old.id old.nodes old.node c)
Taken old new c false = MayCome old.id old.nodes old.node c → ⊥

-- whether the command in doubt is on the disk is settled, and nothing is in doubt. Or it can't be
abbrev pub Settled : Twin → Twin → Bool → Bool → Type 0
Settled old new kept true = IsSettling kept old.node.doubt
    × (new.node ≡ record { state = old.node.state; durable = settled kept old.node; doubt = None })
Settled old new kept false = IsSettling kept old.node.doubt → ⊥

-- the event is taken, and wants this; or it isn't taken
abbrev pub WantsOf : Twin → Event → Option Wanted → Type 0
WantsOf t event None = Takes t.id t.nodes t.node event → ⊥
WantsOf t event (Some wants) = Takes t.id t.nodes t.node event × (wanted_by wants ≡ wants_at t.id t.nodes t.node event)
