-- What comes of one call of the node, over any disk.
use Rattle.std.specs.Prelude.{ℕ, ◌≡◌, [], List, true, None, Some, Option, Result, Ok, Err}
use Rattle.job_model.specs.Durable.{Durable}
use Rattle.wire_msg.specs.Envelope.{Envelope}
use Rattle.node_core.specs.declared.event.Event.{Event}
use Rattle.node_core.specs.declared.event.Event.TheVariants as on
use Rattle.node_core.specs.Start.{down}
use Rattle.node_core.specs.State.{is_down}
use Rattle.node_core.specs.declared.fault.CoreFault.TheVariants as core
use Rattle.histories.specs.NodeState.{NodeState}
use Rattle.histories.specs.declared.history_event.HistoryEvent.{HistoryEvent}
use Rattle.histories.specs.declared.history_event.HistoryEvent.TheVariants.{Did, Refused, Faulted, NoOp, Crashed, Recovered, MountFailed}
use Rattle.histories.specs.declared.history_event.HistoryEvent.TheVariants.{RaiseFailed, RaiseRefused}
use Rattle.histories.specs.declared.history_event.NoOpKind.{NoOpKind}
use Rattle.histories.specs.declared.history_event.NoOpKind.TheVariants.{Nothing, Compacted, CompactDown, CompactAreaExhausted}
use Rattle.histories.specs.HistoryEvent.{event_of, IsOf}
use Rattle.histories.specs.After.{after, sent_at}
use Rattle.histories.specs.Possible.{IsPossible, IsOfSlots}
use Rattle.durable_node.specs.declared.fault.NodeFault.{NodeFault}
use Rattle.durable_node.specs.declared.fault.NodeFault.TheVariants as node
use Rattle.durable_node.specs.declared.step_report.StepReport.{StepReport}
use Rattle.durable_node.specs.Faults.{shown}
use Rattle.durable_node.specs.Remounting.{IsUnmounted}
use Rattle.durable_node.specs.Stepping.{answer_at}

pub data Turn : Type 0 where
  -- the node's history went on by this
  Goes : (what : HistoryEvent) → Turn
  -- the disk couldn't be mounted, and all is as it was
  Unmounted : (fault : NodeFault) → Turn
  -- the disk was mounted which gave this: a history begins with it, and its first entry is this one
  Begins : (mounted : Durable) (what : HistoryEvent) → Turn

-- where a history begins: a node that is down, over a disk that keeps this
abbrev pub begun : ℕ → Durable → NodeState
begun self mounted = record { state = down self; durable = mounted; doubt = None }

-- a counter that can't be raised leaves all as it was
abbrev pub after_begun : ℕ → ℕ → NodeState → Durable → HistoryEvent → NodeState
after_begun self nodes s mounted (Recovered kept) = after self nodes (begun self mounted) (Recovered kept)
after_begun self nodes s mounted (RaiseFailed kept) = after self nodes (begun self mounted) (RaiseFailed kept)
after_begun self nodes s mounted what = s

-- the state after a call
abbrev pub after_turn : ℕ → ℕ → NodeState → Turn → NodeState
after_turn self nodes s (Goes what) = after self nodes s what
after_turn self nodes s (Unmounted fault) = s
after_turn self nodes s (Begins mounted what) = after_begun self nodes s mounted what

-- the messages that it hands out
abbrev pub sent_in : ℕ → ℕ → NodeState → Turn → List Envelope
sent_in self nodes s (Goes what) = sent_at self nodes s what
sent_in self nodes s (Unmounted fault) = []
sent_in self nodes s (Begins mounted what) = []

-- the event that a call is of
abbrev pub cause : Turn → Option Event
cause (Goes what) = event_of what
cause (Unmounted fault) = Some on.Recover
cause (Begins mounted what) = Some on.Recover

-- ---- how it ends: with the answer of the command that was wanted, if one was, or denied

abbrev pub CallEnd : Type 0
CallEnd = Result (Option ℕ) NodeFault

abbrev pub rest_end : NoOpKind → CallEnd
rest_end Nothing = Ok None
rest_end Compacted = Ok None
rest_end CompactDown = Err (node.Core core.Down)
rest_end CompactAreaExhausted = Err node.Exhausted

abbrev pub end_at : ℕ → ℕ → NodeState → HistoryEvent → CallEnd
end_at self nodes s (Did event) = Ok (answer_at self nodes s (Did event))
end_at self nodes s (Refused event fault) = Err (shown fault)
end_at self nodes s (Faulted event) = Err node.Device
end_at self nodes s (NoOp rest) = rest_end rest
end_at self nodes s Crashed = Err node.Device
end_at self nodes s (Recovered kept) = Ok (answer_at self nodes s (Recovered kept))
end_at self nodes s MountFailed = Err node.Device
end_at self nodes s (RaiseFailed kept) = Err node.Device
end_at self nodes s (RaiseRefused kept) = Err node.Exhausted

abbrev pub end_of : ℕ → ℕ → NodeState → Turn → CallEnd
end_of self nodes s (Goes what) = end_at self nodes s what
end_of self nodes s (Unmounted fault) = Err fault
end_of self nodes s (Begins mounted what) = end_at self nodes (begun self mounted) what

-- ---- what may come

-- a history may begin with it
abbrev pub MayBegin : HistoryEvent → Type 0
MayBegin (Recovered kept) = Unit {0}
MayBegin (RaiseFailed kept) = Unit {0}
MayBegin (RaiseRefused kept) = Unit {0}
MayBegin what = ⊥

-- it may come of an event at a node in this state, over a disk of so many slots
abbrev pub MayComeOf : ℕ → ℕ → Event → ℕ → NodeState → Turn → Type 0
MayComeOf self nodes event slots s (Goes what) = IsOf event what × IsPossible self nodes s what × IsOfSlots slots self nodes s what
MayComeOf self nodes event slots s (Unmounted fault) = (event ≡ on.Recover) × (is_down s.state.phase ≡ true) × IsUnmounted fault
MayComeOf self nodes event slots s (Begins mounted what) =
    (event ≡ on.Recover) × (is_down s.state.phase ≡ true) × MayBegin what × IsPossible self nodes (begun self mounted) what

-- a compaction was done or refused
abbrev pub IsCompaction : NoOpKind → Type 0
IsCompaction Nothing = ⊥
IsCompaction rest = Unit {0}

-- it came of a compaction; the device failed where the node crashed
abbrev pub IsOfCompaction : HistoryEvent → Type 0
IsOfCompaction (NoOp rest) = IsCompaction rest
IsOfCompaction Crashed = Unit {0}
IsOfCompaction what = ⊥

abbrev pub MayCompact : ℕ → ℕ → ℕ → NodeState → Turn → Type 0
MayCompact self nodes slots s (Goes what) = IsOfCompaction what × IsPossible self nodes s what × IsOfSlots slots self nodes s what
MayCompact self nodes slots s (Unmounted fault) = ⊥
MayCompact self nodes slots s (Begins mounted what) = ⊥

-- an event that a tick or a loss makes
abbrev pub IsFired : Event → Type 0
IsFired (on.Timer timer) = Unit {0}
IsFired on.Recover = Unit {0}
IsFired event = ⊥

-- it came of such an event
pub record IsTimely (self nodes slots : ℕ) (s : NodeState) (turn : Turn) : Type 0 where
  pub event : Event
  pub fired : IsFired event
  pub may : MayComeOf self nodes event slots s turn

-- no history began
abbrev pub IsGoing : Turn → Type 0
IsGoing (Goes what) = Unit {0}
IsGoing (Unmounted fault) = ⊥
IsGoing (Begins mounted what) = ⊥

-- ---- for the code

abbrev pub ended_by : Result StepReport NodeFault → CallEnd
ended_by (Ok came) = Ok came.answer
ended_by (Err fault) = Err fault

abbrev pub sent_by : Result StepReport NodeFault → List Envelope
sent_by (Ok came) = came.sent.items
sent_by (Err fault) = []

abbrev pub compaction_end : {A : Type 0} → Result A NodeFault → CallEnd
compaction_end (Ok done) = Ok None
compaction_end (Err fault) = Err fault
