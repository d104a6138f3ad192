-- What may come of an event at a node with its disk.
use Rattle.std.specs.Prelude.{ℕ, ◌≡◌, ◌+◌, ◌-◌, ◌^◌, ◌<◌, Bool, true, false, Option, IsSome}
use Rattle.job_model.specs.Durable.{Durable}
use Rattle.job_model.specs.declared.node_command.NodeCommand.{NodeCommand as Command}
use Rattle.node_core.specs.declared.event.Event.{Event}
use Rattle.node_core.specs.declared.event.Event.TheVariants.{Recover}
use Rattle.node_core.specs.declared.fault.Refusal.{Refusal}
use Rattle.node_core.specs.declared.fault.Refusal.TheVariants.{Full, AreaExhausted}
use Rattle.node_core.specs.State.{State, is_down}
use Rattle.node_core.specs.NodeStep.{IsFull, IsTaken, IsRefused}
use Rattle.histories.specs.NodeState.{NodeState, wants_at, settled}
use Rattle.histories.specs.declared.history_event.HistoryEvent.{HistoryEvent}
use Rattle.histories.specs.declared.history_event.HistoryEvent.TheVariants.{Did, Refused, Faulted, NoOp, Crashed, Recovered, MountFailed}
use Rattle.histories.specs.declared.history_event.HistoryEvent.TheVariants.{RaiseFailed, RaiseRefused}
use Rattle.histories.specs.declared.history_event.NoOpKind.{NoOpKind}
use Rattle.histories.specs.declared.history_event.NoOpKind.TheVariants.{Nothing, CompactDown}

-- a node that is down recovers by mounting its disk, and not by the row of its event
abbrev pub IsForNode : State → Event → Type 0
IsForNode s event = event ≡ Recover → is_down s.phase ≡ false

-- the event is one for the node, and isn't refused
abbrev pub Takes : ℕ → ℕ → NodeState → Event → Type 0
Takes self nodes s event = IsForNode s.state event × IsTaken nodes self s.state s.durable event

-- a compaction is done where the node is up, and refused where it is down
abbrev pub MayRest : NodeState → NoOpKind → Type 0
MayRest s Nothing = Unit {0}
MayRest s CompactDown = is_down s.state.phase ≡ true
MayRest s rest = is_down s.state.phase ≡ false

-- whether the command in doubt is kept: where none is in doubt, none is
abbrev pub IsSettling : Bool → Option Command → Type 0
IsSettling kept doubt = kept ≡ true → IsSome doubt

-- what may come of an event. The number of slots of the disk is left open: see IsOfSlots
abbrev pub IsPossible : ℕ → ℕ → NodeState → HistoryEvent → Type 0
IsPossible self nodes s (Did event) = Takes self nodes s event
IsPossible self nodes s (Refused event fault) = IsForNode s.state event × IsRefused nodes self s.state s.durable event fault
IsPossible self nodes s (Faulted event) = Takes self nodes s event × IsSome (wants_at self nodes s event)
IsPossible self nodes s (NoOp rest) = MayRest s rest
IsPossible self nodes s Crashed = Unit {0}
IsPossible self nodes s (Recovered kept) =
    (is_down s.state.phase ≡ true) × IsSettling kept s.doubt × ((settled kept s).counter + 1 < 2 ^ 64)
IsPossible self nodes s MountFailed = is_down s.state.phase ≡ true
IsPossible self nodes s (RaiseFailed kept) =
    (is_down s.state.phase ≡ true) × IsSettling kept s.doubt × ((settled kept s).counter + 1 < 2 ^ 64)
IsPossible self nodes s (RaiseRefused kept) =
    (is_down s.state.phase ≡ true) × IsSettling kept s.doubt × ((settled kept s).counter ≡ 2 ^ 64 - 1)

-- the command may be refused for this reason by a journal of so many slots: its area is looked at last
abbrev pub FitsSlots : ℕ → Durable → Option Command → Refusal → Type 0
FitsSlots slots d wants Full = IsFull slots d wants
FitsSlots slots d wants AreaExhausted = IsFull slots d wants → ⊥
FitsSlots slots d wants why = Unit {0}

-- it may come at a node whose journal has so many slots: a Put is refused as Full exactly where it doesn't fit
abbrev pub IsOfSlots : ℕ → ℕ → ℕ → NodeState → HistoryEvent → Type 0
IsOfSlots slots self nodes s (Did event) = IsFull slots s.durable (wants_at self nodes s event) → ⊥
IsOfSlots slots self nodes s (Refused event fault) = FitsSlots slots s.durable (wants_at self nodes s event) fault
IsOfSlots slots self nodes s (Faulted event) = IsFull slots s.durable (wants_at self nodes s event) → ⊥
IsOfSlots slots self nodes s what = Unit {0}
