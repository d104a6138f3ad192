-- What a call of a node does, and how it is answered.
use Rattle.std.specs.Prelude.{ℕ, ◌≡◌, ◌≤◌, ◌+◌, Bool, true, false, if◌then◌else◌, IsTrue, IsFalse, IsSome, IsOk, IfOk, IfErr, IsErrOf, []}
use Rattle.std.specs.Prelude.{length, Option, Some, None, option_map, Result}
use Rattle.sector_disk.specs.Disk.{DiskState, Counts}
use Rattle.job_journal.specs.Journal.{RisesByOne}
use Rattle.job_model.specs.Answer.{answer_of}
use Rattle.job_model.specs.Durable.{Durable}
use Rattle.node_core.specs.declared.wanted.Wanted.{Wanted}
use Rattle.node_core.specs.declared.event.Event.{Event}
use Rattle.node_core.specs.declared.event.Event.TheVariants as on
use Rattle.node_core.specs.Core.{Core}
use Rattle.node_core.specs.Start.{down}
use Rattle.node_core.specs.State.{State, is_down}
use Rattle.node_core.specs.NodeStep.{IsFull, IsTaken, IsHandled, IsRefused}
use Rattle.node_core.specs.Memory.{takes_memory}
use Rattle.node_core.specs.Wants.{wants_of}
use Rattle.node_core.specs.Most.{most_of}
use Rattle.node_store.specs.Store.{StoreState, durable_of, slots_for}
use Rattle.durable_node.specs.declared.fault.NodeFault.{NodeFault}
use Rattle.durable_node.specs.declared.fault.NodeFault.TheVariants as node
use Rattle.durable_node.specs.declared.step_report.StepReport.{StepReport}
use Rattle.histories.specs.NodeState.{NodeState, wants_at, settled}
use Rattle.histories.specs.HistoryEvent.{IsOf}
use Rattle.histories.specs.declared.history_event.HistoryEvent.{HistoryEvent}
use Rattle.histories.specs.declared.history_event.HistoryEvent.TheVariants.{Did, Faulted, Recovered, RaiseFailed}
use Rattle.histories.specs.After.{after, sent_at, mounted_at}
use Rattle.histories.specs.Possible.{IsPossible, IsOfSlots, FitsSlots}
use Rattle.histories.specs.EventOutcomes.{IsTriedAt, attempt_of, what_of}
use Rattle.histories.specs.declared.event_outcome.EventOutcome.{EventOutcome}
use Rattle.histories.specs.declared.event_outcome.EventOutcome.TheVariants as event_outcome
use Rattle.node_core.specs.declared.fault.Refusal.{Refusal}
use Rattle.node_core.specs.declared.fault.Refusal.TheVariants as refusal
use Rattle.job_model.specs.declared.node_command.NodeCommand.{NodeCommand as Command}
use Rattle.job_model.specs.declared.node_command.NodeCommand.TheVariants.{Raise}
use Rattle.node_core.specs.declared.fault.CoreFault.{CoreFault}
use Rattle.node_core.specs.declared.fault.CoreFault.TheVariants.{NoMemory}
use Rattle.durable_node.specs.Area.{AllEndIn, Area, LeavesArea, area_after, records_at}
use Rattle.durable_node.specs.Node.{Node, Stands, shown_doubt}

-- the event Recover
abbrev pub is_recover : Event → Bool
is_recover on.Recover = true
is_recover event = false

-- ---- an event at a node that is up

-- the event was handled, and its command is on the disk
pub record IsDone (slots nodes self : ℕ) (s : State) (d : Durable) (event : Event) (s' : State) (d' : Durable) (came : StepReport) :
    Type 0 where
  pub handled : IsHandled nodes self s d event s' d' came.sent.items
  pub fits : IsFull slots d (wants_of self d.pending event s) → ⊥
  pub answer : came.answer ≡ option_map (answer_of d) (wants_of self d.pending event s)

-- the device failed in the event's command
pub record IsFailed (slots nodes self : ℕ) (s : State) (d : Durable) (event : Event) : Type 0 where
  pub taken : IsTaken nodes self s d event
  pub fits : IsFull slots d (wants_of self d.pending event s) → ⊥
  pub wanted : IsSome (wants_of self d.pending event s)

-- the event was refused, for this reason
pub record IsTurnedAway (slots nodes self : ℕ) (s : State) (d : Durable) (event : Event) (why : Refusal) : Type 0 where
  pub refused : IsRefused nodes self s d event why
  pub of_slots : FitsSlots slots d (wants_of self d.pending event s) why

-- nothing is sent or answered
abbrev pub IsSilent : StepReport → Type 0
IsSilent came = (came.sent.items ≡ []) × (came.answer ≡ None)

-- the core's state, the store and the command in doubt are as they were
pub record IsAsBefore {Disk : Type 0} (core core' : Core) (store store' : StoreState Disk) (doubt doubt' : Option (Wanted × ℕ)) :
    Type 0 where
  pub same_state : core'.state ≡ core.state
  pub same_store : store' ≡ store
  pub same_doubt : doubt' ≡ doubt

-- what came of the event, and what it left
abbrev pub IsServed : {Disk : Type 0} → ℕ → ℕ → Core → Core → StoreState Disk → StoreState Disk → Option (Wanted × ℕ) → Option (Wanted × ℕ)
    → Event → StepReport → EventOutcome → Type 0
IsServed nodes self core core' store store' doubt doubt' event came event_outcome.Done =
    IsDone store.journal.slots nodes self core.state (durable_of store) event core'.state (durable_of store') came × IsFalse store'.broken
    × (doubt' ≡ doubt)
IsServed nodes self core core' store store' doubt doubt' event came (event_outcome.Refused why) =
    IsTurnedAway store.journal.slots nodes self core.state (durable_of store) event why × IsSilent came
    × IsAsBefore core core' store store' doubt doubt'
IsServed nodes self core core' store store' doubt doubt' event came event_outcome.Faulted =
    IsFailed store.journal.slots nodes self core.state (durable_of store) event × IsSilent came × (core'.state ≡ down self)
    × (doubt' ≡ shown_doubt (durable_of store) (wants_of self (durable_of store).pending event core.state))
IsServed nodes self core core' store store' doubt doubt' event came other = ⊥

-- the command that was tried, of one that was wanted
abbrev pub command_by : Option Command → EventOutcome → Option Command
command_by wants event_outcome.Done = wants
command_by wants event_outcome.Faulted = wants
command_by wants other = None

-- what a report says of the command that was tried, and how many messages it hands out at most
pub record Reports (wants : Option Command) (most : ℕ) (result : Result StepReport NodeFault) : Type 0 where
  pub tried : IfOk result (λ came. came.tried ≡ option_map attempt_of (command_by wants came.event_outcome))
  pub few : IfOk result (λ came. length came.sent.items ≤ most)

-- an event that came to nothing left all as it was: there was no memory, of which it takes some
pub record ComesToNothing {Disk : Type 0} (self : ℕ) (event : Event) (core core' : Core) (store store' : StoreState Disk)
    (doubt doubt' : Option (Wanted × ℕ)) (result : Result StepReport NodeFault) : Type 0 where
  pub as_before : IfErr result (λ fault. (fault ≡ node.Core NoMemory) × IsAsBefore core core' store store' doubt doubt')
  pub memory : IfErr result (λ _. takes_memory self event core.state ≡ true)

-- ---- an event at a node that is down

-- it did nothing, or was refused for this reason
abbrev pub IsIgnored : Option CoreFault → StepReport → EventOutcome → Type 0
IsIgnored why came event_outcome.Done = (why ≡ None) × IsSilent came
IsIgnored why came (event_outcome.Refused (refusal.Core fault)) = (why ≡ Some fault) × IsSilent came
IsIgnored why came other = ⊥

-- ---- any call

-- the command that was tried on the disk, if there was one
abbrev pub command_at : ℕ → ℕ → NodeState → HistoryEvent → Option Command
command_at self nodes s (Did event) = wants_at self nodes s event
command_at self nodes s (Faulted event) = wants_at self nodes s event
command_at self nodes s (Recovered kept) = Some Raise
command_at self nodes s (RaiseFailed kept) = Some Raise
command_at self nodes s what = None

-- the answer to the command that was carried out, if there was one
abbrev pub answer_at : ℕ → ℕ → NodeState → HistoryEvent → Option ℕ
answer_at self nodes s (Did event) = option_map (answer_of s.durable) (wants_at self nodes s event)
answer_at self nodes s (Recovered kept) = Some ((settled kept s).counter + 1)
answer_at self nodes s what = None

-- this came of the event, and so the call answers it
pub record Does (slots self nodes : ℕ) (s : NodeState) (event : Event) (came : StepReport) (shown : Option Durable) (what : HistoryEvent) :
    Type 0 where
  pub of : IsOf event what
  pub possible : IsPossible self nodes s what
  pub of_slots : IsOfSlots slots self nodes s what
  pub tried : IsTriedAt event came.tried (command_at self nodes s what)
  pub answer : came.answer ≡ answer_at self nodes s what
  pub sent : came.sent.items ≡ sent_at self nodes s what
  pub mounted : shown ≡ mounted_at s what

-- the node is down, and the event makes it mount its disk
abbrev pub IsMounting : State → Event → Type 0
IsMounting s event = (is_down s.phase ≡ true) × (is_recover event ≡ true)

-- whatever state the node stood for, what is answered is what came of the event, and the node stands for the state after it
abbrev pub Steps : {Disk : Type 0} → (Disk → DiskState) → Node Disk → Node Disk → Event → StepReport → Type 0
Steps {Disk} disks old new event came =
    (disk : Disk) (s : NodeState) → old.disk ≡ Some disk → Stands disks old s → (IsMounting old.state event → IsTrue (disks disk).honest) →
    Does (slots_for (disks disk).sectors) old.id old.nodes s event came new.mounted (what_of event came.event_outcome)
    × Stands disks new (after old.id old.nodes s (what_of event came.event_outcome))

-- the disk can't be mounted, which no disk of a node's history is, and nothing but the disk has changed
pub record IsUnmountable {Disk : Type 0} (disks : Disk → DiskState) (old new : Node Disk) (event : Event) : Type 0 where
  pub mounting : IsMounting old.state event
  pub strange : (disk : Disk) (s : NodeState) → old.disk ≡ Some disk → Stands disks old s → IsTrue (disks disk).honest → ⊥
  pub same : new ≡ record old { disk = new.disk; mounted = None }

-- whether an event may come to nothing for want of memory: a node that is down takes some to mount its disk alone
abbrev pub may_take_memory : {Disk : Type 0} → Node Disk → Event → Bool
may_take_memory node event = if is_down node.state.phase then is_recover event else takes_memory node.id event node.state

-- the event came to nothing, for want of memory or of a disk that can be mounted, and left the node as it was
abbrev pub Stuck : {Disk : Type 0} → (Disk → DiskState) → Node Disk → Node Disk → Event → NodeFault → Type 0
Stuck disks old new event (node.Core fault) = (fault ≡ NoMemory) × (new ≡ record old { mounted = None })
    × (may_take_memory old event ≡ true)
Stuck disks old new event node.Full = ⊥
Stuck disks old new event node.Exhausted = ⊥
Stuck disks old new event node.Device = ⊥
Stuck disks old new event node.NotFormatted = IsUnmountable disks old new event
Stuck disks old new event (node.Damaged sector) = IsUnmountable disks old new event
Stuck disks old new event node.TooSmall = IsUnmountable disks old new event

-- what becomes of an area by a wanted command: what the call leaves of it, and on an honest disk the command's records at its end
pub record IsAreaAfter {Disk A : Type 0} (disks : Disk → DiskState) (old new : Node Disk) (d : Durable) (area : Area)
    (wants : Option Command) (result : Result A NodeFault) : Type 0 where
  pub leaves : LeavesArea d area wants result new.area
  pub spelled : (was now : Disk) → old.disk ≡ Some was → new.disk ≡ Some now → IsTrue (disks was).honest → IsOk result
      → AllEndIn (area_after d area wants) (records_at d area wants) (disks now)

-- what becomes of the area of a node that is up: its command is one record more, behind a compaction where no slot was free
abbrev pub AreaGoesOn : {Disk : Type 0} → (Disk → DiskState) → Node Disk → Node Disk → Event → Result StepReport NodeFault → Type 0
AreaGoesOn disks old new event result = (d : Durable) (area : Area) → old.kept ≡ Some d → old.area ≡ Some area →
    IsAreaAfter disks old new d area (wants_of old.id d.pending event old.state) result

-- The disk before a call and after it is there, and so is its count of failures: every answer but `Device` leaves that as it is, and
-- `Device` is answered only where it rose, or stands at its greatest value. The number of its area rises by one at most.
pub record CountsOf {Disk A : Type 0} (disks : Disk → DiskState) (old new : Option Disk) (result : Result A NodeFault) : Type 0 where
  pub was_there : IsSome old
  pub is_there : IsSome new
  pub counts : (was now : Disk) → old ≡ Some was → new ≡ Some now
      → Counts (disks was) (disks now) (IsErrOf result node.Device) (IsErrOf result node.Device → ⊥)
  pub rises : (was now : Disk) → old ≡ Some was → new ≡ Some now → RisesByOne (disks was) (disks now)

-- how many messages a call may hand out at most: none where the node is down
abbrev pub most_by : ℕ → Option Durable → ℕ
most_by nodes None = 0
most_by nodes (Some d) = most_of nodes d.pending
