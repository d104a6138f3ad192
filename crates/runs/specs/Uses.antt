-- What a user of a cluster takes from the headline, each in words of its own.
use Rattle.job_model.specs.declared.job.Job.{Job}
use Rattle.job_model.specs.declared.work.Work.{Work}
use Rattle.std.specs.Prelude.{ℕ, suc, ◌≡◌, ◌≢◌, ◌⊎◌, ◌<◌, ◌≤◌, ◌==◌, if◌then◌else◌, true, false, option_map, unwrap_or, flat_map, List, []}
use Rattle.std.specs.Prelude.{◌∷◌, ◌++◌, length, map, take, slice_get, Option, Some, None}
use Rattle.job_model.specs.declared.node_command.NodeCommand.{NodeCommand as Command}
use Rattle.job_model.specs.declared.node_command.NodeCommand.TheVariants.{Raise, Put, Done}
use Rattle.group_task.specs.Group.{Group}
use Rattle.group_task.specs.Ids.{has}
use Rattle.wire_msg.specs.Envelope.{Envelope}
use Rattle.wire_msg.specs.Kinds.{group_in}
use Rattle.node_core.specs.declared.phase.Phase.TheVariants.{Down, Reorganization, Normal}
use Rattle.node_core.specs.declared.in_hand.InHand.{InHand}
use Rattle.node_core.specs.declared.event.Event.{Event}
use Rattle.node_core.specs.declared.event.Event.TheVariants as on
use Rattle.node_core.specs.declared.fault.CoreFault.TheVariants.{Down as IsDown}
use Rattle.node_core.specs.declared.fault.Refusal.TheVariants.{Core, Exhausted, AreaExhausted}
use Rattle.node_core.specs.State.{State, is_down}
use Rattle.node_core.specs.Effects.{effect_of}
use Rattle.node_core.specs.Start.{alone}
use Rattle.node_core.specs.Words.{members_of, owner}
use Rattle.histories.specs.Jobs.{WasPut}
use Rattle.histories.specs.Lists.{IsAmong}
use Rattle.histories.specs.declared.attempt.Attempt.{Attempt}
use Rattle.schedule.specs.declared.act.Act.{Act}
use Rattle.schedule.specs.declared.act.Act.TheVariants as act
use Rattle.histories.specs.Book.{IsInGroup}
use Rattle.histories.specs.Kept.{Mounting}
use Rattle.runs.specs.Reporting.{Moment, Report, own_commands, report_of}
use Rattle.runs.specs.declared.attempt_at.AttemptAt.{AttemptAt}
use Rattle.runs.specs.declared.outcome.Outcome.TheVariants as outcome
use Rattle.runs.specs.declared.outcome.ActRefusal.{ActRefusal}
use Rattle.runs.specs.declared.outcome.ActRefusal.TheVariants.{Node as OfNode}
use Rattle.runs.specs.World.{node_in, start}
use Rattle.runs.specs.Step.{Step}
use Rattle.runs.specs.Run.{world_at}
use Rattle.runs.specs.Events.{event_at}
use Rattle.runs.specs.Reported.{IsReported}
use Rattle.runs.specs.Headline.{Headline, IsShown, IsWorking, first_moments}

-- ---- what is reported

-- each act is reported, in order, and each node opens Normal, alone in the group of its first count
abbrev pub ActsAreReported : Type 0
ActsAreReported = (nodes slots : ℕ) (acts : List Act) (r : Report) → IsReported nodes slots acts r →
    (map (λ (m : Moment). m.act) r.moments ≡ acts) × (length r.opening ≡ nodes)
    × ((n : ℕ) → n < nodes → slice_get r.opening n ≡ Some (alone n 1))

-- ---- what an act does

-- the report of the first acts, so many of them
abbrev pub report_within : ℕ → ℕ → List Act → List Step → Report
report_within nodes count acts steps = report_of nodes (take count acts) steps

-- of these moments the last state of a node, and s where there is none
abbrev pub last_of : ℕ → Option State → List Moment → Option State
last_of n s [] = s
last_of n s (m ∷ ms) = last_of n (if m.node == n then Some m.state else s) ms

-- the state of a node that the report shows last
abbrev pub last_state : Report → ℕ → Option State
last_state r n = last_of n (slice_get r.opening n) r.moments

-- all messages that the report shows as sent, by their numbers
abbrev pub all_sent : Report → List Envelope
all_sent r = flat_map (λ (m : Moment). m.sent) r.moments

-- the event that an act is, with its node: a delivery is that of the message of its number
abbrev pub event_in : Report → Act → Option (ℕ × Event)
event_in r (act.Deliver k) = option_map (λ (m : Envelope). (m.receiver, on.Deliver m)) (slice_get (all_sent r) k)
event_in r a = event_at a

-- an act that is refused changes nothing: nothing is sent, no command is tried and no group given, and each node is as it was shown last
abbrev pub RefusedChangesNothing : Type 0
RefusedChangesNothing = (nodes slots : ℕ) (acts : List Act) (r : Report) (h : IsReported nodes slots acts r) (k : ℕ) (m : Moment)
    (why : ActRefusal) →
    slice_get r.moments k ≡ Some m → m.outcome ≡ outcome.Refused why →
    (m.sent ≡ []) × ((report_within nodes (suc k) acts h.steps).commands ≡ (report_within nodes k acts h.steps).commands)
    × ((report_within nodes (suc k) acts h.steps).groups ≡ (report_within nodes k acts h.steps).groups)
    × ((n : ℕ) → n < nodes → last_state (report_within nodes (suc k) acts h.steps) n ≡ last_state (report_within nodes k acts h.steps) n)

-- an act that is done has its row's effect: where it is an event at a node that was shown up last, the node's state and the messages that
-- are sent are the effect of the event's row on that state, over the jobs that its disk keeps in the run
abbrev pub DoneHasItsEffect : Type 0
DoneHasItsEffect = (nodes slots : ℕ) (acts : List Act) (r : Report) (h : IsReported nodes slots acts r) (k : ℕ) (m : Moment)
    (answer : Option ℕ) (first many : ℕ) (n : ℕ) (event : Event) (s : State) →
    n < nodes → slice_get r.moments k ≡ Some m → m.outcome ≡ outcome.Done answer first many
    → event_in (report_within nodes k acts h.steps) m.act ≡ Some (n, event) →
    last_state (report_within nodes k acts h.steps) n ≡ Some s → is_down s.phase ≡ false →
    (m.node ≡ n)
    × (m.state ≡ (effect_of nodes n (node_in (world_at nodes (start nodes) (take k h.steps)).states n).durable.pending event
    (unwrap_or answer 0) s).state)
    × (m.sent ≡ (effect_of nodes n (node_in (world_at nodes (start nodes) (take k h.steps)).states n).durable.pending event
    (unwrap_or answer 0) s).sent)

-- no act is refused because its node's counter or its ids are used up, or the areas of its disk
abbrev pub NoneIsSpent : Type 0
NoneIsSpent = (nodes slots : ℕ) (acts : List Act) (r : Report) → IsReported nodes slots acts r → (k : ℕ) (m : Moment)
    → slice_get r.moments k ≡ Some m →
    (m.outcome ≢ outcome.Refused (OfNode Exhausted)) × (m.outcome ≢ outcome.Refused (OfNode AreaExhausted))

-- a compaction at a node that was shown Down last is refused as Down: it never meets a device
abbrev pub DownRefusesCompaction : Type 0
DownRefusesCompaction = (nodes slots : ℕ) (acts : List Act) (r : Report) (h : IsReported nodes slots acts r) (k : ℕ) (m : Moment) (n : ℕ) →
    (s : State) → n < nodes → slice_get r.moments k ≡ Some m → m.act ≡ act.Compact n →
    last_state (report_within nodes k acts h.steps) n ≡ Some s → is_down s.phase ≡ true → m.outcome ≡ outcome.Refused (OfNode (Core IsDown))

-- ---- what an act is answered

-- the command that an act asks its node for: a job is put, a recovery raises the counter
abbrev pub asks : Act → Option Command
asks (act.Submit n work) = Some (Put work)
asks (act.Recover n) = Some Raise
asks a = None

-- what an act was answered is acknowledged: in it its node tried one command, the one that the act asks for if it asks for one, and
-- the disk took it with that answer
abbrev pub AnsweredIsAcknowledged : Type 0
AnsweredIsAcknowledged = (nodes slots : ℕ) (acts : List Act) (r : Report) (h : IsReported nodes slots acts r) (k : ℕ) (m : Moment)
    (a first many : ℕ) →
    slice_get r.moments k ≡ Some m → m.outcome ≡ outcome.Done (Some a) first many →
    (t : Attempt) × ((report_within nodes (suc k) acts h.steps).commands
    ≡ (report_within nodes k acts h.steps).commands ++ record { node = m.node; tried = t } ∷ [])
    × (t.acked ≡ Some a) × ((c : Command) → asks m.act ≡ Some c → t.command ≡ c)

-- ---- what a disk keeps

-- an acknowledged raise is kept: no later mounting of the node gives a smaller count than the raise gave
abbrev pub RaisesAreKept : Type 0
RaisesAreKept = (nodes : ℕ) (after : ℕ → Report) (r : Report) → Headline nodes after r → (n : ℕ) (w : Mounting)
    → IsAmong (n, w) r.mounted → n < nodes →
    (k count : ℕ) → slice_get (own_commands n r.commands) k ≡ Some (record { command = Raise; acked = Some count }) → k < w.before →
    count ≤ w.state.counter

-- an acknowledged job is kept: each later mounting of the node has it pending, with its work, unless its Done was
-- tried between
abbrev pub JobsAreKept : Type 0
JobsAreKept = (nodes : ℕ) (after : ℕ → Report) (r : Report) → Headline nodes after r → (n : ℕ) (w : Mounting)
    → IsAmong (n, w) r.mounted → n < nodes →
    (k id : ℕ) (work : Work) → slice_get (own_commands n r.commands) k ≡ Some (record { command = Put work; acked = Some id })
    → k < w.before →
    ((j : ℕ) (t : Attempt) → k < j → j < w.before → slice_get (own_commands n r.commands) j ≡ Some t → t.command ≡ Done id → ⊥) →
    IsAmong (record { id = id; work = work }) w.state.pending

-- a job that was acknowledged as done stays done: no later mounting of the node has a job of its id pending
abbrev pub DonesAreKept : Type 0
DonesAreKept = (nodes slots : ℕ) (acts : List Act) (r : Report) → IsReported nodes slots acts r → (n : ℕ) (w : Mounting)
    → IsAmong (n, w) r.mounted → n < nodes →
    (k id a : ℕ) → slice_get (own_commands n r.commands) k ≡ Some (record { command = Done id; acked = Some a }) → k < w.before →
    (job : Job) → IsAmong job w.state.pending → job.id ≢ id

-- a command that wasn't acknowledged is the last of its life: a mounting of the node comes before its next command
abbrev pub DoubtsApart : Type 0
DoubtsApart = (nodes : ℕ) (after : ℕ → Report) (r : Report) → Headline nodes after r → (n : ℕ) → n < nodes →
    (j k : ℕ) (t u : Attempt) → j < k → slice_get (own_commands n r.commands) j ≡ Some t → t.acked ≡ None
    → slice_get (own_commands n r.commands) k ≡ Some u →
    (w : Mounting) × IsAmong (n, w) r.mounted × (j < w.before) × (w.before ≤ k)

-- ids of jobs are new: of two jobs that a node took, the later one has the greater id
abbrev pub IdsAreNew : Type 0
IdsAreNew = (nodes : ℕ) (after : ℕ → Report) (r : Report) → Headline nodes after r → (n : ℕ) → n < nodes
    → (j k : ℕ) (work more : Work) (id later : ℕ) → j < k →
    slice_get (own_commands n r.commands) j ≡ Some (record { command = Put work; acked = Some id }) →
    slice_get (own_commands n r.commands) k ≡ Some (record { command = Put more; acked = Some later }) → id < later

-- ---- group numbers

-- no group number stands at two places
abbrev pub GivenAtOnePlace : Type 0
GivenAtOnePlace = (nodes : ℕ) (after : ℕ → Report) (r : Report) → Headline nodes after r →
    (i j : ℕ) (g : Group) → slice_get r.groups i ≡ Some g → slice_get r.groups j ≡ Some g → i ≡ j

-- of two groups of one node, the one that was given later has the greater count
abbrev pub LaterIsGreater : Type 0
LaterIsGreater = (nodes : ℕ) (after : ℕ → Report) (r : Report) → Headline nodes after r →
    (i j : ℕ) (g h : Group) → i < j → slice_get r.groups i ≡ Some g → slice_get r.groups j ≡ Some h → g.creator ≡ h.creator
    → g.count < h.count

-- what a moment shows is no number that was yet to be given: the group of a node that is up, and the group that a message names,
-- were given in the openings, by an earlier act or by this one
abbrev pub NamedWasGiven : Type 0
NamedWasGiven = (nodes : ℕ) (after : ℕ → Report) (r : Report) → Headline nodes after r → (k : ℕ) (m : Moment)
    → slice_get r.moments k ≡ Some m →
    ((m.state.phase ≡ Down) ⊎ IsAmong m.state.group (after (suc k)).groups)
    × ((x : Envelope) (g : Group) → IsAmong x m.sent → group_in x.body ≡ Some g
    → IsAmong g (after (suc k)).groups)

-- ---- fences

-- the node of this state leads the group that it works in or brings together
abbrev pub Leads : ℕ → State → Type 0
Leads n s = ((s.phase ≡ Normal) ⊎ (s.phase ≡ Reorganization)) × (s.coordinator ≡ n)

-- the report shows such a state of the node
abbrev pub ShowsLeading : Report → ℕ → State → Type 0
ShowsLeading r n s = IsShown r n s × Leads n s

-- two states that are shown in one group, whether their nodes work in it or bring it together, have one coordinator
abbrev pub OneCoordinator : Type 0
OneCoordinator = (nodes : ℕ) (after : ℕ → Report) (r : Report) → Headline nodes after r →
    (n m : ℕ) (s t : State) → IsShown r n s → IsShown r m t → IsInGroup s.phase → IsInGroup t.phase → s.group ≡ t.group →
    s.coordinator ≡ t.coordinator

-- and two that work in one group have one task
abbrev pub OneTask : Type 0
OneTask = (nodes : ℕ) (after : ℕ → Report) (r : Report) → Headline nodes after r →
    (n m : ℕ) (s t : State) → IsWorking r n s → IsWorking r m t → s.group ≡ t.group → s.task ≡ t.task

-- who leads a group is the node that its number names
abbrev pub LeaderIsCreator : Type 0
LeaderIsCreator = (nodes : ℕ) (after : ℕ → Report) (r : Report) → Headline nodes after r → (n : ℕ) (s : State) → ShowsLeading r n s
    → s.group.creator ≡ n

-- a leader's counts rise: of two moments of a node that lead a group the later one has no smaller count
abbrev pub LeaderCountsRise : Type 0
LeaderCountsRise = (nodes slots : ℕ) (acts : List Act) (r : Report) → IsReported nodes slots acts r → (n j k : ℕ) (m l : Moment) → n < nodes
    → j < k →
    slice_get r.moments j ≡ Some m → slice_get r.moments k ≡ Some l → m.node ≡ n → l.node ≡ n → Leads n m.state → Leads n l.state
    → m.state.group.count ≤ l.state.group.count

-- a group number is a fence: two moments, of any nodes, that lead one group are of one node
abbrev pub OneLeader : Type 0
OneLeader = (nodes : ℕ) (after : ℕ → Report) (r : Report) → Headline nodes after r →
    (n m : ℕ) (s t : State) → ShowsLeading r n s → ShowsLeading r m t → s.group ≡ t.group → n ≡ m

-- two moments, of any nodes, that work in one group name one owner of each queue
abbrev pub OneOwnerEach : Type 0
OneOwnerEach = (nodes : ℕ) (after : ℕ → Report) (r : Report) → Headline nodes after r →
    (n m : ℕ) (s t : State) → IsWorking r n s → IsWorking r m t → s.group ≡ t.group → (queue : ℕ) → owner s queue ≡ owner t queue

-- two moments that work in one group have the same members, each of the two nodes among them
abbrev pub MembersAgree : Type 0
MembersAgree = (nodes : ℕ) (after : ℕ → Report) (r : Report) → Headline nodes after r → (n m : ℕ) (s t : State) → IsWorking r n s
    → IsWorking r m t → s.group ≡ t.group →
    (members_of s.task ≡ members_of t.task) × (has (members_of s.task) n ≡ true) × (has (members_of s.task) m ≡ true)

-- two moments, of any nodes, that work in one group and have jobs of one queue in hand are of one node
abbrev pub OneWorkerEach : Type 0
OneWorkerEach = (nodes : ℕ) (after : ℕ → Report) (r : Report) → Headline nodes after r →
    (n m : ℕ) (s t : State) → IsWorking r n s → IsWorking r m t → s.group ≡ t.group →
    (a b : InHand) → IsAmong a s.hand → IsAmong b t.hand → a.work.queue ≡ b.work.queue → n ≡ m

-- ---- jobs

-- no job is taken out of a journal before an owner of its queue finished it: where a Done was tried in the first acts, so many of
-- them, one of them is `finish` of its job at a worker, which isn't refused. In the acts before that one a state of the worker is shown
-- that works in a group, owns the job's queue and has the job in hand, and the job was put at its origin with the queue, the priority and
-- the payload that are in hand. A worker that isn't the origin finished it in an earlier act than that of the Done
abbrev pub DoneWasFinished : Type 0
DoneWasFinished = (nodes : ℕ) (after : ℕ → Report) (r : Report) → Headline nodes after r →
    (k : ℕ) (t : AttemptAt) (id : ℕ) → IsAmong t (after k).commands → t.node < nodes → t.tried.command ≡ Done id
    →
    (worker : ℕ) × (place : ℕ) × (m : Moment) × (place < k) × (worker ≢ t.node → suc place < k) × (slice_get r.moments place ≡ Some m)
    × (m.act ≡ act.Finish worker t.node id) × ((why : ActRefusal) → m.outcome ≢ outcome.Refused why)
    × ((s : State) × (job : InHand) × IsWorking (first_moments place r) worker s × IsAmong job s.hand × (job.origin ≡ t.node)
    × (job.id ≡ id) × (owner s job.work.queue ≡ worker)
    × WasPut (own_commands t.node (after place).commands) id job.work)
