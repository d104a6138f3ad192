-- What holds of the jobs of a cluster over files, and of who leads it, from one moment of a node to a later one.
use Rattle.std.specs.Prelude.{ℕ, Bool, ◌<◌, ◌≤◌, ◌≡◌, ◌≢◌, ◌⊎◌, List, [], ◌∷◌, ◌++◌, length, slice_get, Option, Some, None}
use Rattle.job_model.specs.declared.job.Job.{Job}
use Rattle.job_model.specs.declared.work.Work.{Work}
use Rattle.job_model.specs.declared.node_command.NodeCommand.{NodeCommand as Command}
use Rattle.job_model.specs.declared.node_command.NodeCommand.TheVariants.{Put, Done}
use Rattle.job_model.specs.Durable.{Durable}
use Rattle.job_model.specs.Fold.{after_command}
use Rattle.wire_msg.specs.Envelope.{Envelope}
use Rattle.node_core.specs.declared.event.Event.{Event}
use Rattle.node_core.specs.declared.event.Event.TheVariants.{Finish}
use Rattle.node_core.specs.declared.in_hand.InHand.{InHand}
use Rattle.node_core.specs.State.{State}
use Rattle.histories.specs.Book.{IsInGroup}
use Rattle.histories.specs.Lists.{IsAmong}
use Rattle.histories.specs.NodeState.{NodeState, wants_at}
use Rattle.histories.specs.declared.history_event.HistoryEvent.{HistoryEvent}
use Rattle.histories.specs.declared.history_event.HistoryEvent.TheVariants.{Did, Faulted, RaiseRefused}
use Rattle.histories.specs.HistoryEvent.{Entry}
use Rattle.histories.specs.After.{after, mounted_at}
use Rattle.histories.specs.History.{replay, states}
use Rattle.histories.specs.Owners.{HasWork, acted_in}
use Rattle.processes.specs.Files.{FileHistory, AreOverFiles, IsMomentOf, at_first}

-- ---- commands

-- the command that an event tries on the disk, which takes it or fails in it
abbrev pub tried : ℕ → ℕ → NodeState → HistoryEvent → Option Command
tried self nodes s (Did event) = wants_at self nodes s event
tried self nodes s (Faulted event) = wants_at self nodes s event
tried self nodes s what = None

-- one of the entries tries this command
abbrev pub Tries : ℕ → ℕ → NodeState → List Entry → Command → Type 0
Tries self nodes s [] command = ⊥
Tries self nodes s (e ∷ es) command = (tried self nodes s e.what ≡ Some command) ⊎ Tries self nodes (after self nodes s e.what) es command

-- ---- two moments of a node

-- a node of the cluster behind some of its entries, and behind some more of them
pub record TwoMoments (cluster : List FileHistory) (n : ℕ) : Type 0 where
  pub node : FileHistory
  pub at : slice_get cluster n ≡ Some node
  pub first : List Entry
  pub more : List Entry
  pub rest : List Entry
  pub whole : first ++ more ++ rest ≡ node.entries

-- behind some entries
abbrev pub state_behind : List FileHistory → ℕ → FileHistory → List Entry → NodeState
state_behind cluster n node es = replay n (length cluster) (at_first n node.file) es

abbrev pub earlier : (cluster : List FileHistory) (n : ℕ) → TwoMoments cluster n → NodeState
earlier cluster n two = state_behind cluster n two.node two.first

abbrev pub later : (cluster : List FileHistory) (n : ℕ) → TwoMoments cluster n → NodeState
later cluster n two = state_behind cluster n two.node (two.first ++ two.more)

-- ---- laws

-- a job that the disk keeps is kept at each later moment, unless it was tried to take it out by then
abbrev pub JobsAreKept : Type 0
JobsAreKept = (cluster : List FileHistory) → AreOverFiles cluster → (n : ℕ) (two : TwoMoments cluster n) (job : Job)
    → IsAmong job (earlier cluster n two).durable.pending →
    IsAmong job (later cluster n two).durable.pending ⊎ Tries n (length cluster) (at_first n two.node.file) (two.first ++ two.more)
    (Done job.id)

-- a job that was taken out, as the disk acknowledged, is never kept again
abbrev pub DoneStaysDone : Type 0
DoneStaysDone = (cluster : List FileHistory) → AreOverFiles cluster
    → (n : ℕ) (two : TwoMoments cluster n) (event : Event) (sent : List Envelope) (es : List Entry)
    → two.more ≡ record { what = Did event; sent = sent } ∷ es →
    (id : ℕ) → wants_at n (length cluster) (earlier cluster n two) event ≡ Some (Done id) → (job : Job)
    → IsAmong job (later cluster n two).durable.pending → job.id ≢ id

-- a start finds what the disk kept before, with the whole of the command that was in doubt or with nothing of it, and the node goes on
-- from the jobs that it found
pub record IsWhole (cluster : List FileHistory) (n : ℕ) (two : TwoMoments cluster n) (what : HistoryEvent) (found : Durable) : Type 0 where
  pub whole : (found ≡ (earlier cluster n two).durable) ⊎ ((command : Command) × ((earlier cluster n two).doubt ≡ Some command)
      × (found ≡ after_command (earlier cluster n two).durable command))
  pub goes_on : ((kept : Bool) → what ≢ RaiseRefused kept)
      → (after n (length cluster) (earlier cluster n two) what).durable.pending ≡ found.pending

abbrev pub CommandsAreWhole : Type 0
CommandsAreWhole = (cluster : List FileHistory) → AreOverFiles cluster
    → (n : ℕ) (two : TwoMoments cluster n) (what : HistoryEvent) (sent : List Envelope) (es : List Entry)
    → two.more ≡ record { what = what; sent = sent } ∷ es →
    (found : Durable) → mounted_at (earlier cluster n two) what ≡ Some found → IsWhole cluster n two what found

-- the id that a disk gives to a job that it takes
abbrev pub id_by : Durable → Option Command → List ℕ
id_by d (Some (Put work)) = d.next ∷ []
id_by d wants = []

abbrev pub id_at : ℕ → ℕ → NodeState → HistoryEvent → List ℕ
id_at self nodes s (Did event) = id_by s.durable (wants_at self nodes s event)
id_at self nodes s what = []

-- the ids of the jobs that a node took, in their order
abbrev pub ids_given : ℕ → ℕ → NodeState → List Entry → List ℕ
ids_given self nodes s [] = []
ids_given self nodes s (e ∷ es) = id_at self nodes s e.what ++ ids_given self nodes (after self nodes s e.what) es

-- they rise, above the ids of before the file was formatted
abbrev pub IdsAreNew : Type 0
IdsAreNew = (cluster : List FileHistory) → AreOverFiles cluster → (n : ℕ) (node : FileHistory) → slice_get cluster n ≡ Some node
    → (i j a b : ℕ) → i < j →
    slice_get (ids_given n (length cluster) (at_first n node.file) node.entries) i ≡ Some a
    → slice_get (ids_given n (length cluster) (at_first n node.file) node.entries) j ≡ Some b →
    (node.file.next ≤ a) × (a < b)

-- the counts of the groups that a node leads rise
abbrev pub LeaderCountsRise : Type 0
LeaderCountsRise = (cluster : List FileHistory) → AreOverFiles cluster → (n : ℕ) (two : TwoMoments cluster n)
    → IsInGroup (earlier cluster n two).state.phase → IsInGroup (later cluster n two).state.phase →
    (earlier cluster n two).state.coordinator ≡ n → (later cluster n two).state.coordinator ≡ n
    → (earlier cluster n two).state.group.count ≤ (later cluster n two).state.group.count

-- a node was told that a job is finished, and at some moment worked in a group with the job of this keeper and id in hand, owning its queue
pub record WasFinished (cluster : List FileHistory) (origin id : ℕ) : Type 0 where
  pub worker : ℕ
  pub node : FileHistory
  pub at : slice_get cluster worker ≡ Some node
  pub finished : IsAmong (Finish origin id) (acted_in node.entries)
  pub moment : State
  pub is_moment : IsMomentOf cluster worker moment
  pub has_work : HasWork worker moment origin id

-- no job is taken out of a journal but one that was finished
abbrev pub DoneWasFinished : Type 0
DoneWasFinished = (cluster : List FileHistory) → AreOverFiles cluster → (n : ℕ) (node : FileHistory) → slice_get cluster n ≡ Some node →
    (id : ℕ) → Tries n (length cluster) (at_first n node.file) node.entries (Done id) → WasFinished cluster n id

-- at some moment the node that keeps the job had it pending, with this work: its queue, its priority and its payload
abbrev pub WasPending : List FileHistory → ℕ → ℕ → Work → Type 0
WasPending cluster origin id work =
    (node : FileHistory) × (slice_get cluster origin ≡ Some node) × (s : NodeState)
    × IsAmong s (states origin (length cluster) (at_first origin node.file) node.entries)
    × IsAmong (record { id = id; work = work }) s.durable.pending

-- the work in hand at a moment was such a job of its keeper
abbrev pub WorkIsJob : Type 0
WorkIsJob = (cluster : List FileHistory) → AreOverFiles cluster → (n : ℕ) (v : State) → IsMomentOf cluster n v → (w : InHand)
    → IsAmong w v.hand → WasPending cluster w.origin w.id w.work
