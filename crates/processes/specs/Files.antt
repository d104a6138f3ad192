-- The nodes of a cluster, each over a file that was formatted once: what the file kept then, and all that came after it.
use Rattle.std.specs.Prelude.{ℕ, ◌+◌, ◌<◌, ◌≤◌, ◌^◌, ◌≡◌, List, [], ◌∷◌, ◌++◌, map, length, slice_get, Some, None}
use Rattle.job_model.specs.declared.job.Job.{Job}
use Rattle.job_model.specs.Durable.{Durable}
use Rattle.group_task.specs.Group.{Group}
use Rattle.wire_msg.specs.Envelope.{Envelope}
use Rattle.node_core.specs.Start.{down}
use Rattle.node_core.specs.State.{State}
use Rattle.node_core.specs.Words.{own_group}
use Rattle.histories.specs.Lists.{IsAmong}
use Rattle.histories.specs.NodeState.{NodeState}
use Rattle.histories.specs.declared.history_event.HistoryEvent.{HistoryEvent}
use Rattle.histories.specs.declared.history_event.HistoryEvent.TheVariants.{Refused}
use Rattle.histories.specs.HistoryEvent.{Entry, event_of, brought}
use Rattle.histories.specs.History.{Follows, counts_given, sent_in, vectors}

-- ---- a file

-- the ids of the jobs rise, from low on, and stay below next
abbrev pub IdsRise : ℕ → List Job → ℕ → Type 0
IdsRise low [] next = low ≤ next
IdsRise low (job ∷ jobs) next = (low ≤ job.id) × IdsRise (job.id + 1) jobs next

-- What a format leaves: counts and ids go on from the same number, and the jobs that the file was given have ids below it.
pub record IsFormatted (file : Durable) : Type 0 where
  pub first : file.counter ≡ file.next
  pub within : file.counter < 2 ^ 64
  pub jobs : IdsRise 0 file.pending file.next

-- a node that never ran: it is down over this file
abbrev pub at_first : ℕ → Durable → NodeState
at_first self file = record { state = down self; durable = file; doubt = None }

-- ---- messages

-- the message that an entry takes: the one that it is brought, unless it refuses it
abbrev pub taken : HistoryEvent → List Envelope
taken (Refused event fault) = []
taken what = brought (event_of what)

-- those that a history takes
abbrev pub taken_in : List Entry → List Envelope
taken_in [] = []
taken_in (e ∷ es) = taken e.what ++ taken_in es

-- ---- a cluster

-- a node of a cluster: what its file kept when it was formatted, and what came of it since
pub record FileHistory : Type 0 where
  pub file : Durable
  pub entries : List Entry

-- the messages that one of the nodes sent
abbrev pub WasSent : List FileHistory → Envelope → Type 0
WasSent cluster m = (n : ℕ) × (node : FileHistory) × (slice_get cluster n ≡ Some node) × IsAmong m (sent_in node.entries)

-- The nodes of a cluster, each at the place of its id: each begins down, over a file that was formatted, goes on as a node may, and
-- takes no message but those that one of the nodes sent. Which came before which isn't said, but of one node.
pub record AreOverFiles (cluster : List FileHistory) : Type 0 where
  pub files : (n : ℕ) (node : FileHistory) → slice_get cluster n ≡ Some node → IsFormatted node.file
  pub follows : (n : ℕ) (node : FileHistory) → slice_get cluster n ≡ Some node
      → Follows n (length cluster) (at_first n node.file) node.entries
  pub delivers : (n : ℕ) (node : FileHistory) → slice_get cluster n ≡ Some node → (m : Envelope) → IsAmong m (taken_in node.entries)
      → WasSent cluster m

-- a state that a node has before its entries or after one of them
abbrev pub IsMomentOf : List FileHistory → ℕ → State → Type 0
IsMomentOf cluster n v = (node : FileHistory) × (slice_get cluster n ≡ Some node)
    × IsAmong v (vectors n (length cluster) (at_first n node.file) node.entries)

-- the numbers of the groups that a node gave, in their order
abbrev pub numbers_given : ℕ → ℕ → FileHistory → List Group
numbers_given n nodes node = map (own_group n) (counts_given n nodes (at_first n node.file) node.entries)

-- node n gave this number as its i-th
abbrev pub IsGivenAt : List FileHistory → ℕ → ℕ → Group → Type 0
IsGivenAt cluster n i group = (node : FileHistory) × (slice_get cluster n ≡ Some node)
    × (slice_get (numbers_given n (length cluster) node) i ≡ Some group)
