-- What the history of a node under its lock says: of the node, of each worker's plan, and of the links.
use Rattle.std.specs.Prelude.{◌≡◌, ℕ, ◌==◌, Option, Some, None, List, [], ◌∷◌, ◌++◌, map, slice_index, if◌then◌else◌}
use Rattle.wire_msg.specs.Envelope.{Envelope}
use Rattle.sector_disk.specs.Memory.{Memory, state_of}
use Rattle.durable_node.specs.Node.{Node, Stands}
use Rattle.histories.specs.NodeState.{opening}
use Rattle.histories.specs.HistoryEvent.{Entry as NodeEntry, brought, event_of}
use Rattle.histories.specs.History.{Follows, replay}
use Rattle.node_lock.specs.declared.worker.Turns.{Turns}
use Rattle.node_lock.specs.declared.worker.Worker.{Worker}
use Rattle.node_lock.specs.Asking.{Asked, IsAsked}
use Rattle.node_lock.specs.Doing.{Gives}
use Rattle.node_lock.specs.Path.{Path}
use Rattle.node_lock.specs.Planned.{Planned, turns_of, with_turn, no_turns}

-- one turn of a worker: its number in the worker's plan, and the entry of the node's history that came of it
pub record Turn : Type 0 where
  pub worker : Worker
  pub index : ℕ
  pub entry : NodeEntry

-- the entries of the node's history, in their order
abbrev pub entries_of : List Turn → List NodeEntry
entries_of turns = map (λ (t : Turn). t.entry) turns

-- the history is one of a node that has just opened, and the node stands for the state that it replays to
pub record IsReplay (id nodes : ℕ) (history : List NodeEntry) (node : Node Memory) : Type 0 where
  pub follows : Follows id nodes (opening id) history
  pub stands : Stands state_of node (replay id nodes (opening id) history)

-- the turn is the next of its worker's plan, what is written down may come of what that asks, and these turns are taken then
pub record PlanStep (p : Planned) (c : Turns) (t : Turn) (d : Turns) : Type 0 where
  pub asked : Asked
  pub asks : IsAsked p t.worker t.index asked
  pub gives : Gives asked t.entry.what
  pub index : t.index ≡ turns_of c t.worker
  pub turns : d ≡ with_turn c t.worker

-- each worker's turns are a front of its plan, in its order, and so many
abbrev pub FollowsPlans : Planned → List Turn → Turns → Type 0
FollowsPlans p history turns = Path (PlanStep p) no_turns history turns

-- what a turn was brought, where the plan names j for it
abbrev pub from_link : List ℕ → ℕ → ℕ → List Envelope → List Envelope
from_link plan j i ms = if slice_index plan i == j then ms else []

-- the messages that the history took from the link from j, in order
abbrev pub polled : List ℕ → ℕ → List Turn → List Envelope
polled plan j [] = []
polled plan j (t ∷ ts) = from_link plan j t.index (brought (event_of t.entry.what)) ++ polled plan j ts

-- the message, where there is one
abbrev pub listed : Option Envelope → List Envelope
listed None = []
listed (Some m) = m ∷ []
