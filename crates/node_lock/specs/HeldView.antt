-- What a contract sees of what a lock holds, and what is always true of it.
use Rattle.std.specs.Prelude.{◌≡◌, ◌≢◌, ℕ, ◌+◌, ◌*◌, ◌<◌, ◌≤◌, ◌⊎◌, ⊤, Option, Some, None, List, [], ◌∷◌, ◌++◌, length, slice_index}
use Rattle.std.specs.Prelude.{slice_index_or, IsSome, ◌↔◌, Bool, true, false, Result, Ok, Err}
use Rattle.wire_msg.specs.Envelope.{Envelope}
use Rattle.sector_disk.specs.Memory.{Memory}
use Rattle.link_ring.specs.Sides.{Side}
use Rattle.durable_node.specs.Node.{Node}
use Rattle.histories.specs.History.{sent_in, FollowsSlots}
use Rattle.histories.specs.NodeState.{opening}
use Rattle.histories.specs.HistoryEvent.{brought, event_of}
use Rattle.node_lock.specs.declared.held.TheConstants.{MOST_ENTRIES}
use Rattle.node_lock.specs.declared.lock.TurnFault.{TurnFault}
use Rattle.node_lock.specs.declared.lock.TurnFault.TheVariants.{GateShut, HistoryFull, NoMemory}
use Rattle.node_lock.specs.declared.run.Run.{Run}
use Rattle.node_lock.specs.declared.worker.Turns.{Turns}
use Rattle.node_lock.specs.declared.worker.Worker.{Worker}
use Rattle.node_lock.specs.declared.worker.Worker.TheVariants.{Intake, Clock, Operator}
use Rattle.node_lock.specs.Doing.{HasSectors, TurnDid}
use Rattle.node_lock.specs.Planned.{Planned, plan_len, turns_of}
use Rattle.node_lock.specs.Sending.{PutsSome, addressed_to, SameSides, IsFirst, Brings}
use Rattle.node_lock.specs.declared.turn_log.Loss.{Loss}
use Rattle.node_lock.specs.Drawing.{Counter, HaveNumbers}
use Rattle.node_lock.specs.Lost.{HasLost}
use Rattle.node_lock.specs.Wearing.{AreaWithin, HasFailed, NoneAreaExhausted}
use Rattle.node_lock.specs.History.{Turn, IsReplay, FollowsPlans, PlanStep, entries_of, polled, from_link, listed}

-- the node and its disk, the ends of its links, the plans and the turns that were taken of them, what came of these, which messages they
-- lost and which numbers they have and drew, of which counter; a
-- message that was taken from a link and not yet handed to the node; and for how many more turns, messages and events there is room
pub record HeldView : Type 0 where
  pub node : Node Memory
  pub run : Run
  pub puts : List Side
  pub takes : List Side
  pub plans : Planned
  pub turns : Turns
  pub history : List Turn
  pub lost : List Loss
  pub numbers : List ℕ
  pub counter : Counter
  pub drawn : List ℕ
  pub waiting : Option Envelope
  pub room : ℕ
  pub sends : ℕ
  pub events : ℕ

-- the other nodes' numbers, in rising order
abbrev pub IsOther : ℕ → ℕ → ℕ → Type 0
IsOther id k j = (k < id → j ≡ k) × (id ≤ k → j ≡ k + 1)

-- these are ends of links to the other nodes, by their numbers
abbrev pub AreEnds : ℕ → List Side → Type 0
AreEnds id sides = (k : ℕ) (d : Side) → k < length sides → IsOther id k (slice_index_or sides k d).receiver

-- what was put on a link is, in order, some of what the history sent to its receiver, and the first `capacity` of it
pub record IsPutLink (run : Run) (history : List Turn) (p : Side) : Type 0 where
  pub sender : p.sender ≡ run.node
  pub capacity : p.capacity ≡ run.capacity
  pub messages : PutsSome p.capacity [] (addressed_to p.receiver (sent_in (entries_of history))) p.messages

-- what was taken from a link is what the history took from it, and what waits
pub record IsTakeLink (h : HeldView) (t : Side) : Type 0 where
  pub receiver : t.receiver ≡ h.run.node
  pub messages : t.messages ≡ polled h.plans.intake t.sender h.history
      ++ from_link h.plans.intake t.sender h.turns.intake (listed h.waiting)

-- an intake polls another node of the cluster
abbrev pub IsPolled : Run → ℕ → Type 0
IsPolled run j = (run.node ≢ j) × (j < run.nodes)

-- what is true whenever the lock is free
pub record HeldInvariant (h : HeldView) : Type 0 where
  pub id : h.node.id ≡ h.run.node
  pub nodes : h.node.nodes ≡ h.run.nodes
  pub member : h.run.node < h.run.nodes
  pub replay : IsReplay h.run.node h.run.nodes (entries_of h.history) h.node
  -- the disk is of the run's size, and no entry is one that a journal of so many slots doesn't allow
  pub least_slots : 4 ≤ h.run.slots
  pub most_slots : h.run.slots ≤ 4096
  pub sectors : HasSectors (8 + 4 * h.run.slots) h.node
  pub slots : FollowsSlots h.run.slots h.run.node h.run.nodes (opening h.run.node) (entries_of h.history)
  pub turns : FollowsPlans h.plans h.history h.turns
  pub links : length h.puts + 1 ≡ h.run.nodes
  pub puts : (k : ℕ) (d : Side) → k < length h.puts → IsPutLink h.run h.history (slice_index_or h.puts k d)
      × IsOther h.run.node k (slice_index_or h.puts k d).receiver
  pub take_links : length h.takes + 1 ≡ h.run.nodes
  pub takes : (k : ℕ) (d : Side) → k < length h.takes → IsTakeLink h (slice_index_or h.takes k d)
      × IsOther h.run.node k (slice_index_or h.takes k d).sender
  pub intake : (i d : ℕ) → i < length h.plans.intake → IsPolled h.run (slice_index_or h.plans.intake i d)
  pub waiting : IsSome h.waiting → h.turns.intake < length h.plans.intake
  pub few : length h.history ≤ MOST_ENTRIES
  -- the messages that are noted as lost are those that went onto no link
  pub lost : HasLost h.history h.lost h.puts
  -- each turn has the number that it drew, and they rise
  pub numbers : HaveNumbers h.drawn h.numbers
  -- the areas of the disk aren't used up, so no event was refused since they are; and the disk failed just where an event says so
  pub area : AreaWithin (2 + length h.history) h.node.disk
  pub never_area_exhausted : NoneAreaExhausted (entries_of h.history)
  pub failures : (disk : Memory) → h.node.disk ≡ Some disk → HasFailed (entries_of h.history) disk.failures

-- so it is of the messages that were seen in the ring of the link that the intake's next turn polls
abbrev pub OfPolled : HeldView → (List Envelope → Type 0) → Type 0
OfPolled h P = (k : ℕ) (d : Side) → k < length h.takes → IsOther h.run.node k (slice_index h.plans.intake h.turns.intake)
    → P (slice_index_or h.takes k d).seen

-- what a poll takes: the message that waits, else the first of those that were seen in the ring; and nothing only where none was
abbrev pub Finds : HeldView → Option Envelope → Type 0
Finds h None = (h.waiting ≡ None) × OfPolled h (λ seen. seen ≡ [])
Finds h (Some m) = (h.waiting ≡ Some m) ⊎ ((h.waiting ≡ None) × OfPolled h (IsFirst m))

-- where a worker polls, what its turn was brought is what its poll took
abbrev pub Polls : HeldView → Worker → Turn → Type 0
Polls h Intake t = (arrived : Option Envelope) × (brought (event_of t.entry.what) ≡ listed arrived) × Finds h arrived
Polls h Clock t = ⊤
Polls h Operator t = ⊤

-- the worker's next entry was added, and it is just what came of its turn
pub record Takes (old : HeldView) (by : Worker) (t : Turn) (new : HeldView) : Type 0 where
  pub history : new.history ≡ old.history ++ t ∷ []
  pub worker : t.worker ≡ by
  pub plan : PlanStep old.plans old.turns t new.turns
  pub did : TurnDid old.node plan.asked t.entry.what t.entry.sent new.node
  pub polls : Polls old by t

-- run and plans stay
pub record SameRun (old new : HeldView) : Type 0 where
  pub run : new.run ≡ old.run
  pub plans : new.plans ≡ old.plans

-- a message that was taken waits, or waits still; or none was taken
abbrev pub WaitsSince : List Side → List Side → Option Envelope → Option Envelope → Type 0
WaitsSince old new before None = (before ≡ None) × SameSides old new
WaitsSince old new before (Some m) = (place : ℕ) × Brings place m before old new

-- want of memory: nothing changed but room, a message that was taken waits, and no mounting is shown
pub record Unserved (old new : HeldView) : Type 0 where
  pub same : SameRun old new
  pub node : new.node ≡ record old.node { mounted = new.node.mounted }
  pub turns : new.turns ≡ old.turns
  pub history : new.history ≡ old.history
  pub lost : new.lost ≡ old.lost
  pub numbers : new.numbers ≡ old.numbers
  pub drawn : new.drawn ≡ old.drawn
  pub puts : SameSides old.puts new.puts
  pub takes : WaitsSince old.takes new.takes old.waiting new.waiting

-- what a worker's turn did to what the lock holds, by what was answered: the gate's refusal changes nothing
pub record Turned (by : Worker) (answer : Result Bool TurnFault) (old new : HeldView) : Type 0 where
  pub used_up : answer ≡ Ok false ↔ (plan_len old.plans by ≤ turns_of old.turns by)
  pub unchanged : answer ≡ Ok false → new ≡ old
  pub taken : answer ≡ Ok true → (t : Turn) × Takes old by t new
  pub shut : answer ≡ Err GateShut → new ≡ old
  pub full : answer ≡ Err HistoryFull → (MOST_ENTRIES ≤ length old.history) × (new ≡ old)
  pub memory : answer ≡ Err NoMemory → Unserved old new

-- and so it did to what the lock then held, of which all holds that is true of a locked node, before the turn and after it
pub record TurnedSome (by : Worker) (Lets : ℕ → Type 0) (answer : Result Bool TurnFault) : Type 0 where
  pub old : HeldView
  pub new : HeldView
  pub was : HeldInvariant old
  pub is : HeldInvariant new
  -- the gate let the worker take the turn that was taken
  pub asked : answer ≡ Ok true → Lets (turns_of old.turns by)
  pub turned : Turned by answer old new
