-- What goes onto the links.
use Rattle.std.specs.Prelude.{◌≡◌, ℕ, ◌+◌, ◌<◌, ◌≤◌, ◌==◌, ◌⊎◌, ◌&&◌, Bool, true, List, [], ◌∷◌, ◌++◌, length, slice_index_or}
use Rattle.std.specs.Prelude.{if◌then◌else◌, Option, Some, None}
use Rattle.std.specs.List.{AllByRecursion, filter}
use mathlib.Core.List.{IsPrefix}
use Rattle.group_task.specs.Ids.{has}
use Rattle.group_task.specs.Assignment.{Assignment}
use Rattle.job_model.specs.Durable.{Durable}
use Rattle.wire_msg.specs.Envelope.{Envelope}
use Rattle.node_core.specs.declared.event.Event.{Event}
use Rattle.node_core.specs.declared.event.Event.TheVariants as on
use Rattle.node_core.specs.declared.timer.Timer.TheVariants.{Dispatch}
use Rattle.node_core.specs.declared.phase.Phase.TheVariants.{Normal}
use Rattle.node_core.specs.State.{State, in_phase}
use Rattle.link_ring.specs.Sides.{Side}
use Rattle.node_lock.specs.declared.turn_log.Loss.{Loss}

-- the messages to one node, in order
abbrev pub addressed_to : ℕ → List Envelope → List Envelope
addressed_to j ms = filter (λ (m : Envelope). m.receiver == j) ms

-- to what was put, each of the messages was added in order, or lost where `capacity` messages had been put
abbrev pub PutsSome : ℕ → List Envelope → List Envelope → List Envelope → Type 0
PutsSome capacity xs [] ys = ys ≡ xs
PutsSome capacity xs (m ∷ ms) ys =
    PutsSome capacity (xs ++ m ∷ []) ms ys ⊎ ((capacity ≤ length xs) × PutsSome capacity xs ms ys)

-- both are sides of one link
pub record SameLink (old new : Side) : Type 0 where
  pub sender : new.sender ≡ old.sender
  pub receiver : new.receiver ≡ old.receiver
  pub capacity : new.capacity ≡ old.capacity

-- the messages to the end's receiver went onto this link
pub record SentTo (sent : List Envelope) (old new : Side) : Type 0 where
  pub same : SameLink old new
  pub messages : PutsSome old.capacity old.messages (addressed_to old.receiver sent) new.messages

-- each message went onto the link to its receiver
pub record SentOn (sent : List Envelope) (old new : List Side) : Type 0 where
  pub len : length new ≡ length old
  pub each : (k : ℕ) (d : Side) → k < length old → SentTo sent (slice_index_or old k d) (slice_index_or new k d)

-- whether the node is a member by this task, where there is one
abbrev pub is_member : Option Assignment → ℕ → Bool
is_member None j = true
is_member (Some task) j = has task.members j

-- whether a dispatch of a node in this state may give work to node j: it gives some in the phase Normal alone, to members of its group
abbrev pub may_give_to : State → ℕ → Bool
may_give_to s j = in_phase Normal s.phase && is_member s.task j

-- how many messages to one node an event may send where so many jobs are pending: a dispatch one for each to a node that it may give work
-- to, and none to another one; any other event one
abbrev pub most_from : Event → Bool → ℕ → ℕ
most_from (on.Timer Dispatch) gives pending = if gives then pending else 0
most_from event gives pending = 1

-- and to node j, at a node in this state that keeps this: one that is Down keeps nothing, and sends nothing
abbrev pub most_to : Event → State → Option Durable → ℕ → ℕ
most_to event s None j = 0
most_to event s (Some d) j = most_from event (may_give_to s j) (length d.pending)

-- there is room for so many more messages on each link, by its receiver
abbrev pub HasRoomFor : (ℕ → ℕ) → List Side → Type 0
HasRoomFor most sides = (k : ℕ) (d : Side) → k < length sides → most (slice_index_or sides k d).receiver ≤ (slice_index_or sides k d).room

-- there is room on each link for those of these messages that are for its receiver
abbrev pub HasRoomToSend : List Envelope → List Side → Type 0
HasRoomToSend sent sides = (k : ℕ) (d : Side) → k < length sides
    → length (addressed_to (slice_index_or sides k d).receiver sent) ≤ (slice_index_or sides k d).room

-- those of the messages that went onto a link, by whether each of them did
abbrev pub went_of : List Bool → List Envelope → List Envelope
went_of [] ms = []
went_of (b ∷ bs) [] = []
went_of (b ∷ bs) (m ∷ ms) = (if b then m ∷ [] else []) ++ went_of bs ms

-- and the others, as losses of the turn at this place, counted from a place among its messages on
abbrev pub losses_of : ℕ → ℕ → List Bool → List Loss
losses_of turn place [] = []
losses_of turn place (b ∷ bs) = (if b then [] else record { turn = turn; message = place } ∷ []) ++ losses_of turn (place + 1) bs

-- one of the links leads to the node
abbrev pub HasLink : List Side → ℕ → Type 0
HasLink sides j = (k : ℕ) × (k < length sides) × ((d : Side) → (slice_index_or sides k d).receiver ≡ j)

-- each of the messages went onto the link to its receiver or onto none, and just the latter are the losses of the turn at this place
pub record SentBut (turn : ℕ) (sent : List Envelope) (lost : List Loss) (old new : List Side) : Type 0 where
  pub went : List Bool
  pub many : length went ≡ length sent
  pub is_lost : lost ≡ losses_of turn 0 went
  pub put : (k : ℕ) (d : Side) → k < length old → (slice_index_or new k d).messages
      ≡ (slice_index_or old k d).messages ++ addressed_to (slice_index_or old k d).receiver (went_of went sent)
  pub led : AllByRecursion (λ (m : Envelope). HasLink old m.receiver) (went_of went sent)

-- and they are noted behind those before
abbrev pub NotesLost : ℕ → List Envelope → List Loss → List Loss → List Side → List Side → Type 0
NotesLost turn sent before after old new = (lost : List Loss) × (after ≡ before ++ lost) × SentBut turn sent lost old new

-- the message went onto the link to its receiver, or onto none
pub record SentAs (went : Bool) (m : Envelope) (old new : List Side) : Type 0 where
  pub put : (k : ℕ) (d : Side) → k < length old → (slice_index_or new k d).messages
      ≡ (slice_index_or old k d).messages ++ addressed_to (slice_index_or old k d).receiver (if went then m ∷ [] else [])
  pub led : went ≡ true → HasLink old m.receiver

-- the links as before, but for their room
pub record SameSides (old new : List Side) : Type 0 where
  pub len : length new ≡ length old
  pub each : (k : ℕ) (d : Side) → k < length old → SameLink (slice_index_or old k d) (slice_index_or new k d)
      × ((slice_index_or new k d).messages ≡ (slice_index_or old k d).messages)
      × ((slice_index_or new k d).seen ≡ (slice_index_or old k d).seen)

-- the message is the first of these, where there are any
abbrev pub IsFirst : Envelope → List Envelope → Type 0
IsFirst m ms = (later : List Envelope) × IsPrefix ms (m ∷ later)

-- the message was taken from the link at this place, the first of those that were seen in its ring, and nothing else changed
pub record TookAt (place : ℕ) (m : Envelope) (old new : List Side) : Type 0 where
  pub len : length new ≡ length old
  pub each : (k : ℕ) (d : Side) → k < length old → SameLink (slice_index_or old k d) (slice_index_or new k d)
      × ((slice_index_or new k d).messages ≡ (slice_index_or old k d).messages ++ (if k == place then m ∷ [] else []))
  pub first : (d : Side) → place < length old → IsFirst m (slice_index_or old place d).seen

-- the message waited, or was taken from the link at this place
abbrev pub Brings : ℕ → Envelope → Option Envelope → List Side → List Side → Type 0
Brings place m waiting old new =
    ((waiting ≡ Some m) × SameSides old new) ⊎ ((waiting ≡ None) × TookAt place m old new)
