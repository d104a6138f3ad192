-- What a whole run leaves.
use Rattle.std.specs.Prelude.{◌≡◌, ℕ, ◌+◌, ◌*◌, ◌-◌, ◌<◌, ◌==◌, Bool, List, [], map, length, slice_get, Some}
use Rattle.std.specs.List.{filter}
use mathlib.Core.List.{IsPrefix}
use Rattle.group_task.specs.Assignment.{Assignment}
use Rattle.wire_msg.specs.Envelope.{Envelope}
use Rattle.node_core.specs.State.{State}
use Rattle.node_core.specs.declared.phase.Phase.TheVariants.{Normal}
use Rattle.link_ring.specs.declared.gathering.LinkEnd.{LinkEnd}
use Rattle.histories.specs.HistoryEvent.{Entry}
use Rattle.histories.specs.History.{sent_in, brought_in, FollowsSlots}
use Rattle.histories.specs.Lists.{IsAmong}
use Rattle.histories.specs.NodeState.{opening}
use Rattle.histories.specs.Marks.{commands_of, marks_of}
use Rattle.histories.specs.Owners.{FinishedBy}
use Rattle.histories.specs.declared.attempt.Attempt.{Attempt}
use Rattle.job_model.specs.declared.node_command.NodeCommand.TheVariants.{Done}
use Rattle.node_core.specs.declared.in_hand.InHand.{InHand}
use Rattle.histories.specs.Bundle.{Bundle}
use Rattle.histories.specs.Rising.{EachRises}
use Rattle.histories.specs.Moments.{IsMoment}
use Rattle.histories.specs.Book.{Agrees, IsInGroup}
use Rattle.node_lock.specs.declared.worker.Turns.{Turns}
use Rattle.node_lock.specs.declared.worker.Worker.{Worker}
use Rattle.node_lock.specs.HeldView.{IsOther}
use Rattle.node_lock.specs.History.{Turn, FollowsPlans, entries_of, polled}
use Rattle.node_lock.specs.Kept.{Log}
use Rattle.node_lock.specs.Drawing.{HaveNumbers}
use Rattle.node_lock.specs.Lost.{AreMarked, all_losses, all_went}
use Rattle.node_lock.specs.Planned.{Planned, plan_len, turns_of}
use Rattle.node_lock.specs.Sending.{PutsSome, addressed_to}
use Rattle.node_lock.specs.Wearing.{HasFailed, NoneAreaExhausted}
use Rattle.node_threads.specs.declared.size.RunSize.{RunSize}

-- each worker's turns are its whole plan, in its order
pub record IsInterleaving (plan : Planned) (history : List Turn) : Type 0 where
  pub turns : Turns
  pub follows : FollowsPlans plan history turns
  pub whole : (w : Worker) → turns_of turns w ≡ plan_len plan w

-- the messages from one node, in order
abbrev pub sent_by : ℕ → List Envelope → List Envelope
sent_by i ms = filter (λ (m : Envelope). m.sender == i) ms

-- what went over a link: what was put is, in order, some of what the sender's history sent to the receiver, its first
-- `capacity` messages among them; what was taken is the front of it; and that is what the receiver's polls of this link
-- took, and all that its history was brought from the sender
pub record IsCarried (capacity sender receiver : ℕ) (plan : Planned) (sender_history receiver_history : List Turn) (link : LinkEnd) :
    Type 0 where
  pub from : link.sender ≡ sender
  pub to : link.receiver ≡ receiver
  pub put : PutsSome capacity [] (addressed_to receiver (sent_in (entries_of sender_history))) link.put.messages
  pub taken : IsPrefix link.taken.messages link.put.messages
  pub by_polls : link.taken.messages ≡ polled plan.intake sender receiver_history
  pub brought : link.taken.messages ≡ sent_by sender (brought_in (entries_of receiver_history))

-- the messages of a node's history that went onto no link are just those that it names as lost: each other one is what the link to its
-- receiver carried
pub record AreLosses (nodes n : ℕ) (links : List LinkEnd) (h : Log) : Type 0 where
  pub went : List (List Bool)
  pub marked : AreMarked went h.turns
  pub is_lost : h.lost ≡ all_losses 0 went
  pub put : (k j : ℕ) (link : LinkEnd) → IsOther n k j → j < nodes → slice_get links (n * (nodes - 1) + k) ≡ Some link
      → link.put.messages ≡ addressed_to j (all_went went h.turns)

-- the histories of the nodes
abbrev pub histories_in : List Log → List (List Entry)
histories_in logs = map (λ (l : Log). entries_of l.turns) logs

-- the histories are a bundle, so one book of groups agrees with all of them
pub record IsOneBook (histories : List (List Entry)) : Type 0 where
  pub bundle : Bundle histories
  pub rises : EachRises histories
  pub book : List Assignment
  pub agrees : Agrees book histories
  pub coordinator : (n m : ℕ) (v w : State) → IsMoment histories n v → IsMoment histories m w → IsInGroup v.phase → IsInGroup w.phase
      → v.group ≡ w.group → v.coordinator ≡ w.coordinator
  pub task : (n m : ℕ) (v w : State) → IsMoment histories n v → IsMoment histories m w → v.phase ≡ Normal → w.phase ≡ Normal
      → v.group ≡ w.group → v.task ≡ w.task

-- each job that a node takes out of its journal was finished by a node that had it in hand and owned its queue; and those that have jobs of
-- one queue in
-- hand, in Normal and in one group, are one node
pub record AreWorked (histories : List (List Entry)) : Type 0 where
  pub finished : (n : ℕ) (h : List Entry) → slice_get histories n ≡ Some h → (t : Attempt) (id : ℕ)
      → IsAmong t (commands_of (marks_of n (length histories) h)) → t.command ≡ Done id → FinishedBy histories n id
  pub worker : (n m : ℕ) (v w : State) → IsMoment histories n v → IsMoment histories m w → v.phase ≡ Normal → w.phase ≡ Normal
      → v.group ≡ w.group
      → (a b : InHand) → IsAmong a v.hand → IsAmong b w.hand → a.work.queue ≡ b.work.queue → n ≡ m

-- a history for each node, and a link for each ordered pair of different nodes, by sender and then receiver: the k-th link of
-- node i goes to the k-th other node
pub record IsWhole (size : RunSize) (plans : List Planned) (histories : List Log) (links : List LinkEnd) : Type 0 where
  pub history_count : length histories ≡ length plans
  pub interleaved : (n : ℕ) (p : Planned) (h : Log) → slice_get plans n ≡ Some p → slice_get histories n ≡ Some h → IsInterleaving p h.turns
  -- no entry is one that a journal of so many slots doesn't allow
  pub of_slots : (n : ℕ) (h : Log) → slice_get histories n ≡ Some h
      → FollowsSlots size.slots n (length plans) (opening n) (entries_of h.turns)
  -- the messages that a history names as lost are those that went onto no link
  pub lost : (n : ℕ) (h : Log) → slice_get histories n ≡ Some h → AreLosses (length plans) n links h
  -- the numbers of a node's turns rise, and are those that it drew
  pub numbers : (n : ℕ) (h : Log) → slice_get histories n ≡ Some h → (drawn : List ℕ) × HaveNumbers drawn h.numbers
  -- no event was refused since the areas of the disk are used up, and the disk failed just where an event says so
  pub never_area_exhausted : (n : ℕ) (h : Log) → slice_get histories n ≡ Some h → NoneAreaExhausted (entries_of h.turns)
  pub failures : (n : ℕ) (h : Log) → slice_get histories n ≡ Some h → HasFailed (entries_of h.turns) h.failures
  pub link_count : length links ≡ length plans * (length plans - 1)
  pub carried : (i k j : ℕ) (p : Planned) (from to : Log) → slice_get histories i ≡ Some from → slice_get histories j ≡ Some to
      → slice_get plans j ≡ Some p → IsOther i k j → (link : LinkEnd) × (slice_get links (i * (length plans - 1) + k) ≡ Some link)
      × IsCarried size.capacity i j p from.turns to.turns link
  pub one_book : IsOneBook (histories_in histories)
  pub worked : AreWorked (histories_in histories)
