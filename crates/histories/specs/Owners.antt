-- A job is done after an owner of its queue finished it.
use Rattle.std.specs.Prelude.{ℕ, ◌≡◌, List, [], ◌∷◌, ◌++◌, length, slice_get, Some}
use Rattle.job_model.specs.declared.node_command.NodeCommand.TheVariants.{Done}
use Rattle.node_core.specs.declared.phase.Phase.TheVariants.{Normal}
use Rattle.node_core.specs.declared.in_hand.InHand.{InHand}
use Rattle.node_core.specs.declared.event.Event.{Event}
use Rattle.node_core.specs.declared.event.Event.TheVariants.{Finish}
use Rattle.node_core.specs.State.{State}
use Rattle.node_core.specs.Words.{owner}
use Rattle.histories.specs.Lists.{IsAmong}
use Rattle.histories.specs.declared.history_event.HistoryEvent.{HistoryEvent}
use Rattle.histories.specs.declared.history_event.HistoryEvent.TheVariants.{Did, Faulted}
use Rattle.histories.specs.HistoryEvent.{Entry}
use Rattle.histories.specs.Bundle.{Bundle}
use Rattle.histories.specs.Moments.{IsMoment}
use Rattle.histories.specs.declared.attempt.Attempt.{Attempt}
use Rattle.histories.specs.Marks.{commands_of, marks_of}

-- the event of an entry, where it wasn't refused
abbrev pub acted : HistoryEvent → List Event
acted (Did event) = event ∷ []
acted (Faulted event) = event ∷ []
acted what = []

-- the events of a history that weren't refused
abbrev pub acted_in : List Entry → List Event
acted_in [] = []
acted_in (e ∷ es) = acted e.what ++ acted_in es

-- the node is Normal, and has the job of this origin and id in hand, whose queue it owns
pub record HasWork (self : ℕ) (v : State) (origin id : ℕ) : Type 0 where
  pub is_normal : v.phase ≡ Normal
  pub job : InHand
  pub held : IsAmong job v.hand
  pub of_origin : job.origin ≡ origin
  pub of_id : job.id ≡ id
  pub owned : owner v job.work.queue ≡ self

-- some node had the work at a moment, and was told that the job is finished
pub record FinishedBy (histories : List (List Entry)) (origin id : ℕ) : Type 0 where
  pub worker : ℕ
  pub history : List Entry
  pub at : slice_get histories worker ≡ Some history
  pub finished : IsAmong (Finish origin id) (acted_in history)
  pub moment : State
  pub is_moment : IsMoment histories worker moment
  pub has_work : HasWork worker moment origin id

-- each job that a node takes out of its journal was finished by an owner of its queue
abbrev pub OwnerFinishes : Type 0
OwnerFinishes = (histories : List (List Entry)) → Bundle histories → (n : ℕ) (h : List Entry) → slice_get histories n ≡ Some h →
    (t : Attempt) (id : ℕ) → IsAmong t (commands_of (marks_of n (length histories) h)) → t.command ≡ Done id → FinishedBy histories n id

-- two moments in Normal of one group, with jobs of one queue in hand, are of one node
abbrev pub OneWorker : Type 0
OneWorker = (histories : List (List Entry)) → Bundle histories → (n m : ℕ) (v w : State) → IsMoment histories n v → IsMoment histories m w →
    v.phase ≡ Normal → w.phase ≡ Normal → v.group ≡ w.group →
    (a b : InHand) → IsAmong a v.hand → IsAmong b w.hand → a.work.queue ≡ b.work.queue → n ≡ m
