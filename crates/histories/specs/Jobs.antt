-- Which job the work in hand is.
use Rattle.std.specs.Prelude.{ℕ, ◌≡◌, ◌≢◌, ◌<◌, List, length, slice_get, Some}
use Rattle.job_model.specs.declared.job.Job.{Job}
use Rattle.job_model.specs.declared.work.Work.{Work}
use Rattle.job_model.specs.declared.node_command.NodeCommand.TheVariants.{Put, Done}
use Rattle.node_core.specs.declared.in_hand.InHand.{InHand}
use Rattle.node_core.specs.State.{State}
use Rattle.histories.specs.Lists.{IsAmong}
use Rattle.histories.specs.NodeState.{NodeState, opening}
use Rattle.histories.specs.HistoryEvent.{Entry}
use Rattle.histories.specs.History.{Follows, states}
use Rattle.histories.specs.declared.attempt.Attempt.{Attempt}
use Rattle.histories.specs.Marks.{commands_of, mountings_of, marks_of}
use Rattle.histories.specs.Kept.{Mounting}
use Rattle.histories.specs.Bundle.{Bundle}
use Rattle.histories.specs.Moments.{IsMoment}

-- at some moment the origin had a pending job of this id with this work: its queue, its priority and its payload
pub record IsJobOf (histories : List (List Entry)) (origin id : ℕ) (work : Work) : Type 0 where
  pub history : List Entry
  pub at : slice_get histories origin ≡ Some history
  pub state : NodeState
  pub is_state : IsAmong state (states origin (length histories) (opening origin) history)
  pub job : Job
  pub pending : IsAmong job state.durable.pending
  pub of_id : job.id ≡ id
  pub of_work : job.work ≡ work

-- the work in hand was a pending job of its origin, of the same id and with the same work
abbrev pub WorkIsJob : Type 0
WorkIsJob = (histories : List (List Entry)) → Bundle histories → (n : ℕ) (v : State) → IsMoment histories n v →
    (w : InHand) → IsAmong w v.hand → IsJobOf histories w.origin w.id w.work

-- jobs of one id that are pending at two moments of a history are one job, with one queue, one priority and one payload
abbrev pub OneJob : Type 0
OneJob = (self nodes : ℕ) (h : List Entry) (s t : NodeState) →
    IsAmong s (states self nodes (opening self) h) → IsAmong t (states self nodes (opening self) h) →
    (a b : Job) → IsAmong a s.durable.pending → IsAmong b t.durable.pending → a.id ≡ b.id → a ≡ b

-- one of these commands put a job of this work: where it was acknowledged, under this id
abbrev pub WasPut : List Attempt → ℕ → Work → Type 0
WasPut ts id work = (t : Attempt) × IsAmong t ts × (t.command ≡ Put work) × ((a : ℕ) → t.acked ≡ Some a → a ≡ id)

-- each job that is pending at some moment of a history was put by one of its commands
abbrev pub PendingWasPut : Type 0
PendingWasPut = (self nodes : ℕ) (h : List Entry) → Follows self nodes (opening self) h →
    (s : NodeState) → IsAmong s (states self nodes (opening self) h) →
    (job : Job) → IsAmong job s.durable.pending → WasPut (commands_of (marks_of self nodes h)) job.id job.work

-- a job whose Done was acknowledged is in nothing that is mounted after that command
abbrev pub DoneIsGone : Type 0
DoneIsGone = (self nodes : ℕ) (h : List Entry) → Follows self nodes (opening self) h → (k id a : ℕ) →
    slice_get (commands_of (marks_of self nodes h)) k ≡ Some (record { command = Done id; acked = Some a }) →
    (w : Mounting) → IsAmong w (mountings_of (marks_of self nodes h)) → k < w.before →
    (job : Job) → IsAmong job w.state.pending → job.id ≢ id
