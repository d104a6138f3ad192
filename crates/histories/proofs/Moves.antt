-- What an event may do to a node: to its place in a group, to its work in hand, and what it may say.
use Rattle.std.proofs.Common.{◌≡◌, ◌≢◌, ◌⊎◌, ℕ, true, List, [], ◌∷◌, Option, Some, IfSome}
use Rattle.job_model.specs.declared.work.Work.{Work}
use Rattle.group_task.specs.Group.{Group}
use Rattle.group_task.specs.Assignment.{Assignment, owner_of}
use Rattle.group_task.specs.Ids.{has}
use Rattle.job_model.specs.declared.job.Job.{Job}
use Rattle.job_model.specs.declared.node_command.NodeCommand.{NodeCommand as Command}
use Rattle.job_model.specs.Durable.{Durable}
use Rattle.job_model.specs.Fold.{after_wanted}
use Rattle.wire_msg.specs.Envelope.{Envelope}
use Rattle.wire_msg.specs.declared.body.Body.{Body}
use Rattle.wire_msg.specs.declared.body.Body.TheVariants.{Ready, Work as WorkMessage, Done as DoneMessage}
use Rattle.node_core.specs.declared.event.Event.{Event}
use Rattle.node_core.specs.declared.event.Event.TheVariants.{Finish}
use Rattle.node_core.specs.declared.in_hand.InHand.{InHand}
use Rattle.node_core.specs.declared.phase.Phase.{Phase}
use Rattle.node_core.specs.declared.phase.Phase.TheVariants.{Down, Election, Reorganization, Normal}
use Rattle.node_core.specs.State.{State}
use Rattle.node_core.specs.Effect.{Effect}
use Rattle.node_core.specs.Words.{own_group, task_of, members_of}
use Rattle.node_core.specs.Start.{alone}
use Rattle.wire_msg.specs.Kinds.{group_in}
use Rattle.histories.specs.Lists.{IsAmong, Each}
use Rattle.histories.specs.NodeState.{NodeState}
use Rattle.histories.specs.declared.history_event.HistoryEvent.{HistoryEvent}
use Rattle.histories.specs.HistoryEvent.{event_of, brought}
use Rattle.histories.specs.After.{raised, after, sent_at, given_at}
use Rattle.histories.specs.Named.{AllHold, StateHolds}

-- what happens to a node's place in a group: `given` are the counts that it gives, `made` the tasks that it makes
pub data GroupMove (self : ℕ) (old : State) (came : List Envelope) (given : List ℕ) (made : List Assignment) (new : State) : Type 0 where
  stays : new.phase ≡ old.phase → new.coordinator ≡ old.coordinator → new.group ≡ old.group → new.task ≡ old.task → given ≡ [] → made ≡ []
      → GroupMove self old came given made new
  falls : new.phase ≡ Down → given ≡ [] → made ≡ [] → GroupMove self old came given made new
  starts_alone : (k : ℕ) → given ≡ k ∷ [] → new ≡ alone self k → made ≡ [] → GroupMove self old came given made new
  calls : (k : ℕ) → given ≡ k ∷ [] → new.phase ≡ Election → new.coordinator ≡ self → new.group ≡ own_group self k → made ≡ []
      → GroupMove self old came given made new
  joins : (group : Group) → group.creator ≢ self → new.phase ≡ Reorganization → new.coordinator ≡ group.creator → new.group ≡ group
      → given ≡ [] → made ≡ [] → GroupMove self old came given made new
  assigns : (members : List ℕ) → old.phase ≡ Election → has members self ≡ true → new.task ≡ Some (task_of old.group members)
      → new.coordinator ≡ old.coordinator → new.group ≡ old.group → (new.phase ≡ Reorganization) ⊎ (new.phase ≡ Normal) → given ≡ []
      → made ≡ task_of old.group members ∷ [] → GroupMove self old came given made new
  takes : (m : Envelope) (task : Assignment) → old.phase ≡ Reorganization → came ≡ m ∷ [] → m.body ≡ Ready task → old.coordinator ≡ m.sender
      → task.group ≡ old.group → has task.members self ≡ true → new.task ≡ Some task → new.coordinator ≡ old.coordinator
      → new.group ≡ old.group → new.phase ≡ Normal → given ≡ [] → made ≡ [] → GroupMove self old came given made new
  completes : old.phase ≡ Reorganization → old.coordinator ≡ self → new.task ≡ old.task → new.coordinator ≡ old.coordinator
      → new.group ≡ old.group → new.phase ≡ Normal → given ≡ [] → made ≡ [] → GroupMove self old came given made new

-- what is said: P holds of each group that is named and J of each job that is sent out; a Ready names its true sender and a task that was
-- made; a Done is of a Finish
abbrev pub SaysIn : (Group → Type 0) → (ℕ → ℕ → Work → Type 0) → ℕ → List Assignment → Option Event → ℕ → ℕ → Body → Type 0
SaysIn P J self made event sender receiver (Ready task) = (sender ≡ self) × IsAmong task made × P task.group
SaysIn P J self made event sender receiver (WorkMessage group id work) = P group × J sender id work
SaysIn P J self made event sender receiver (DoneMessage id) = event ≡ Some (Finish receiver id)
SaysIn P J self made event sender receiver body = IfSome (group_in body) P

abbrev pub Says : (Group → Type 0) → (ℕ → ℕ → Work → Type 0) → ℕ → List Assignment → Option Event → Envelope → Type 0
Says P J self made event m = SaysIn P J self made event m.sender m.receiver m.body

-- Q holds of each job that a message brings
abbrev pub WorkIn : (ℕ → ℕ → Work → Type 0) → ℕ → Body → Type 0
WorkIn Q sender (WorkMessage group id work) = Q sender id work
WorkIn Q sender body = Unit {0}

abbrev pub AllWork : (ℕ → ℕ → Work → Type 0) → List Envelope → Type 0
AllWork Q ms = Each (λ (m : Envelope). WorkIn Q m.sender m.body) ms

abbrev pub JobsHold : (ℕ → ℕ → Work → Type 0) → ℕ → List Job → Type 0
JobsHold J self jobs = Each (λ (job : Job). J self job.id job.work) jobs

-- work is in hand in Normal alone, its queue is the node's own, and Q holds of it
abbrev pub Held : (ℕ → ℕ → Work → Type 0) → ℕ → Phase → Option Assignment → InHand → Type 0
Held Q self phase task job = (phase ≡ Normal) × (owner_of (members_of task) job.work.queue ≡ self) × Q job.origin job.id job.work

abbrev pub HandHolds : (ℕ → ℕ → Work → Type 0) → ℕ → State → Type 0
HandHolds Q self s = Each (Held Q self s.phase s.task) s.hand

abbrev pub GivenHold : (Group → Type 0) → ℕ → List ℕ → Type 0
GivenHold P self ks = Each (λ (k : ℕ). P (own_group self k)) ks

-- P holds of each group that an event finds
pub record Knows (P : Group → Type 0) (self : ℕ) (s : State) (given : List ℕ) (came : List Envelope) : Type 0 where
  pub place : StateHolds P s
  pub fresh : GivenHold P self given
  pub heard : AllHold P came

-- J holds of each job that is pending before or after the event
pub record KnowsJobs (J : ℕ → ℕ → Work → Type 0) (self : ℕ) (d : Durable) (wants : Option Command) : Type 0 where
  pub before : JobsHold J self d.pending
  pub after : JobsHold J self (after_wanted d wants).pending

-- what an event with this command makes, as all laws need it
pub record Does (P : Group → Type 0) (J Q : ℕ → ℕ → Work → Type 0) (self : ℕ) (s : State) (d : Durable) (event : Event)
    (wants : Option Command) (e : Effect) : Type 0 where
  pub made : List Assignment
  pub moves : GroupMove self s (brought (Some event)) (raised d wants) made e.state
  pub names : Knows P self s (raised d wants) (brought (Some event)) → StateHolds P e.state
  pub holds : KnowsJobs Q self d wants → AllWork Q (brought (Some event)) → HandHolds Q self s → HandHolds Q self e.state
  pub says : Knows P self s (raised d wants) (brought (Some event)) → KnowsJobs J self d wants
      → Each (Says P J self made (Some event)) e.sent

-- what an entry makes, as all laws need it
pub record Enters (P : Group → Type 0) (J Q : ℕ → ℕ → Work → Type 0) (self nodes : ℕ) (s : NodeState) (what : HistoryEvent) : Type 0 where
  pub made : List Assignment
  pub moves : GroupMove self s.state (brought (event_of what)) (given_at self nodes s what) made (after self nodes s what).state
  pub names : Knows P self s.state (given_at self nodes s what) (brought (event_of what)) → StateHolds P (after self nodes s what).state
  pub holds : JobsHold Q self s.durable.pending → JobsHold Q self (after self nodes s what).durable.pending
      → AllWork Q (brought (event_of what)) → HandHolds Q self s.state → HandHolds Q self (after self nodes s what).state
  pub says : Knows P self s.state (given_at self nodes s what) (brought (event_of what)) → JobsHold J self s.durable.pending
      → JobsHold J self (after self nodes s what).durable.pending →
      Each (Says P J self made (event_of what)) (sent_at self nodes s what)
