-- What is promised of every schedule.
use Rattle.std.specs.Prelude.{ℕ, suc, ◌≡◌, ◌≢◌, ◌⊎◌, ◌<◌, ◌≤◌, true, List, take, slice_get, Some, IfSome, All, AllPairs}
use Rattle.std.specs.Prelude.{Contains}
use Rattle.job_model.specs.declared.node_command.NodeCommand.TheVariants.{Put, Done}
use Rattle.job_model.specs.declared.work.Work.{Work}
use Rattle.group_task.specs.Group.{Group}
use Rattle.group_task.specs.Ids.{has}
use Rattle.wire_msg.specs.Envelope.{Envelope}
use Rattle.wire_msg.specs.Kinds.{group_in}
use Rattle.node_core.specs.declared.phase.Phase.TheVariants.{Down, Normal}
use Rattle.node_core.specs.declared.in_hand.InHand.{InHand}
use Rattle.node_core.specs.declared.fault.Refusal.TheVariants.{AreaExhausted}
use Rattle.node_core.specs.State.{State}
use Rattle.node_core.specs.Words.{owner, task_of}
use Rattle.histories.specs.Book.{IsInGroup}
use Rattle.histories.specs.Counts.{IsShort}
use Rattle.histories.specs.Kept.{CommandsKept}
use Rattle.histories.specs.declared.attempt.Attempt.{Attempt}
use Rattle.schedule.specs.declared.act.Act.{Act}
use Rattle.schedule.specs.declared.act.Act.TheVariants as act
use Rattle.runs.specs.World.{start}
use Rattle.runs.specs.declared.outcome.Outcome.TheVariants.{Refused}
use Rattle.runs.specs.declared.outcome.ActRefusal.{ActRefusal}
use Rattle.runs.specs.declared.outcome.ActRefusal.TheVariants.{Node as OfNode}
use Rattle.runs.specs.Step.{Step}
use Rattle.runs.specs.Acts.{IsRunOf}
use Rattle.runs.specs.Reported.{IsReported}
use Rattle.runs.specs.Reporting.{Moment, Report, own_commands, own_mountings, report_of}
use Rattle.runs.specs.declared.attempt_at.AttemptAt.{AttemptAt}

-- a state that the report shows: of a node's opening, or of the moment of an act
abbrev pub IsShown : Report → ℕ → State → Type 0
IsShown r n s = (slice_get r.opening n ≡ Some s) ⊎ ((m : Moment) × Contains r.moments m × (m.node ≡ n) × (m.state ≡ s))

-- and one that works in a group
abbrev pub IsWorking : Report → ℕ → State → Type 0
IsWorking r n s = IsShown r n s × (s.phase ≡ Normal)

-- the report as it was after the first acts, so many of them, as far as it shows states
abbrev pub first_moments : ℕ → Report → Report
first_moments k r = record r { moments = take k r.moments }

-- one of the first acts, so many of them, says that a worker finished the job of this origin and id, and isn't refused. Before it the
-- worker is shown at work in a group, as the owner of the job's queue, with the job in hand; and by then the job was put at its origin,
-- with the work that is in hand: where that was acknowledged, under this id. A worker that isn't the origin says so before the last of
-- these acts
pub record IsFinished (after : ℕ → Report) (r : Report) (count origin id : ℕ) : Type 0 where
  pub worker : ℕ
  pub place : ℕ
  pub moment : Moment
  pub told : slice_get r.moments place ≡ Some moment
  pub of_act : moment.act ≡ act.Finish worker origin id
  pub not_refused : (why : ActRefusal) → moment.outcome ≢ Refused why
  pub in_time : place < count
  pub earlier : worker ≢ origin → suc place < count
  pub state : State
  pub works : IsWorking (first_moments place r) worker state
  pub work : Work
  pub in_hand : Contains state.hand (record { origin = origin; id = id; work = work })
  pub owned : owner state work.queue ≡ worker
  pub put : (t : Attempt) × Contains (own_commands origin (after place).commands) t × (t.command ≡ Put work)
      × ((a : ℕ) → t.acked ≡ Some a → a ≡ id)

-- the groups that a moment names were given then or before
pub record NamesGiven (given : List Group) (m : Moment) : Type 0 where
  pub by_state : m.state.phase ≢ Down → Contains given m.state.group × IfSome m.state.task (λ t. Contains given t.group)
  pub by_messages : (x : Envelope) → Contains m.sent x → IfSome (group_in x.body) (Contains given)

-- a report of so many nodes, which was `after k` when the first k acts had been made, keeps groups and jobs
pub record Headline (nodes : ℕ) (after : ℕ → Report) (r : Report) : Type 0 where
  -- 1: each mounting gives the fold of the node's commands, every acknowledged one included
  pub kept : (n : ℕ) → n < nodes → CommandsKept (own_commands n r.commands) (own_mountings n r.mounted)
  -- 2: the counts of each node's groups are 1 and more, and rise, so no group is given twice; and none is named before it is given
  pub counted : All (λ (g : Group). 1 ≤ g.count) r.groups
  pub rising : AllPairs (λ (g h : Group). g.creator ≡ h.creator → g.count < h.count) r.groups
  pub given : (k : ℕ) (m : Moment) → slice_get r.moments k ≡ Some m → NamesGiven (after (suc k)).groups m
  -- 3: one book has the members of each group. A node in a group has the group's creator as its coordinator; and one that works in it has
  -- the task of just these members, and is one of them
  pub members : Group → List ℕ
  pub coordinator : (n : ℕ) (s : State) → IsShown r n s → IsInGroup s.phase → s.coordinator ≡ s.group.creator
  pub task : (n : ℕ) (s : State) → IsWorking r n s → (s.task ≡ Some (task_of s.group (members s.group))) × (has (members s.group) n ≡ true)
  -- 4: where two states work in one group, jobs of one queue are in one hand
  pub one_worker : (n m : ℕ) (s t : State) → IsWorking r n s → IsWorking r m t → s.group ≡ t.group →
      (a b : InHand) → Contains s.hand a → Contains t.hand b → a.work.queue ≡ b.work.queue → n ≡ m
  -- and a job is done only once an owner of its queue finished it: in the first acts, where the command is tried in them
  pub finished : (k : ℕ) (t : AttemptAt) (id : ℕ) → Contains (after k).commands t → t.node < nodes → t.tried.command ≡ Done id →
      IsFinished after r k t.node id

-- the report is that of a run of the acts, and keeps groups and jobs
pub record IsPromised (nodes slots : ℕ) (acts : List Act) (r : Report) : Type 0 where
  pub run : IsReported nodes slots acts r
  pub keeps : Headline nodes (λ k. report_of nodes (take k acts) run.steps) r

-- no act was refused because the areas of its node's disk are used up
abbrev pub NoAreaExhausted : Report → Type 0
NoAreaExhausted r = (k : ℕ) (m : Moment) → slice_get r.moments k ≡ Some m → m.outcome ≢ Refused (OfNode AreaExhausted)

-- whatever run of its acts a schedule has, in which the areas of no disk are used up, its report keeps groups and jobs
abbrev pub EverySchedule : Type 0
EverySchedule = (nodes slots : ℕ) (acts : List Act) (steps : List Step) →
    IsShort acts → IsRunOf nodes slots (start nodes) acts steps → NoAreaExhausted (report_of nodes acts steps)
    → IsPromised nodes slots acts (report_of nodes acts steps)
