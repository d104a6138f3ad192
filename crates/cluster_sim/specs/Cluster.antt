-- A cluster with its report, as code keeps it.
use Rattle.std.specs.Prelude.{ℕ, ◌≡◌, ◌+◌, ◌<◌, Bool, true, false, List, [], ◌∷◌, ◌++◌, map, length, slice_get, Option, Some, None, vec_len}
use Rattle.std.specs.Prelude.{vec_capacity}
use Rattle.group_task.specs.Group.{Group}
use Rattle.job_model.specs.declared.node_command.NodeCommand.{NodeCommand as Command}
use Rattle.job_model.specs.declared.node_command.NodeCommand.TheVariants.{Raise}
use Rattle.job_model.specs.Durable.{Durable, formatted}
use Rattle.wire_msg.specs.Envelope.{Envelope}
use Rattle.node_core.specs.State.{State, state_of}
use Rattle.node_core.specs.Words.{own_group}
use Rattle.sector_disk.specs.Memory.{Memory}
use Rattle.durable_node.specs.Node.{Node}
use Rattle.histories.specs.declared.attempt.Attempt.{Attempt}
use Rattle.histories.specs.Kept.{Mounting}
use Rattle.schedule.specs.declared.act.Act.{Act}
use Rattle.schedule.specs.declared.act.Act.TheVariants as act
use Rattle.cluster_sim.specs.declared.act_report.ActReport.{ActReport}
use Rattle.histories.specs.EventOutcomes.{command_with}
use Rattle.histories.specs.declared.command_kind.CommandKind.{CommandKind}
use Rattle.job_model.specs.declared.work.Work.{Work}
use Rattle.runs.specs.declared.outcome.Outcome.{Outcome}
use Rattle.cluster_sim.specs.declared.report.Moment.{Moment as KeptMoment}
use Rattle.cluster_sim.specs.declared.report.Mounted.{Mounted}
use Rattle.cluster_sim.specs.declared.report.Report.{Report as KeptReport}
use Rattle.runs.specs.World.{World}
use Rattle.runs.specs.Step.{Step, world_after}
use Rattle.runs.specs.Acts.{act_outcome}
use Rattle.runs.specs.Reporting.{Moment, Report, own_commands, group_of, grown}
use Rattle.runs.specs.declared.attempt_at.AttemptAt.{AttemptAt}
use Rattle.runs.specs.ExactRuns.{IsExactStep}
use Rattle.runs.specs.Growth.{acts_in, IsLeft}
use Rattle.runs.specs.Numbered.{sent_under}
use Rattle.cluster_sim.specs.World.{AreasWithin, WorldView, StandsFor}

-- ---- a report, as code keeps it

abbrev pub mounted_of : Mounted → ℕ × Mounting
mounted_of m = (m.node, record { before = m.before; state = record { counter = m.count; next = m.next; pending = m.pending.items } })

-- the messages of a moment are those of its numbers, of all that were sent
abbrev pub moment_in : List Envelope → KeptMoment → Moment
moment_in sent m = record { act = m.act; node = m.node; outcome = m.outcome; sent = sent_under sent m.outcome; state = state_of m.vector }

abbrev pub report_in : KeptReport → List Envelope → Report
report_in r sent = record {
  opening = map state_of r.opening.items;
  moments = map (moment_in sent) r.moments.items;
  groups = r.groups.items;
  commands = r.commands.items;
  mounted = map mounted_of r.mounted.items;
}

-- there is room for what is reported of one act
pub record HasRoom (r : KeptReport) : Type 0 where
  pub moments : vec_len r.moments < vec_capacity r.moments
  pub groups : vec_len r.groups < vec_capacity r.groups
  pub commands : vec_len r.commands < vec_capacity r.commands
  pub mounted : vec_len r.mounted < vec_capacity r.mounted

-- ---- what an act adds

-- what was mounted, where the act mounts
abbrev pub mounted_now : Bool → Option Durable → Option Durable
mounted_now true mounted = mounted
mounted_now false mounted = None

-- the command that was tried, as it is reported
abbrev pub tried_as : Option Command → Option ℕ → Option Attempt
tried_as None acked = None
tried_as (Some c) acked = Some (record { command = c; acked = acked })

-- the work that an act submits
abbrev pub work_in : Act → Option Work
work_in (act.Submit n work) = Some work
work_in a = None

-- the whole command that was tried in an act
abbrev pub command_in : Act → Option CommandKind → Option Command
command_in a tried = command_with (work_in a) tried

abbrev pub tried_by : Act → ActReport → Option Attempt
tried_by a action = tried_as (command_in a action.tried) action.acked

abbrev pub tried_at : ℕ → Option Attempt → Option AttemptAt
tried_at n None = None
tried_at n (Some t) = Some (record { node = n; tried = t })

abbrev pub mounting_at : ℕ → ℕ → Option Durable → Option (ℕ × Mounting)
mounting_at n before None = None
mounting_at n before (Some d) = Some (n, record { before = before; state = d })

-- the group of a new count
abbrev pub given_in : Option AttemptAt → List Group
given_in None = []
given_in (Some t) = group_of t.node t.tried.command t.tried.acked

abbrev pub listed : {A : Type 0} → Option A → List A
listed None = []
listed (Some a) = a ∷ []

-- a report with one act more
abbrev pub with_act : Moment → Option AttemptAt → Option (ℕ × Mounting) → Report → Report
with_act m tried mounted r = record {
  opening = r.opening;
  moments = r.moments ++ m ∷ [];
  groups = r.groups ++ given_in tried;
  commands = r.commands ++ listed tried;
  mounted = r.mounted ++ listed mounted;
}

-- with this act of node n, which is as it is now and had tried so many commands before, where these are all messages
abbrev pub with_action : List Envelope → ℕ → ℕ → Act → ActReport → Node Memory → Report → Report
with_action sent n before a action node r =
    with_act (record { act = a; node = n; outcome = action.outcome; sent = sent_under sent action.outcome; state = node.state })
    (tried_at n (tried_by a action)) (mounting_at n before (mounted_now action.mounted node.mounted)) r

-- a report with one more node that opened
abbrev pub with_opening : ℕ → State → Report → Report
with_opening n s r = record {
  opening = r.opening ++ s ∷ [];
  moments = r.moments;
  groups = r.groups ++ own_group n 1 ∷ [];
  commands = r.commands ++ record { node = n; tried = record { command = Raise; acked = Some 1 } } ∷ [];
  mounted = r.mounted ++ (n, record { before = 0; state = formatted }) ∷ [];
}

-- ---- a cluster with its report

pub record ClusterView : Type 0 where
  pub world : WorldView
  pub report : Report

-- a cluster and the report that is kept of it, whose messages are those in the network
abbrev pub cluster_with : WorldView → KeptReport → ClusterView
cluster_with view r = record { world = view; report = report_in r view.net.sent }

-- a run of the acts so far, of which this is the report, left the cluster as it is
pub record Reports (c : ClusterView) (w : World) : Type 0 where
  pub stands : StandsFor c.world w
  pub left : IsLeft (length c.world.nodes) c.world.slots w c.report

-- the act had one of its steps, and run and report went on by it
pub record GoesOn (w : World) (act : Act) (outcome : Outcome) (old new : ClusterView) : Type 0 where
  pub step : Step
  pub is_step : IsExactStep (length w.states) new.world.slots w act step
  pub outcome_is : outcome ≡ act_outcome (length w.states) w act step
  pub grows : new.report ≡ grown (length w.states) w act step old.report
  pub reports : Reports new (world_after (length w.states) w step)

-- so many commands each node tried
pub record AreCounted (nodes : ℕ) (commands : List AttemptAt) (counts : List ℕ) : Type 0 where
  pub as_many : length counts ≡ nodes
  pub each : (n k : ℕ) → slice_get counts n ≡ Some k → k ≡ length (own_commands n commands)

-- what is true of every cluster that keeps a report
pub record IsCluster (c : ClusterView) (counts : List ℕ) : Type 0 where
  pub last : World
  pub reports : Reports c last
  pub counted : AreCounted (length c.world.nodes) c.report.commands counts
  -- each act raises the number of an area by one at most
  pub areas : AreasWithin (length c.report.moments + 2) c.world.nodes

-- how many jobs a node may take in hand in one step, where its disk has so many slots
abbrev pub pending_room : ℕ → Bool → Option Durable → ℕ
pending_room slots true kept = slots
pending_room slots false None = slots
pending_room slots false (Some d) = length d.pending

-- some run of these acts, on a cluster of so many nodes that just opened, is the one that is reported
pub record HasRun (nodes : ℕ) (acts : List Act) (c : ClusterView) : Type 0 where
  pub last : World
  pub reports : Reports c last
  pub as_many : length c.world.nodes ≡ nodes
  pub of_acts : acts_in c.report ≡ acts
