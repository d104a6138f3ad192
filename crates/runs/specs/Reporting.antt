-- What a run reports: a moment for each act, the groups that were given, and what each node tried and mounted.
use Rattle.std.specs.Prelude.{ℕ, ◌+◌, List, [], ◌∷◌, ◌++◌, map, length, ◌==◌, Option, Some, None, option_to_list, flat_map}
use Rattle.std.specs.List.{filter}
use Rattle.group_task.specs.Group.{Group}
use Rattle.job_model.specs.declared.node_command.NodeCommand.{NodeCommand as Command}
use Rattle.job_model.specs.declared.node_command.NodeCommand.TheVariants.{Raise}
use Rattle.job_model.specs.Durable.{Durable, formatted}
use Rattle.job_model.specs.Answer.{answer_of}
use Rattle.wire_msg.specs.Envelope.{Envelope}
use Rattle.node_core.specs.State.{State}
use Rattle.node_core.specs.Words.{own_group}
use Rattle.histories.specs.NodeState.{NodeState, wants_at, settled}
use Rattle.histories.specs.declared.history_event.HistoryEvent.{HistoryEvent}
use Rattle.histories.specs.declared.history_event.HistoryEvent.TheVariants.{Did, Faulted, Recovered, RaiseFailed}
use Rattle.histories.specs.After.{mounted_at}
use Rattle.histories.specs.Kept.{Mounting}
use Rattle.histories.specs.declared.attempt.Attempt.{Attempt}
use Rattle.schedule.specs.declared.act.Act.{Act}
use Rattle.std.specs.List.{range_with_len}
use Rattle.runs.specs.World.{World, node_in, start}
use Rattle.runs.specs.Step.{Step, Takes, Changes, Denies, step_sent, world_after}
use Rattle.runs.specs.Acts.{act_outcome}
use Rattle.runs.specs.declared.outcome.Outcome.{Outcome}
use Rattle.runs.specs.declared.attempt_at.AttemptAt.{AttemptAt}

-- an act, the node that it is reported of, what came of it, what was sent, and the state of that node after it
pub record Moment : Type 0 where
  pub act : Act
  pub node : ℕ
  pub outcome : Outcome
  pub sent : List Envelope
  pub state : State

-- the groups that were given, and, each with its node, the commands that were tried and the mountings that succeeded
pub record Report : Type 0 where
  pub opening : List State
  pub moments : List Moment
  pub groups : List Group
  pub commands : List AttemptAt
  pub mounted : List (ℕ × Mounting)

-- the node that a step is reported of: node 0 where the network alone changes
abbrev pub node_of : Step → ℕ
node_of (Takes n number what) = n
node_of (Changes net) = 0
node_of (Denies n why) = n

abbrev pub moment_of : ℕ → World → Act → Step → Moment
moment_of nodes w a step = record {
  act = a;
  node = node_of step;
  outcome = act_outcome nodes w a step;
  sent = step_sent nodes w step;
  state = (node_in (world_after nodes w step).states (node_of step)).state;
}

-- those of one node
abbrev pub own_commands : ℕ → List AttemptAt → List Attempt
own_commands n ts = map (λ (t : AttemptAt). t.tried) (filter (λ (t : AttemptAt). t.node == n) ts)

abbrev pub own_mountings : ℕ → List (ℕ × Mounting) → List Mounting
own_mountings n ws = map (λ (w : ℕ × Mounting). w.1) (filter (λ (w : ℕ × Mounting). w.0 == n) ws)

-- ---- the report

-- the report of the openings: each node mounts an empty disk, and its first raise gives its first group
abbrev pub first_report : ℕ → Report
first_report nodes = record {
  opening = map (λ (s : NodeState). s.state) (start nodes).states;
  moments = [];
  groups = map (λ (n : ℕ). own_group n 1) (range_with_len 0 nodes);
  commands = map (λ (n : ℕ). record { node = n; tried = record { command = Raise; acked = Some 1 } }) (range_with_len 0 nodes);
  mounted = map (λ (n : ℕ). (n, record { before = 0; state = formatted })) (range_with_len 0 nodes);
}

-- the commands that something tries on the device, each with its answer if it is acknowledged
abbrev pub tries : ℕ → ℕ → NodeState → HistoryEvent → List Attempt
tries n nodes s (Did event) =
    map (λ (c : Command). record { command = c; acked = Some (answer_of s.durable c) }) (option_to_list (wants_at n nodes s event))
tries n nodes s (Faulted event) = map (λ (c : Command). record { command = c; acked = None }) (option_to_list (wants_at n nodes s event))
tries n nodes s (Recovered kept) = record { command = Raise; acked = Some ((settled kept s).counter + 1) } ∷ []
tries n nodes s (RaiseFailed kept) = record { command = Raise; acked = None } ∷ []
tries n nodes s what = []

-- the commands that a step tries
abbrev pub commands_at : ℕ → World → Step → List AttemptAt
commands_at nodes w (Takes n number what) = map (λ (t : Attempt). record { node = n; tried = t }) (tries n nodes (node_in w.states n) what)
commands_at nodes w step = []

-- the group that a command gives, where it is an acknowledged raise
abbrev pub group_of : ℕ → Command → Option ℕ → List Group
group_of n Raise (Some count) = own_group n count ∷ []
group_of n command acked = []

-- what a step mounts, where these commands were tried before
abbrev pub mountings_at : World → List AttemptAt → Step → List (ℕ × Mounting)
mountings_at w before (Takes n number what) =
    map (λ (d : Durable). (n, record { before = length (own_commands n before); state = d }))
    (option_to_list (mounted_at (node_in w.states n) what))
mountings_at w before step = []

-- the report with one act more
abbrev pub grown : ℕ → World → Act → Step → Report → Report
grown nodes w a step r = record r {
  moments = r.moments ++ moment_of nodes w a step ∷ [];
  groups = r.groups ++ flat_map (λ (t : AttemptAt). group_of t.node t.tried.command t.tried.acked) (commands_at nodes w step);
  commands = r.commands ++ commands_at nodes w step;
  mounted = r.mounted ++ mountings_at w r.commands step;
}

-- and with all these acts, from w on
abbrev pub report_from : ℕ → World → Report → List Act → List Step → Report
report_from nodes w r (a ∷ acts) (step ∷ steps) = report_from nodes (world_after nodes w step) (grown nodes w a step r) acts steps
report_from nodes w r acts steps = r

abbrev pub report_of : ℕ → List Act → List Step → Report
report_of nodes acts steps = report_from nodes (start nodes) (first_report nodes) acts steps
