-- What is seen of a node.
use Rattle.std.specs.Prelude.{ℕ, ◌==◌, List, [], ◌∷◌, length, Option, Some, None}
use Rattle.job_model.specs.declared.job.Job.{Job}
use Rattle.node_core.specs.State.{State}
use Rattle.node_core.specs.Words.{members_of}
use Rattle.node_timers.specs.declared.snapshot.NodeSnapshot.{NodeSnapshot}

-- the first of jobs by rising id
abbrev pub oldest_of : List Job → Option ℕ
oldest_of [] = None
oldest_of (job ∷ jobs) = Some job.id

abbrev pub snapshot_of : ℕ → State → Option ℕ → List Job → NodeSnapshot
snapshot_of id s merge_wait pending = record {
  phase = s.phase;
  is_coordinator = s.coordinator == id;
  group = s.group;
  members = members_of s.task;
  checking = s.checking;
  probing = s.probing;
  merge_wait = merge_wait;
  oldest = oldest_of pending;
  pending = length pending;
}
