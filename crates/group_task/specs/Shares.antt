-- How the queues are shared among the members.
use Rattle.std.specs.Prelude.{◌≡◌, ◌≢◌, ℕ, ◌+◌, ◌<◌, ◌≤◌, ◌==◌, true, List, [], count_by}
use Rattle.std.specs.List.{range_with_len}
use Rattle.job_model.specs.declared.queue.TheConstants.{QUEUES}
use Rattle.group_task.specs.Ids.{has, IsSet}
use Rattle.group_task.specs.Assignment.{owner_of}

-- all queues, from 0 on
abbrev pub all_queues : List ℕ
all_queues = range_with_len 0 QUEUES

-- how many of all queues a node owns
abbrev pub queues_of : List ℕ → ℕ → ℕ
queues_of members node = count_by (λ queue. owner_of members queue == node) all_queues

-- of the members of a group exactly one owns a queue, and so no other node
abbrev pub OneOwner : Type 0
OneOwner = (members : List ℕ) (queue : ℕ) → IsSet members → members ≢ [] → queue < QUEUES →
    (has members (owner_of members queue) ≡ true) × (count_by (λ node. owner_of members queue == node) members ≡ 1)

-- no member owns two queues more than another
abbrev pub IsEven : Type 0
IsEven = (members : List ℕ) (a b : ℕ) → IsSet members → has members a ≡ true → has members b ≡ true →
    queues_of members a ≤ queues_of members b + 1

-- the queues are shared among these members: exactly one of them owns each, and none owns two more than another
pub record AreShared (members : List ℕ) : Type 0 where
  pub member : (queue : ℕ) → queue < QUEUES → has members (owner_of members queue) ≡ true
  pub once : (queue : ℕ) → queue < QUEUES → count_by (λ node. owner_of members queue == node) members ≡ 1
  pub even : (a b : ℕ) → has members a ≡ true → has members b ≡ true → queues_of members a ≤ queues_of members b + 1
