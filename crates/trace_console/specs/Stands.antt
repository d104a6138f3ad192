-- How the nodes of a run stand.
use Rattle.std.specs.Prelude.{ℕ, List, [], length, Option, Some, None}
use Rattle.group_task.specs.Assignment.{Assignment}
use Rattle.node_core.specs.State.{State}
use Rattle.node_core.specs.declared.phase.Phase.{Phase}
use Rattle.node_core.specs.declared.phase.Phase.TheVariants.{Down, Election, Reorganization, Normal}
use Rattle.trace_check.specs.Claims.{Claim}
use Rattle.trace_check.specs.Followed.{before}
use Rattle.trace_check.specs.Orders.{taken, state_of}
use Rattle.trace_console.specs.declared.turn.Stand.{Stand}

-- the members of a task; none where there is no task
abbrev pub members_of : Option Assignment → List ℕ
members_of None = []
members_of (Some task) = task.members

abbrev pub stand_by : Phase → State → Option Stand
stand_by Down s = None
stand_by Election s = Some (record {
  phase = Election;
  group = s.group;
  coordinator = s.coordinator;
  members = members_of s.task;
  in_hand =
      length s.hand;
})
stand_by Reorganization s = Some (record {
  phase = Reorganization;
  group = s.group;
  coordinator = s.coordinator;
  members =
      members_of s.task;
  in_hand = length s.hand;
})
stand_by Normal s = Some (record {
  phase = Normal;
  group = s.group;
  coordinator = s.coordinator;
  members = members_of s.task;
  in_hand =
      length s.hand;
})

-- how a node in this state stands; None where it is down
abbrev pub stand_of : State → Option Stand
stand_of s = stand_by s.phase s

-- how a node stands after so many turns of the order
abbrev pub stand_after : List (List Claim) → List ℕ → ℕ → ℕ → Option Stand
stand_after hs order n turns = stand_of (state_of hs n (taken n (before order turns))).state
