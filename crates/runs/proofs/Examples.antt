-- Three nodes, of which two come together and the third comes too late: the table computes what the program prints.
use Rattle.std.proofs.Common.{◌≡◌, ℕ, true, false, List, [], ◌∷◌, ◌++◌, refl, Some, None}
use Rattle.std.specs.Prelude.{map}
use Rattle.group_task.specs.Group.{Group}
use Rattle.wire_msg.specs.Envelope.{Envelope}
use Rattle.wire_msg.specs.declared.body.Body.TheVariants.{AreYouCoordinator, Coordinator, AreYouThere, Here, Invitation, Accept, Ready}
use Rattle.wire_msg.specs.declared.body.Body.TheVariants.{ReadyAck}
use Rattle.node_core.specs.declared.phase.Phase.TheVariants.{Election, Normal}
use Rattle.node_core.specs.declared.event.Event.TheVariants.{Timer, Deliver}
use Rattle.node_core.specs.declared.timer.Timer.TheVariants as timer
use Rattle.node_core.specs.State.{State}
use Rattle.node_core.specs.Start.{alone}
use Rattle.node_core.specs.Words.{letter, own_group, task_of}
use Rattle.node_core.specs.Timers.{timed}
use Rattle.node_core.specs.Messages.{delivered}
use Rattle.histories.specs.NodeState.{NodeState}
use Rattle.histories.specs.declared.history_event.HistoryEvent.TheVariants.{Did}
use Rattle.runs.specs.World.{World, start}
use Rattle.runs.specs.Step.{Step, Takes}
use Rattle.runs.specs.Run.{world_at}

abbrev comes : ℕ → Envelope → Step
comes k m = Takes m.receiver k (Did (Deliver m))

abbrev group : Group
group = own_group 0 2

-- check 0, the two questions and the two answers, merge 0
abbrev merge_of_three : List Step
merge_of_three = Takes 0 0 (Did (Timer timer.Check)) ∷ comes 0 (letter 0 1 AreYouCoordinator) ∷ comes 1 (letter 0 2 AreYouCoordinator)
    ∷ comes 2 (letter 1 0 (Coordinator true)) ∷ comes 3 (letter 2 0 (Coordinator true)) ∷ Takes 0 0 (Did (Timer timer.Merge)) ∷ []

-- the invitation to node 1, its acceptance, accept 0, the task and its acknowledgement
abbrev two_join : List Step
two_join = comes 4 (letter 0 1 (Invitation group)) ∷ comes 6 (letter 1 0 (Accept group)) ∷ Takes 0 0 (Did (Timer timer.Accept))
    ∷ comes 7 (letter 0 1 (Ready (task_of group (0 ∷ 1 ∷ [])))) ∷ comes 8 (letter 1 0 (ReadyAck group)) ∷ []

-- the invitation to node 2, its acceptance, coord 2, the question and the answer
abbrev late_accept : List Step
late_accept = comes 5 (letter 0 2 (Invitation group)) ∷ comes 9 (letter 2 0 (Accept group)) ∷ Takes 2 0 (Did (Timer timer.Coord))
    ∷ comes 10 (letter 2 0 (AreYouThere group)) ∷ comes 11 (letter 0 2 (Here group false)) ∷ []

abbrev calling : State
calling = record {
  phase = Election;
  coordinator = 0;
  group = group;
  up = [];
  task = None;
  found = [];
  unready = [];
  checking = false;
  probing = false;
  hand = [];
}

abbrev working : List ℕ → State
working up = record {
  phase = Normal;
  coordinator = 0;
  group = group;
  up = up;
  task = Some (task_of group (0 ∷ 1 ∷ []));
  found = [];
  unready = [];
  checking = false;
  probing = false;
  hand = [];
}

abbrev states_of : World → List State
states_of w = map (λ (s : NodeState). s.state) w.states

abbrev counts_of : World → List ℕ
counts_of w = map (λ (s : NodeState). s.durable.counter) w.states

abbrev first_six : List Envelope
first_six = letter 0 1 AreYouCoordinator ∷ letter 0 2 AreYouCoordinator ∷ letter 1 0 (Coordinator true) ∷ letter 2 0 (Coordinator true)
    ∷ letter 0 1 (Invitation group) ∷ letter 0 2 (Invitation group) ∷ []

abbrev next_three : List Envelope
next_three = letter 1 0 (Accept group) ∷ letter 0 1 (Ready (task_of group (0 ∷ 1 ∷ []))) ∷ letter 1 0 (ReadyAck group) ∷ []

abbrev last_three : List Envelope
last_three = letter 2 0 (Accept group) ∷ letter 2 0 (AreYouThere group) ∷ letter 0 2 (Here group false) ∷ []

pub merge_of_three_sent : (world_at 3 (start 3) merge_of_three).net.sent ≡ first_six
unfolding timed delivered
merge_of_three_sent = refl

pub merge_of_three_states : states_of (world_at 3 (start 3) merge_of_three) ≡ calling ∷ alone 1 1 ∷ alone 2 1 ∷ []
unfolding timed delivered
merge_of_three_states = refl

pub two_join_sent : (world_at 3 (start 3) (merge_of_three ++ two_join)).net.sent ≡ first_six ++ next_three
unfolding timed delivered
two_join_sent = refl

pub two_join_states : states_of (world_at 3 (start 3) (merge_of_three ++ two_join)) ≡ working (1 ∷ []) ∷ working [] ∷ alone 2 1 ∷ []
unfolding timed delivered
two_join_states = refl

pub two_join_counts : counts_of (world_at 3 (start 3) (merge_of_three ++ two_join)) ≡ 2 ∷ 1 ∷ 1 ∷ []
unfolding timed delivered
two_join_counts = refl

pub late_accept_sent : (world_at 3 (start 3) (merge_of_three ++ two_join ++ late_accept)).net.sent ≡ first_six ++ next_three ++ last_three
unfolding timed delivered
late_accept_sent = refl

pub late_accept_states : states_of (world_at 3 (start 3) (merge_of_three ++ two_join ++ late_accept))
    ≡ working (1 ∷ []) ∷ working [] ∷ alone 2 2 ∷ []
unfolding timed delivered
late_accept_states = refl

pub late_accept_counts : counts_of (world_at 3 (start 3) (merge_of_three ++ two_join ++ late_accept)) ≡ 2 ∷ 1 ∷ 2 ∷ []
unfolding timed delivered
late_accept_counts = refl
