-- What changes at a node between two moments: what is told of its group, and its work in hand.
use Rattle.std.specs.Prelude.{ℕ, ◌≡◌, ◌⊎◌, nat_eq, nat_lt, ◌==◌, ◌&&◌, ◌||◌, not, List, [], ◌++◌, map, length, Bool, if◌then◌else◌, Option}
use Rattle.std.specs.Prelude.{Some, None}
use Rattle.std.specs.Cmp.Lexicographic.{pointwise}
use Rattle.std.specs.List.{filter, list_any}
use Rattle.group_task.specs.Group.{same_group}
use Rattle.wire_msg.specs.declared.body.Body.{Body}
use Rattle.wire_msg.specs.declared.body.Body.TheVariants as says
use Rattle.node_core.specs.declared.event.Event.{Event}
use Rattle.node_core.specs.declared.event.Event.TheVariants as on
use Rattle.node_core.specs.declared.timer.Timer.{Timer}
use Rattle.node_core.specs.declared.timer.Timer.TheVariants as timer
use Rattle.node_core.specs.declared.in_hand.InHand.{InHand}
use Rattle.node_core.specs.State.{State, in_phase, is_down}
use Rattle.node_core.specs.Words.{holds, members_of}
use Rattle.histories.specs.NodeState.{NodeState}
use Rattle.histories.specs.declared.history_event.HistoryEvent.{HistoryEvent}
use Rattle.histories.specs.HistoryEvent.{IsOf}
use Rattle.histories.specs.Possible.{IsPossible}
use Rattle.histories.specs.After.{after}
use Rattle.durable_node.specs.declared.changes.Changes.{Changes}
use Rattle.durable_node.specs.declared.group_view.GroupView.{GroupView}
use Rattle.durable_node.specs.declared.hand_move.HandMove.{HandMove}
use Rattle.durable_node.specs.declared.hand_move.HandMove.TheVariants.{Stays, Grows, Falls, Turns}

-- ---- the group

abbrev pub view_of : State → GroupView
view_of s = record { phase = s.phase; coordinator = s.coordinator; group = s.group; members = members_of s.task }

-- of a node that is down its phase alone is told
abbrev pub same_view : GroupView → GroupView → Bool
same_view old new = in_phase old.phase new.phase && (is_down new.phase
    || (old.coordinator == new.coordinator && same_group old.group new.group && pointwise nat_eq old.members new.members))

-- what is told, where another thing was told before
abbrev pub told_anew : GroupView → GroupView → Option GroupView
told_anew old new = if same_view old new then None else Some new

-- ---- the hand

-- a job in hand, as the node that keeps it and its id there
abbrev pub held_by : InHand → ℕ × ℕ
held_by job = (job.origin, job.id)

abbrev pub pair_in : List (ℕ × ℕ) → ℕ → ℕ → Bool
pair_in pairs origin id = list_any (λ pair. pair.0 == origin && pair.1 == id) pairs

-- the jobs in hand that weren't held before
abbrev pub taken_since : List (ℕ × ℕ) → List InHand → List InHand
taken_since held hand = filter (λ job. not (pair_in held job.origin job.id)) hand

-- the jobs held before that aren't in hand any more
abbrev pub dropped_since : List (ℕ × ℕ) → List InHand → List (ℕ × ℕ)
dropped_since held hand = filter (λ pair. not (holds hand pair.0 pair.1)) held

-- others came behind the jobs in hand
pub record IsFollowed (old new : List InHand) : Type 0 where
  pub gains : List InHand
  pub behind : new ≡ old ++ gains

-- the hand moved so: where it grew, none of the others was held
abbrev pub IsMove : HandMove → List InHand → List InHand → Type 0
IsMove Stays old new = new ≡ old
IsMove Grows old new = (followed : IsFollowed old new) × (taken_since (map held_by old) followed.gains ≡ followed.gains)
IsMove Falls old new = IsFollowed old new ⊎ (new ≡ [])
IsMove Turns old new = Unit {0}

-- whatever may come of the event moves the hand so
pub record Foresees (event : Event) (move : HandMove) : Type 0 where
  pub moved : (self nodes : ℕ) (s : NodeState) (what : HistoryEvent) → IsOf event what → IsPossible self nodes s what
      → IsMove move s.state.hand (after self nodes s what).state.hand

-- ---- how each event may move the hand

abbrev pub timer_moves : Timer → HandMove
timer_moves timer.Check = Stays
timer_moves timer.Accept = Stays
timer_moves timer.Dispatch = Grows
timer_moves timer = Falls

abbrev pub body_moves : Body → HandMove
body_moves (says.Work group id work) = Grows
body_moves (says.Here group agreed) = Falls
body_moves (says.Invitation group) = Falls
body_moves (says.Done id) = Falls
body_moves body = Stays

abbrev pub move_of : Event → HandMove
move_of (on.Timer timer) = timer_moves timer
move_of (on.Deliver m) = body_moves m.body
move_of (on.Finish origin id) = Turns
move_of event = Falls

-- ---- both

-- these changed at a node from one state to another
pub record AreChanges (old new : State) (changes : Changes) : Type 0 where
  pub group : changes.group ≡ told_anew (view_of old) (view_of new)
  pub taken : changes.taken.items ≡ taken_since (map held_by old.hand) new.hand
  pub dropped : changes.dropped.items ≡ dropped_since (map held_by old.hand) new.hand

-- what was seen of a node whose hand would move so: the place from which on jobs may have come, and which jobs may be dropped or come twice
pub record Sight : Type 0 where
  pub group : GroupView
  pub move : HandMove
  pub first : ℕ
  pub held : List (ℕ × ℕ)

abbrev pub first_for : HandMove → List InHand → ℕ
first_for Turns hand = 0
first_for move hand = length hand

abbrev pub held_for : HandMove → List InHand → List (ℕ × ℕ)
held_for Stays hand = []
held_for Grows hand = []
held_for move hand = map held_by hand

abbrev pub seen_of : HandMove → State → Sight
seen_of move s = record { group = view_of s; move = move; first = first_for move s.hand; held = held_for move s.hand }

-- the jobs that left a hand that was seen so: a hand that fell is shorter
abbrev pub dropped_as : HandMove → Sight → List InHand → List (ℕ × ℕ)
dropped_as Falls seen hand = if nat_lt (length hand) seen.first then dropped_since seen.held hand else []
dropped_as move seen hand = dropped_since seen.held hand

-- it was seen so before an event
pub record IsSeenBefore (event : Event) (s : State) (seen : Sight) : Type 0 where
  pub is : seen ≡ seen_of seen.move s
  pub foresees : Foresees event seen.move

-- these changed since it was seen, where its hand moved as was foreseen
pub record AreChangesSince (seen : Sight) (new : State) (changes : Changes) : Type 0 where
  pub are : (old : State) → seen ≡ seen_of seen.move old → IsMove seen.move old.hand new.hand → AreChanges old new changes
