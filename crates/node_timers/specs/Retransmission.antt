-- The messages that a node sent and still waits for.
use Rattle.std.specs.Prelude.{ℕ, ◌++◌, ◌+◌, ◌-◌, ◌*◌, ◌^◌, min, nat_le, List, [], take, drop, map, Bool, true, false, not, ◌&&◌, ◌||◌, ◌==◌}
use Rattle.std.specs.Prelude.{if◌then◌else◌, Option, Some, None}
use Rattle.std.specs.List.{filter, list_any}
use Rattle.group_task.specs.Group.{Group, same_group}
use Rattle.group_task.specs.Ids.{has}
use Rattle.wire_msg.specs.Envelope.{Envelope}
use Rattle.wire_msg.specs.declared.body.Body.{Body}
use Rattle.wire_msg.specs.declared.body.Body.TheVariants as says
use Rattle.node_core.specs.declared.event.Event.{Event}
use Rattle.node_core.specs.declared.event.Event.TheVariants as on
use Rattle.node_core.specs.declared.phase.Phase.TheVariants.{Election, Reorganization}
use Rattle.node_core.specs.State.{State, in_phase}
use Rattle.node_timers.specs.declared.snapshot.NodeSnapshot.{NodeSnapshot}
use Rattle.node_timers.specs.declared.repeat.Repeat.{Repeat}
use Rattle.node_timers.specs.declared.repeat.TheConstants.{LONGEST_REST}
use Rattle.node_timers.specs.declared.retransmission.TheConstants.{MOST_AT_ONCE}

abbrev pub answerer_by : ℕ → Body → Option ℕ
answerer_by sender (says.Coordinator agreed) = Some sender
answerer_by sender body = None

-- the node that says, in this event, whether it coordinates a group
abbrev pub answerer : Option Event → Option ℕ
answerer (Some (on.Deliver m)) = answerer_by m.sender m.body
answerer event = None

abbrev pub is_of : ℕ → Option ℕ → Bool
is_of node None = false
is_of node (Some other) = node == other

-- a node that invites waits for those that haven't accepted; one that left its own group for another's still tells its old members
abbrev pub invites : State → ℕ → ℕ → Group → Bool
invites s sender receiver group = (in_phase Election s.phase && not (has s.up receiver))
    || (in_phase Reorganization s.phase && not (group.creator == sender))

-- whether a node in this state, where this one answered a check just now, still waits for what comes of a message that it sent: the
-- answer to its question, who accepts its invitation, its task, or who has the task
abbrev pub is_waited_for : Option ℕ → State → ℕ → ℕ → Body → Bool
is_waited_for answered s sender receiver says.AreYouCoordinator = s.checking && not (is_of receiver answered)
is_waited_for answered s sender receiver (says.AreYouThere group) = s.probing && same_group group s.group
is_waited_for answered s sender receiver (says.Invitation group) = same_group group s.group && invites s sender receiver group
is_waited_for answered s sender receiver (says.Accept group) = in_phase Reorganization s.phase && same_group group s.group
is_waited_for answered s sender receiver (says.Ready task) =
    in_phase Reorganization s.phase && (same_group task.group s.group && has s.unready receiver)
is_waited_for answered s sender receiver body = false

abbrev pub is_waited : Option ℕ → State → Envelope → Bool
is_waited answered s m = is_waited_for answered s m.sender m.receiver m.body

abbrev pub is_check : Body → Bool
is_check says.AreYouCoordinator = true
is_check body = false

-- a message that is waited for is sent again at the times of each unit
-- at which it has rested for long enough
abbrev pub is_due : Repeat → Bool
is_due r = r.left == 0

abbrev pub is_resting : Repeat → Bool
is_resting r = not (is_due r)

abbrev pub message_of : Repeat → Envelope
message_of r = r.message

-- all nodes ask all others in a check: its questions rest twice as long each time, up to a bound
abbrev pub pause_behind : Body → ℕ → ℕ
pause_behind body pause = if is_check body then min (2 * pause) LONGEST_REST else pause

-- what was sent just now is passed over at the next time, which may come at once
abbrev pub first : Envelope → Repeat
first m = record { message = m; left = 1; pause = pause_behind m.body 1 }

-- behind a time at which it wasn't sent, and behind one at which it was
abbrev pub nearer : Repeat → Repeat
nearer r = record r { left = r.left - 1 }

abbrev pub rested : Repeat → Repeat
rested r = record r { left = r.pause - 1; pause = pause_behind r.message.body r.pause }

-- those whose time has come
abbrev pub overdue : List Repeat → List Repeat
overdue rs = filter is_due rs

-- the messages that are waited for
pub record Waits : Type 0 where
  -- from one time to the next, in milliseconds
  pub unit : ℕ
  pub next : ℕ
  pub repeats : List Repeat

abbrev pub none_waited : ℕ → Waits
none_waited unit = record { unit = unit; next = 0; repeats = [] }

abbrev pub is_waited_still : Option ℕ → State → Repeat → Bool
is_waited_still answered s r = is_waited answered s r.message

-- in this state, where these were sent since and this node answered a check
abbrev pub waits_since : Option ℕ → List Envelope → State → Waits → Waits
waits_since answered sent s w = record w {
  repeats = filter (is_waited_still answered s) w.repeats
      ++ map first (filter (is_waited answered s) sent);
}

-- behind an event that led to this state, in which these were sent
abbrev pub waits_behind : Option Event → List Envelope → State → Waits → Waits
waits_behind event sent s w = waits_since (answerer event) sent s w

-- what others answer: a question of a check, or an invitation
abbrev pub is_answerable : Body → Bool
is_answerable says.AreYouCoordinator = true
is_answerable (says.Invitation group) = true
is_answerable body = false

abbrev pub asks : List Repeat → Bool
asks repeats = list_any (λ r. is_answerable r.message.body) repeats

-- all whom a node asked in a check have answered, or all that it invited have accepted
abbrev pub is_answered : NodeSnapshot → Waits → Bool
is_answered s w = (s.checking || in_phase Election s.phase) && not (asks w.repeats)

-- the next time has come; it is a unit away at most, or the clock fell back
abbrev pub has_come : ℕ → Waits → Bool
has_come now w = nat_le w.next now || not (nat_le w.next (now + w.unit))

-- what is sent again at this time: the first of those whose time has come
abbrev pub sent_again : ℕ → Waits → List Envelope
sent_again now w = if has_come now w then map message_of (take MOST_AT_ONCE (overdue w.repeats)) else []

-- behind it the others of these stand first, and what was sent stands last; the next time is a unit later
abbrev pub waits_on : ℕ → Waits → Waits
waits_on now w =
    if has_come now w then record {
      unit = w.unit;
      next = min (now + w.unit) (2 ^ 64 - 1);
      repeats = map nearer (drop MOST_AT_ONCE (overdue w.repeats)) ++ map nearer (filter is_resting w.repeats)
          ++ map rested (take MOST_AT_ONCE (overdue w.repeats));
    } else w
