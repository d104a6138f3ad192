-- What a policy keeps, and what it fires.
use Rattle.std.specs.Prelude.{ℕ, ◌≡◌, ◌≢◌, ◌⊎◌, ◌+◌, ◌-◌, ◌*◌, ◌/◌, ◌≤◌, ◌<◌, ◌^◌, max, min, Bool, true, false, not, ◌&&◌, ◌||◌, ◌==◌}
use Rattle.std.specs.Prelude.{nat_le, nat_lt, if◌then◌else◌, List, slice_index, slice_set, replicate, Option, Some, None, is_some}
use Rattle.std.specs.List.{list_any}
use Rattle.std.specs.Option.{unwrap_or}
use Rattle.group_task.specs.Group.{Group}
use Rattle.group_task.specs.declared.node.TheConstants.{NODES}
use Rattle.node_core.specs.declared.event.Event.{Event}
use Rattle.node_core.specs.declared.event.Event.TheVariants as on
use Rattle.node_core.specs.declared.phase.Phase.TheVariants.{Normal}
use Rattle.node_core.specs.declared.timer.Timer.TheVariants as timer
use Rattle.node_timers.specs.declared.timer_settings.TimerSettings.{TimerSettings}
use Rattle.node_timers.specs.declared.wait.Wait.{Wait}
use Rattle.node_timers.specs.declared.wait.Wait.TheVariants.{Merge}
use Rattle.node_timers.specs.declared.deadline.Deadline.{Deadline}
use Rattle.node_timers.specs.declared.snapshot.NodeSnapshot.{NodeSnapshot}
use Rattle.rand_pcg.specs.Lcg.{Lcg}
use Rattle.node_timers.specs.Jitter.{behind_word, drawn, seeded}
use Rattle.node_timers.specs.declared.questions.Questions.{Questions}
use Rattle.node_timers.specs.Questions.{asked_in, asks_at, forgotten, none_asked}
use Rattle.node_timers.specs.Timers.{IsSet, answered, at_once, comes_soon, is_accept, is_behind_question, is_check_wait, is_late, paced}
use Rattle.node_timers.specs.Timers.{wait_of, timer_of, first_pause, graced, is_led_by, jitter_of, lasts, lateness, later, longer_pause}
use Rattle.node_timers.specs.Timers.{prompted_left, put_off, soon_left}

-- the policy of a node: the time that was told last, how much of what comes isn't waited for, the deadline that is set, whether its group
-- is settled
-- (a check was made or heard of in it), how many checks were fired and how many of them before each node was last heard, the oldest job
-- that was seen, how long work rests and for how long it has to before it is
-- dispatched (at once where that is 0), and how long the node's last raise took
pub record Policy : Type 0 where
  pub id : ℕ
  pub setting : TimerSettings
  -- the generator of jitter
  pub random : Lcg
  pub told : Option ℕ
  pub skip : ℕ
  pub deadline : Option Deadline
  pub settled : Bool
  pub checks : ℕ
  pub heard : List ℕ
  pub oldest : Option ℕ
  pub rested : ℕ
  pub pause : ℕ
  pub raise : ℕ
  -- how many checks are to come soon
  pub soon : ℕ
  -- when the node asked others last, and how long the slowest answer took, or this node itself was held up
  pub asked : Questions
  pub slowest : ℕ
  -- how long a round trip was measured to take
  pub round_trip : ℕ
  -- whether another coordinator's check prompted the node to its next one
  pub prompted : Bool

abbrev pub fresh : TimerSettings → ℕ → ℕ → Policy
fresh setting id seed = record {
  id = id;
  setting = setting;
  random = seeded seed id;
  told = None;
  skip = 0;
  deadline = None;
  settled = false;
  checks = 0;
  heard = replicate NODES 0;
  oldest = None;
  rested = 0;
  pause = 0;
  raise = 0;
  soon = 0;
  asked = none_asked;
  slowest = 0;
  round_trip = setting.unit;
  prompted = false;
}

-- how long ago a time was told, where it is so late now: a clock that fell back begins anew
abbrev pub since : ℕ → Option ℕ → ℕ
since now None = 0
since now (Some told) = now - told

abbrev pub later_deadline : ℕ → Option Deadline → Option Deadline
later_deadline waited None = None
later_deadline waited (Some d) = Some (later waited d)

-- waits and work that rests are so many milliseconds older
abbrev pub aged : ℕ → Policy → Policy
aged waited p = record p { deadline = later_deadline waited p.deadline; rested = min (p.rested + waited) (2 ^ 64 - 1) }

-- this time is told: what the node spent itself isn't waited for
abbrev pub passed : ℕ → Policy → Policy
passed now p = record (aged (since now p.told - p.skip) p) { told = Some now; skip = p.skip - since now p.told }

-- the node spent so many milliseconds in a command
abbrev pub spent : ℕ → Policy → Policy
spent ms p = record p { skip = min (p.skip + ms) (2 ^ 64 - 1) }

abbrev pub heard_from : ℕ → Policy → Policy
heard_from id p = record p { heard = slice_set p.heard id p.checks }

-- a member asks at once behind a check of its coordinator, by which its group is settled; the coordinator of a settled group looks for
-- others at once behind a check of another one; elsewhere a greater node
-- that looks for other coordinators is to merge first
abbrev pub asked_with : ℕ → Policy → Deadline → Policy
asked_with from p d =
    if is_led_by from d then record p { deadline = Some (at_once d); settled = true }
    else (if is_check_wait d.wait && p.settled then record p { deadline = Some (at_once d); prompted = true }
    else record p { deadline = Some (if nat_lt p.id from then put_off d else d) })

abbrev pub asked_where : ℕ → Policy → Option Deadline → Policy
asked_where from p None = p
asked_where from p (Some d) = asked_with from p d

-- this node looks for other coordinators
abbrev pub asked_by : ℕ → Policy → Policy
asked_by from p = asked_where from p p.deadline

-- two nodes that invite each other would wait in vain: the lesser one's election is over at once
abbrev pub invited_with : ℕ → Policy → Deadline → Policy
invited_with from p d = if is_accept d.wait && nat_lt p.id from then record p { deadline = Some (at_once d) } else p

abbrev pub invited_where : ℕ → Policy → Option Deadline → Policy
invited_where from p None = p
invited_where from p (Some d) = invited_with from p d

-- this node invites the policy's one
abbrev pub invited_by : ℕ → Policy → Policy
invited_by from p = invited_where from p p.deadline

abbrev pub answered_deadline : TimerSettings → Bool → Option Deadline → Option Deadline
answered_deadline s found None = None
answered_deadline s found (Some d) = Some (answered s found d)

-- all whom the node asked have answered, or all that it invited have accepted
abbrev pub all_answered : NodeSnapshot → Policy → Policy
all_answered s p = record p { deadline = answered_deadline p.setting (is_some s.merge_wait) p.deadline }

-- an answer took so long, or the node itself was held up for so long, and others may be, too
abbrev pub slowest_late : ℕ → Policy → ℕ
slowest_late late p = max p.slowest (min late p.setting.slowest_most)

-- this node was held up, so late for what was over: since when is not known, and twice as long is reckoned with
abbrev pub slowest_held : ℕ → Policy → ℕ
slowest_held late p = slowest_late (2 * late) p

-- how long a round trip is taken to be once an answer took so long: as long as the longest of the last ones, each of which counts an eighth
-- less with the next; no longer than is set, and a quarter of that at least
abbrev pub trip_with : ℕ → Policy → ℕ
trip_with took p = max (min (max took (p.round_trip - (p.round_trip / 8 + 1))) p.setting.unit) (p.setting.unit / 4)

-- an answer came to what the node asked
abbrev pub answer_took : ℕ → Policy → Policy
answer_took took p = record p { slowest = slowest_late took p; round_trip = trip_with took p }

abbrev pub answer_since : Option ℕ → Policy → Policy
answer_since None p = p
answer_since (Some asked) p = answer_took (unwrap_or p.told 0 - asked) p

abbrev pub answer_came : Policy → Policy
answer_came p = answer_since p.asked.last p

-- a node says whether this one is a member of that group, which may be one that it left: it takes as long as since it was asked in that
abbrev pub here_came : Group → Policy → Policy
here_came group p = answer_since (asked_in group p.asked) p

-- when the node asked last, and how slow answers are reckoned to be, once the deadline of this wait is set: what was slow counts less with
-- each question
abbrev pub asked_at : Wait → Group → Policy → Questions
asked_at wait group p = asks_at wait group p.told p.asked

abbrev pub slowest_at : Wait → Policy → ℕ
slowest_at wait p = if is_behind_question wait then p.slowest - (p.slowest / 128 + 1) else p.slowest

-- the node is in another group than before
abbrev pub in_new_group : Policy → Policy
in_new_group p = record p { settled = false; rested = 0; pause = 0 }

-- a coordinator recovers without a member: its next two checks come soon, and what it finds is merged with soon
abbrev pub gives_up : Policy → Policy
gives_up p = record p { soon = 2; prompted = true }

-- what the node asks from now on wasn't asked at a time that was told
abbrev pub without_asked : Policy → Policy
without_asked p = record p { asked = forgotten p.asked }

-- by what the lengths of this wait are reckoned
abbrev pub paced_at : Wait → Policy → TimerSettings
paced_at wait p = paced p.setting p.round_trip p.settled wait

-- the jitter of this wait: what the generator gives next
abbrev pub jitter_at : Wait → Policy → ℕ
jitter_at wait p = drawn (jitter_of (paced_at wait p) p.settled wait) p.random

-- the generator once the deadline of this wait is set: what comes soon has no jitter, and nothing is drawn for it
abbrev pub random_at : Wait → Policy → Lcg
random_at wait p = if is_some (comes_soon p.soon p.prompted wait) then p.random else behind_word p.random

-- the deadline of this wait is set
abbrev pub Sets : Policy → Wait → Group → Deadline → Type 0
Sets p wait group d = IsSet (comes_soon p.soon p.prompted wait)
    (paced_at wait p) p.settled p.raise p.slowest (jitter_at wait p) wait group d

-- its times are numbers of 64 bits
abbrev pub IsWithinDeadline : Option Deadline → Type 0
IsWithinDeadline None = Unit {0}
IsWithinDeadline (Some d) = d.waited < 2 ^ 64

pub record IsWithin (p : Policy) : Type 0 where
  pub rested : p.rested < 2 ^ 64
  pub deadline : IsWithinDeadline p.deadline

-- another node that answered none of the last checks
abbrev pub is_silent : Policy → ℕ → Bool
is_silent p id = not (id == p.id) && nat_le p.setting.silent_checks (p.checks - slice_index p.heard id)

abbrev pub has_silent : Policy → List ℕ → Bool
has_silent p members = list_any (is_silent p) members

-- what is fired when a wait is over: its timer, but a coordinator that found no other gives its group up at the end of a check, where a
-- member is silent
abbrev pub event_at : Policy → NodeSnapshot → Wait → Event
event_at p s Merge = if not (is_some s.merge_wait) && has_silent p s.members then on.Recover else on.Timer (timer_of Merge)
event_at p s wait = on.Timer (timer_of wait)

-- this deadline is set, and is the one of what is waited for where this is seen
pub record Runs (p : Policy) (s : NodeSnapshot) (d : Deadline) : Type 0 where
  pub is_set : p.deadline ≡ Some d
  pub wait : wait_of s ≡ Some d.wait
  pub group : d.group ≡ s.group

-- what is waited for is over
pub record IsOver (p : Policy) (s : NodeSnapshot) (d : Deadline) : Type 0 where
  pub runs : Runs p s d
  pub come : lasts p.setting p.raise s.merge_wait d ≤ d.waited

-- and its deadline has come, unless the process was itself stopped
pub record HasCome (p : Policy) (s : NodeSnapshot) (d : Deadline) : Type 0 where
  pub over : IsOver p s d
  pub in_time : is_late p.setting p.raise s.merge_wait d ≡ false

pub record IsStalled (p : Policy) (s : NodeSnapshot) (d : Deadline) : Type 0 where
  pub over : IsOver p s d
  pub late : is_late p.setting p.raise s.merge_wait d ≡ true

-- whether nothing came or went since work was last looked at: the oldest job is the one that was seen
abbrev pub rests : Option ℕ → Option ℕ → Bool
rests None seen = false
rests (Some oldest) None = false
rests (Some oldest) (Some seen) = oldest == seen

-- what a look at the work of a Normal node leaves where none of it is dispatched: where it doesn't rest, it has to from now on; a node that
-- keeps no job
-- has none to dispatch in a new group
abbrev pub looked_at : NodeSnapshot → Policy → Policy
looked_at s p = if rests s.oldest p.oldest then p else record p { oldest = s.oldest; rested = 0; pause = first_pause p.setting s.pending }

-- the node keeps jobs that rest, or it is in a new group
abbrev pub may_dispatch : Policy → NodeSnapshot → Bool
may_dispatch p s = is_some s.oldest && (p.pause == 0 || rests s.oldest p.oldest)

-- how long it is until they rested for long enough
abbrev pub work_left : Policy → NodeSnapshot → ℕ
work_left p s = if may_dispatch p s then p.pause - p.rested else 2 ^ 64 - 1

-- the node is Normal, and its jobs rested for long enough
abbrev pub IsWorkDue : Policy → NodeSnapshot → Type 0
IsWorkDue p s = (s.phase ≡ Normal) × (work_left p s ≡ 0)

-- what may be fired: what a wait that is over asks for, or the dispatch of work that is due
abbrev pub MayFire : Policy → NodeSnapshot → Event → Type 0
MayFire p s event = ((d : Deadline) × HasCome p s d × (event ≡ event_at p s d.wait)) ⊎ ((event ≡ on.Timer timer.Dispatch) × IsWorkDue p s)

-- a wait is over, or work is due, if that is asked for now
abbrev pub IsDue : Policy → NodeSnapshot → Type 0
IsDue p s = ((d : Deadline) × IsOver p s d) ⊎ IsWorkDue p s

-- what a tick does to the deadline of what is waited for
pub record MovesDeadline (s : NodeSnapshot) (old new : Policy) : Type 0 where
  -- where the process was itself stopped, a round trip of it is left
  pub stalled : (d : Deadline) → IsStalled old s d → new.deadline ≡ Some (graced old.setting old.raise s.merge_wait d)
  -- one that has come is removed, and one that isn't over stays
  pub spent : (d : Deadline) → HasCome old s d → new.deadline ≡ None
  pub runs_on : (d : Deadline) → Runs old s d → d.waited < lasts old.setting old.raise s.merge_wait d
      → (new.deadline ≡ Some d) × (new.slowest ≡ old.slowest)
  -- how long it has been over the node itself was held up
  pub held_up : (d : Deadline) → IsOver old s d → new.slowest ≡ slowest_held (lateness old.setting old.raise s.merge_wait d) old
  pub asked : (d : Deadline) → Runs old s d → new.asked ≡ old.asked
  -- nothing is drawn
  pub random : (d : Deadline) → Runs old s d → new.random ≡ old.random

-- a deadline is set, where none ran
abbrev pub SetsDeadline : NodeSnapshot → Policy → Policy → Type 0
SetsDeadline s old new = ((d : Deadline) → Runs old s d → ⊥) → (wait : Wait) → wait_of s ≡ Some wait
    → (d : Deadline) × (new.deadline ≡ Some d) × Sets old wait s.group d
    × (new.asked ≡ asked_at wait s.group old) × (new.slowest ≡ slowest_at wait old) × (new.soon ≡ soon_left old.soon wait)
    × (new.prompted ≡ prompted_left old.soon old.prompted wait) × (new.random ≡ random_at wait old)

-- behind a recovery two checks come soon, and the node is prompted; nothing else changes that while a deadline runs
pub record Prompts (fired : Option Event) (s : NodeSnapshot) (old new : Policy) : Type 0 where
  pub recovers : fired ≡ Some on.Recover → (new.soon ≡ 2) × (new.prompted ≡ true)
  pub stays : fired ≢ Some on.Recover → (d : Deadline) → Runs old s d → (new.soon ≡ old.soon) × (new.prompted ≡ old.prompted)

-- each check is counted, and settles the group; nothing else does
pub record Counts (fired : Option Event) (old new : Policy) : Type 0 where
  pub check : fired ≡ Some (on.Timer timer.Check) → new.checks ≡ min (old.checks + 1) (2 ^ 64 - 1)
  pub settles : fired ≡ Some (on.Timer timer.Check) → new.settled ≡ true
  pub other : fired ≢ Some (on.Timer timer.Check) → new.checks ≡ old.checks
  pub stays : fired ≢ Some (on.Timer timer.Check) → new.settled ≡ old.settled

-- the same of work
pub record SameWork (p q : Policy) : Type 0 where
  pub oldest : p.oldest ≡ q.oldest
  pub rested : p.rested ≡ q.rested
  pub pause : p.pause ≡ q.pause

-- behind a dispatch work rests anew, longer than before
abbrev pub dispatched : NodeSnapshot → Policy → Policy
dispatched s p = record p {
  oldest = s.oldest;
  rested = 0;
  pause = if p.pause == 0 then first_pause p.setting s.pending
      else longer_pause p.setting p.pause;
}

-- what a dispatch does to work, and a look of a Normal node at which nothing is due; nothing else changes it
pub record Dispatches (fired : Option Event) (s : NodeSnapshot) (old new : Policy) : Type 0 where
  pub dispatch : fired ≡ Some (on.Timer timer.Dispatch) → SameWork new (dispatched s old)
  pub look : fired ≡ None → s.phase ≡ Normal → SameWork new (looked_at s old)
  pub away : fired ≡ None → s.phase ≢ Normal → SameWork new old
  pub other : fired ≢ None → fired ≢ Some (on.Timer timer.Dispatch) → SameWork new old
