-- What a node waits for, for how long, and the timer that fires then.
use Rattle.std.specs.Prelude.{ℕ, ◌≡◌, ◌+◌, ◌-◌, ◌*◌, ◌/◌, ◌^◌, ◌≤◌, max, min, Bool, true, false, not, nat_lt, ◌&&◌, ◌==◌, if◌then◌else◌}
use Rattle.std.specs.Prelude.{Option, Some, None, is_some}
use Rattle.group_task.specs.Group.{Group}
use Rattle.node_core.specs.declared.phase.Phase.{Phase}
use Rattle.node_core.specs.declared.phase.Phase.TheVariants.{Down, Election, Reorganization, Normal}
use Rattle.node_core.specs.declared.timer.Timer.{Timer}
use Rattle.node_core.specs.declared.timer.Timer.TheVariants as timer
use Rattle.node_timers.specs.declared.timer_settings.TimerSettings.{TimerSettings}
use Rattle.node_timers.specs.declared.wait.Wait.{Wait}
use Rattle.node_timers.specs.declared.wait.Wait.TheVariants.{Check, Merge, Accept, Ready, Task, Coordinator, Answer}
use Rattle.node_timers.specs.declared.deadline.Deadline.{Deadline}
use Rattle.node_timers.specs.declared.snapshot.NodeSnapshot.{NodeSnapshot}

-- what is waited for in a phase, at a coordinator or not, that checks or not, that probes or not
abbrev pub wait_in : Phase → Bool → Bool → Bool → Option Wait
wait_in Down coordinator checking probing = None
wait_in Election coordinator checking probing = Some Accept
wait_in Reorganization coordinator checking probing = Some (if coordinator then Ready else (if probing then Answer else Task))
wait_in Normal coordinator checking probing = Some (if coordinator then (if checking then Merge else Check)
    else (if probing then Answer else Coordinator))

abbrev pub wait_of : NodeSnapshot → Option Wait
wait_of s = wait_in s.phase s.is_coordinator s.checking s.probing

-- the timer that fires when a wait is over
abbrev pub timer_of : Wait → Timer
timer_of Check = timer.Check
timer_of Merge = timer.Merge
timer_of Accept = timer.Accept
timer_of Ready = timer.Ready
timer_of wait = timer.Coord

-- in a settled group, in which a check was made or heard of, or before
abbrev pub units_of : TimerSettings → Bool → Wait → ℕ
units_of s settled Check = if settled then s.check else s.first_check
units_of s settled Merge = s.merge
units_of s settled Accept = s.accept
units_of s settled Ready = s.ready
units_of s settled Task = s.task
units_of s settled Coordinator = if settled then s.coordinator else s.first_coordinator
units_of s settled Answer = s.answer

abbrev pub jitter_units : TimerSettings → Bool → Wait → ℕ
jitter_units s settled Check = if settled then s.check_jitter else s.first_check_jitter
jitter_units s settled Merge = s.merge_jitter
jitter_units s settled Coordinator = if settled then s.coordinator_jitter else s.first_coordinator_jitter
jitter_units s settled wait = 0

-- a node waits for a millisecond at least
abbrev pub least_of : TimerSettings → Bool → Wait → ℕ
least_of s settled wait = max (units_of s settled wait * s.unit) 1

abbrev pub jitter_of : TimerSettings → Bool → Wait → ℕ
jitter_of s settled wait = jitter_units s settled wait * s.unit

-- the steps that a merge is put off by
abbrev pub steps : Wait → Option ℕ → ℕ
steps Merge (Some n) = n
steps wait found = 0

-- what comes soon waits for nobody's turn
abbrev pub turns_of : Deadline → Option ℕ → ℕ
turns_of d merge_wait = if d.soon then 0 else steps d.wait merge_wait

abbrev pub times : Bool → ℕ → ℕ
times twice n = if twice then 2 * n else n

-- how long a wait lasts, where the node's last raise took so long: a turn has room for the raise of who merges first
abbrev pub lasts : TimerSettings → ℕ → Option ℕ → Deadline → ℕ
lasts s raise merge_wait d = min (times d.put_off (d.length + turns_of d merge_wait * (s.turn * s.unit + raise))) (2 ^ 64 - 1)

-- so many milliseconds later
abbrev pub later : ℕ → Deadline → Deadline
later waited d = record d { waited = min (d.waited + waited) (2 ^ 64 - 1) }

abbrev pub is_merge : Wait → Bool
is_merge Merge = true
is_merge wait = false

abbrev pub is_check_wait : Wait → Bool
is_check_wait Check = true
is_check_wait wait = false

abbrev pub is_accept : Wait → Bool
is_accept Accept = true
is_accept wait = false

-- a merge waits twice as long, but for one that comes soon
abbrev pub put_off : Deadline → Deadline
put_off d = if is_merge d.wait && not d.soon then record d { put_off = true } else d

-- a wait is over at once
abbrev pub at_once : Deadline → Deadline
at_once d = record d { length = 0; had_grace = true }

-- the end of such a wait says something of others: that they sent nothing
abbrev pub is_of_others : Wait → Bool
is_of_others Check = false
is_of_others Coordinator = false
is_of_others wait = true

-- the process looks so late behind the end of such a wait that it was itself stopped, and what came meanwhile isn't read yet
abbrev pub is_late : TimerSettings → ℕ → Option ℕ → Deadline → Bool
is_late s raise merge_wait d = not d.had_grace && (is_of_others d.wait && nat_lt (lasts s raise merge_wait d + 2 * s.unit) d.waited)

-- for how many milliseconds it has been over; what came at once wasn't waited for
abbrev pub lateness : TimerSettings → ℕ → Option ℕ → Deadline → ℕ
lateness s raise merge_wait d = if d.had_grace then 0 else d.waited - lasts s raise merge_wait d

-- a round trip of it is left, once
abbrev pub graced : TimerSettings → ℕ → Option ℕ → Deadline → Deadline
graced s raise merge_wait d = record d { waited = lasts s raise merge_wait d - s.unit; had_grace = true }

-- once all that were invited have accepted, those whom they bring are waited for so much longer, and no longer than was meant
abbrev pub joined : TimerSettings → Deadline → Deadline
joined s d = if d.had_grace then d else record d { length = min d.length (d.waited + s.joining * s.unit); had_grace = true }

-- all have answered: a look for other coordinators is over, where it found none or waits for nobody's turn, and soon an election is
abbrev pub answered : TimerSettings → Bool → Deadline → Deadline
answered s found d = if is_merge d.wait then (if found && not d.soon then d else at_once d)
    else (if is_accept d.wait then joined s d else d)

-- what a node waits for once it asked: the coordinator, or all who may lead
abbrev pub is_behind_question : Wait → Bool
is_behind_question Merge = true
is_behind_question Answer = true
is_behind_question wait = false

abbrev pub is_question : Wait → Bool
is_question Coordinator = true
is_question wait = false

-- a member waits to ask this node, its coordinator: the one that made its group
abbrev pub is_led_by : ℕ → Deadline → Bool
is_led_by id d = is_question d.wait && d.group.creator == id

-- how long an answer is waited for at least, in milliseconds: three times as long as the slowest took
abbrev pub answer_least : TimerSettings → ℕ → ℕ
answer_least s slowest = max s.answer_least (3 * slowest)

-- who is asked may be in a raise, and answers behind it; others are waited for as long as the slowest answer took, and a coordinator's
-- answer longer
abbrev pub patience : TimerSettings → Wait → ℕ → ℕ → ℕ
patience s Merge raise slowest = raise + (slowest - s.merge * s.unit)
patience s Accept raise slowest = slowest - s.accept * s.unit
patience s Ready raise slowest = raise + (slowest - s.ready * s.unit)
patience s Answer raise slowest = raise + (answer_least s slowest - s.answer * s.unit)
patience s wait raise slowest = 0

-- how long a round trip is taken to be in a wait, in milliseconds: as long as was measured before the first check of a group, and behind
-- each check. Where a group is settled, checks and questions come
-- as often in a slow network as in one whose round trip takes so long at most
abbrev pub unit_at : TimerSettings → ℕ → Bool → Wait → ℕ
unit_at s round_trip settled Check = if settled then min s.unit s.rest_most else round_trip
unit_at s round_trip settled Merge = round_trip
unit_at s round_trip settled Coordinator = if settled then min s.unit s.rest_most else s.unit
unit_at s round_trip settled wait = s.unit

abbrev pub paced : TimerSettings → ℕ → Bool → Wait → TimerSettings
paced s round_trip settled wait = record s { unit = unit_at s round_trip settled wait }

-- a check that comes soon: the first of two at once, the second two round trips later
abbrev pub soon_by : ℕ → Option Bool
soon_by soon = if soon == 0 then None else Some (soon == 1)

-- what comes soon: such a check, and the merge behind a check that another coordinator's one, or a recovery without a silent member,
-- prompted the node to
abbrev pub comes_soon : ℕ → Bool → Wait → Option Bool
comes_soon soon prompted Check = soon_by soon
comes_soon soon prompted Merge = if prompted then Some true else None
comes_soon soon prompted wait = None

-- whether the next merge comes soon, once the deadline of this wait is set: as long as further checks do
abbrev pub prompted_left : ℕ → Bool → Wait → Bool
prompted_left soon prompted Merge = prompted && nat_lt 0 soon
prompted_left soon prompted wait = prompted

-- how many checks are to come soon once the deadline of this wait is set
abbrev pub soon_left : ℕ → Wait → ℕ
soon_left soon Check = soon - 1
soon_left soon wait = soon

abbrev pub soon_length : TimerSettings → Bool → ℕ
soon_length s second = if second then max (2 * s.unit) 1 else 1

abbrev pub least_at : Option Bool → TimerSettings → ℕ → ℕ
least_at None s least = least
least_at (Some second) s least = soon_length s second

-- the deadline of this wait in a group, with so much jitter, none of which is over
pub record IsSet (soon : Option Bool) (s : TimerSettings) (settled : Bool) (raise slowest jitter : ℕ) (wait : Wait) (group : Group)
    (d : Deadline) : Type 0 where
  pub its_wait : d.wait ≡ wait
  pub its_group : d.group ≡ group
  pub from_now : d.waited ≡ 0
  pub in_time : d.put_off ≡ false
  pub has_grace : d.had_grace ≡ false
  pub comes : d.soon ≡ is_some soon
  pub long : d.length ≡ least_at soon s (least_of s settled wait + jitter) + patience s wait raise slowest
  pub most : jitter ≤ jitter_of s settled wait

-- a raise is reckoned with up to so many round trips
abbrev pub raise_of : TimerSettings → ℕ → ℕ
raise_of s ms = min ms (s.raise_most * s.unit)

-- how long work rests at most before it is dispatched
abbrev pub most_pause : TimerSettings → ℕ
most_pause s = max (s.dispatch_most * s.unit) 1

-- at first so long: a twentieth of a round trip longer for each job
abbrev pub first_pause : TimerSettings → ℕ → ℕ
first_pause s pending = min (max (s.dispatch * s.unit + pending * s.unit / 20) 1) (most_pause s)

-- and after each dispatch a quarter longer than before it
abbrev pub longer_pause : TimerSettings → ℕ → ℕ
longer_pause s pause = min (max (pause + pause / 4) 1) (most_pause s)

-- what was measured, for a round trip of so many milliseconds
abbrev pub measured : ℕ → TimerSettings
measured unit = record {
  unit = unit;
  first_check = 5;
  first_check_jitter = 3;
  check = 37;
  check_jitter = 4;
  merge = 3;
  merge_jitter = 2;
  turn = 10;
  accept = 5;
  joining = 1;
  ready = 10;
  task = 20;
  first_coordinator = 20;
  first_coordinator_jitter = 10;
  coordinator = 20;
  coordinator_jitter = 3;
  answer = 5;
  answer_least = 250;
  rest_most = 25;
  slowest_most = 1000;
  dispatch = 5;
  dispatch_most = 300;
  raise_most = 100;
  silent_checks = 3;
}
