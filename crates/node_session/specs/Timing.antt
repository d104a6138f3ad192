-- The timers of a session: what each line tells the policy, and the events that a tick or a loss makes.
use Rattle.std.specs.Prelude.{ℕ, ◌≡◌, ◌≢◌, ◌↔◌, ◌⊎◌, ◌≤◌, List, [], ◌∷◌, length, Bool, true, false, not, ◌&&◌, ◌||◌, ◌==◌, if◌then◌else◌}
use Rattle.std.specs.Prelude.{Option, Some, None, is_some, IfSome, IsNone, Ok, Err, IsErr}
use Rattle.group_task.specs.Group.{Group}
use Rattle.group_task.specs.Ids.{has}
use Rattle.job_model.specs.declared.job.Job.{Job}
use Rattle.node_core.specs.declared.event.Event.{Event}
use Rattle.node_core.specs.declared.event.Event.TheVariants as on
use Rattle.node_core.specs.declared.phase.Phase.TheVariants.{Election}
use Rattle.node_core.specs.declared.timer.Timer.TheVariants as timer
use Rattle.node_core.specs.State.{State, in_phase, is_down}
use Rattle.node_core.specs.Wait.{IsMergeWait}
use Rattle.node_core.specs.Words.{members_of}
use Rattle.histories.specs.NodeState.{NodeState}
use Rattle.node_timers.specs.declared.snapshot.NodeSnapshot.{NodeSnapshot}
use Rattle.node_timers.specs.declared.timer_settings.TimerSettings.{TimerSettings}
use Rattle.node_timers.specs.Hearing.{told_by}
use Rattle.node_timers.specs.Policy.{Policy, all_answered, fresh, gives_up, in_new_group, passed, spent, without_asked}
use Rattle.node_timers.specs.Retransmission.{Waits, is_answered, waits_on}
use Rattle.node_timers.specs.Snapshots.{snapshot_of}
use Rattle.node_timers.specs.Timers.{raise_of}
use Rattle.node_session.specs.declared.asked.Asked.{Asked}
use Rattle.node_session.specs.declared.asked.Asked.TheVariants as ask
use Rattle.node_session.specs.declared.timers.TheConstants.{MOST_FIRED}
use Rattle.node_session.specs.Ticks.{IsNext, Ticks}
use Rattle.node_session.specs.Turns.{CallEnd, Turn, after_turn, cause, end_of}
use Rattle.node_session.specs.Chains.{AreTimely, LineOutcome, after_turns, line_end, waits_turn, waits_turns}
use Rattle.node_session.specs.Lines.{At, after_line}
use Rattle.node_session.specs.Seals.{asked_under}

pub record Timers : Type 0 where
  pub policy : Policy
  -- the group in which the timers were looked at last, and the one in which the node last spent time
  pub looked_in : Option Group
  pub spent_in : Option Group

-- no time was told yet
abbrev pub new_timers : TimerSettings → ℕ → ℕ → Timers
new_timers setting id seed = record { policy = fresh setting id seed; looked_in = None; spent_in = None }

-- ---- what is told

abbrev pub told_time : ℕ → Timers → Timers
told_time now t = record t { policy = passed now t.policy }

-- a message that comes is heard, whatever the node makes of it
abbrev pub heard : Event → Timers → Timers
heard (on.Deliver m) t = record t { policy = told_by m t.policy }
heard event t = t

-- a coordinator that recovers gives a member up, and looks for others soon; when a node asks behind a loss, no time says
abbrev pub given_up : Event → Timers → Timers
given_up on.Recover t = record t { policy = gives_up (without_asked t.policy) }
given_up event t = record t { policy = without_asked t.policy }

-- a command of a node in this state took so many milliseconds: they aren't waited for, and where it is the first in a group that the node
-- made, it was the raise for it, and others are reckoned to take as long
pub record Spends (self ms : ℕ) (s : State) (old new : Timers) : Type 0 where
  pub down : is_down s.phase ≡ true → new ≡ record old { policy = spent ms old.policy }
  pub again : old.spent_in ≡ Some s.group → new ≡ record old { policy = spent ms old.policy }
  pub raise : is_down s.phase ≡ false → old.spent_in ≢ Some s.group → s.group.creator ≡ self
      → new ≡ record old { policy = record (spent ms old.policy) { raise = raise_of old.policy.setting ms }; spent_in = Some s.group }
  pub other : is_down s.phase ≡ false → old.spent_in ≢ Some s.group → s.group.creator ≢ self
      → new ≡ record old { policy = spent ms old.policy; spent_in = Some s.group }

-- ---- a look

-- a node of which this is seen, and what it keeps where it is up
pub record IsSeen (self : ℕ) (s : NodeState) (seen : NodeSnapshot) : Type 0 where
  pub merge_wait : Option ℕ
  pub jobs : List Job
  pub is : seen ≡ snapshot_of self s.state merge_wait jobs
  pub found : IsNone merge_wait ↔ (s.state.found ≡ [])
  pub waits : IfSome merge_wait (IsMergeWait self s.state.found)
  pub kept : is_down s.state.phase ≡ false → jobs ≡ s.durable.pending

-- the timers are looked at in a group; where it is another than before, its members have no work in hand
pub record LooksIn (group : Group) (old new : Timers) : Type 0 where
  pub same : old.looked_in ≡ Some group → new ≡ old
  pub other : old.looked_in ≢ Some group → new ≡ record old { policy = in_new_group old.policy; looked_in = Some group }

-- where nothing is due, and all have answered a check or accepted an invitation, that is over or soon is, and the timers are looked at once
-- more
abbrev pub LooksAgain : Bool → NodeSnapshot → Option Event → Policy → Option Event → Policy → Type 0
LooksAgain true seen first between fired new = Ticks seen (all_answered seen between) fired new
LooksAgain false seen first between fired new = (fired ≡ first) × (new ≡ between)

-- a look at the timers of a node of which this is seen, and which waits for these messages: this event is due, or none
pub record Looks (seen : NodeSnapshot) (w : Waits) (old : Timers) (fired : Option Event) (new : Timers) : Type 0 where
  pub here : Timers
  pub first : Option Event
  pub between : Policy
  pub group : LooksIn seen.group old here
  pub ticks : Ticks seen here.policy first between
  pub again : LooksAgain (not (is_some first) && is_answered seen w) seen first between fired new.policy
  pub same : new ≡ record here { policy = new.policy }

-- at a node in this state
pub record IsDueAt (self : ℕ) (s : NodeState) (w : Waits) (old : Timers) (fired : Option Event) (new : Timers) : Type 0 where
  pub seen : NodeSnapshot
  pub is_seen : IsSeen self s seen
  pub looks : Looks seen w old fired new

-- ---- what fires

-- behind a call that is denied nothing fires
abbrev pub GoesOn : CallEnd → List Turn → Type 0
GoesOn ended [] = Unit {0}
GoesOn (Ok answer) (turn ∷ turns) = Unit {0}
GoesOn (Err fault) (turn ∷ turns) = ⊥

-- each call is of the event that was due where the one before it left the node
abbrev pub AreDue : ℕ → ℕ → NodeState → Waits → List Turn → Timers → Timers → Type 0
AreDue self nodes s w [] old new = new ≡ old
AreDue self nodes s w (turn ∷ turns) old new =
    (mid : Timers) × IsDueAt self s w old (cause turn) mid × GoesOn (end_of self nodes s turn) turns
    × AreDue self nodes (after_turn self nodes s turn) (waits_turn self nodes s turn w) turns mid new

-- no more fires: the last call was denied, so many fired as may in one tick, or nothing is due
abbrev pub IsAtRest : ℕ → NodeState → Waits → CallEnd → ℕ → Timers → Timers → Type 0
IsAtRest self s w ended count old new = (IsErr ended × (new ≡ old))
    ⊎ (((count ≡ MOST_FIRED) × (new ≡ old)) ⊎ IsDueAt self s w old None new)

-- the calls of a tick: all that is due fires, and nothing else
pub record Fires (w : Waits) (old new : Timers) (self nodes : ℕ) (s : NodeState) (turns : List Turn) : Type 0 where
  pub mid : Timers
  pub due : AreDue self nodes s w turns old mid
  pub few : length turns ≤ MOST_FIRED
  pub rests : IsAtRest self (after_turns self nodes s turns) (waits_turns self nodes s turns w) (line_end self nodes s turns)
      (length turns) mid new

-- what a tick tells of a node that is up
pub record IsToldNext (self : ℕ) (s : NodeState) (w : Waits) (t : Timers) (now due : ℕ) : Type 0 where
  pub seen : NodeSnapshot
  pub is_seen : IsSeen self s seen
  pub next : IsNext now t.policy w seen due

-- ---- a loss

-- what a node makes of it that the transport gave another one up: a member asks for its coordinator or leaves it, and a coordinator leaves
-- where
-- it is a member. A node that is in no group, or forms one, has nobody to lose
abbrev pub lost_by : ℕ → State → ℕ → Option Event
lost_by self s lost =
    if lost == self || (is_down s.phase || in_phase Election s.phase) then None else
    if s.coordinator == lost then Some (on.Timer timer.Coord) else
    if s.coordinator == self && has (members_of s.task) lost then Some on.Recover else None

-- the call of this event, and what it tells the timers
abbrev pub Loses : Option Event → List Turn → Timers → Timers → Type 0
Loses None [] old new = new ≡ old
Loses (Some event) (turn ∷ []) old new = (cause turn ≡ Some event) × (new ≡ given_up event old)
Loses event turns old new = ⊥

-- the calls of a loss
abbrev pub GivesUp : ℕ → Timers → Timers → ℕ → ℕ → NodeState → List Turn → Type 0
GivesUp lost old new self nodes s turns = Loses (lost_by self s.state lost) turns old new

-- timers' events, of which this is so
abbrev pub Timely : (ℕ → ℕ → NodeState → List Turn → Type 0) → ℕ → ℕ → ℕ → NodeState → List Turn → Type 0
Timely So self nodes slots s turns = AreTimely self nodes slots s turns × So self nodes s turns

-- ---- lines

-- what a line does to the timers of a node that waits for these messages, where this came of it
abbrev pub IsTimed : ℕ → ℕ → NodeState → Waits → Asked → LineOutcome → Timers → Timers → Type 0
IsTimed self nodes s w (ask.Event event) came old new = new ≡ heard event old
IsTimed self nodes s w (ask.Tick now) came old new =
    Fires (waits_on now w) (told_time now old) new self nodes s came.turns
    × IfSome came.due (IsToldNext self (after_turns self nodes s came.turns) (waits_turns self nodes s came.turns (waits_on now w)) new now)
IsTimed self nodes s w (ask.Lost id) came old new = GivesUp id old new self nodes s came.turns
IsTimed self nodes s w asked came old new = new ≡ old

abbrev pub IsTimedBy : ℕ → ℕ → Bool → At → Asked → LineOutcome → Timers → Timers → Type 0
IsTimedBy self nodes true a asked came old new = new ≡ old
IsTimedBy self nodes false a asked came old new = IsTimed self nodes a.state a.waits asked came old new

-- no line is answered once the device failed
abbrev pub IsTimedAt : ℕ → ℕ → At → List ℕ → LineOutcome → Timers → Timers → Type 0
IsTimedAt self nodes a line came old new = IsTimedBy self nodes a.stopped a (asked_under a.seal line) came old new

-- between two lines the timers are told of nothing
abbrev pub Nothing : ℕ → NodeState → Timers → Timers → Type 0
Nothing self s old new = new ≡ old

-- or how long commands took
abbrev pub AreSpent : ℕ → State → List ℕ → Timers → Timers → Type 0
AreSpent self s [] old new = new ≡ old
AreSpent self s (ms ∷ times) old new = (mid : Timers) × Spends self ms s old mid × AreSpent self s times mid new

abbrev pub OwnTime : ℕ → NodeState → Timers → Timers → Type 0
OwnTime self s old new = (times : List ℕ) × AreSpent self s.state times old new

-- lines, one behind another
abbrev pub AreTimedIn : (ℕ → NodeState → Timers → Timers → Type 0) → ℕ → ℕ → At → List (List ℕ) → List LineOutcome → Timers → Timers
    → Type 0
AreTimedIn Between self nodes a [] all old new = Between self a.state old new
AreTimedIn Between self nodes a (line ∷ lines) [] old new = Between self a.state old new
AreTimedIn Between self nodes a (line ∷ lines) (came ∷ all) old new =
    (here : Timers) × (mid : Timers) × Between self a.state old here × IsTimedAt self nodes a line came here mid
    × AreTimedIn Between self nodes (after_line self nodes a line came) lines all mid new
