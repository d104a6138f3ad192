-- What comes of each line, and the chains of histories that this makes.
use Rattle.std.specs.Prelude.{ℕ, ◌≡◌, ◌+◌, List, [], ◌∷◌, Bool, true, false, if◌then◌else◌, Option, None, is_some, Ok, Err}
use Rattle.node_timers.specs.Retransmission.{Waits, waits_behind, waits_on}
use Rattle.histories.specs.NodeState.{NodeState}
use Rattle.histories.specs.HistoryEvent.{Entry}
use Rattle.histories.specs.After.{sent_at}
use Rattle.node_core.specs.State.{is_down}
use Rattle.node_core.specs.declared.event.Event.{Event}
use Rattle.durable_node.specs.declared.fault.NodeFault.{NodeFault}
use Rattle.durable_node.specs.declared.fault.NodeFault.TheVariants as node
use Rattle.node_session.specs.declared.asked.Asked.{Asked}
use Rattle.node_session.specs.declared.asked.Asked.TheVariants as ask
use Rattle.node_session.specs.Turns.{CallEnd, Turn, Goes, Unmounted, Begins, after_turn, cause, end_of, sent_in, MayComeOf, MayCompact}
use Rattle.node_session.specs.Turns.{IsTimely}
use Rattle.node_session.specs.Turns.{IsGoing}

-- what came of a line: the calls of the node, and what a tick tells, when something is due next
pub record LineOutcome : Type 0 where
  pub turns : List Turn
  pub due : Option ℕ

-- a call, and others behind it
abbrev pub first_turn : Turn → List Turn → Option ℕ → LineOutcome
first_turn turn turns due = record { turns = turn ∷ turns; due = due }

-- ---- the turns of one line

-- the state that they leave
abbrev pub after_turns : ℕ → ℕ → NodeState → List Turn → NodeState
after_turns self nodes s [] = s
after_turns self nodes s (turn ∷ turns) = after_turns self nodes (after_turn self nodes s turn) turns

-- how the last of them ended, behind a call that ended so
abbrev pub last_end : ℕ → ℕ → CallEnd → NodeState → List Turn → CallEnd
last_end self nodes ended s [] = ended
last_end self nodes ended s (turn ∷ turns) = last_end self nodes (end_of self nodes s turn) (after_turn self nodes s turn) turns

-- how a line ends: well, where nothing was asked of the node
abbrev pub line_end : ℕ → ℕ → NodeState → List Turn → CallEnd
line_end self nodes s turns = last_end self nodes (Ok None) s turns

-- the messages that are waited for behind a call
abbrev pub waits_turn : ℕ → ℕ → NodeState → Turn → Waits → Waits
waits_turn self nodes s turn w = waits_behind (cause turn) (sent_in self nodes s turn) (after_turn self nodes s turn).state w

abbrev pub waits_turns : ℕ → ℕ → NodeState → List Turn → Waits → Waits
waits_turns self nodes s [] w = w
waits_turns self nodes s (turn ∷ turns) w = waits_turns self nodes (after_turn self nodes s turn) turns (waits_turn self nodes s turn w)

-- a tick sends again what is due, before anything else
abbrev pub waits_begun : Asked → Waits → Waits
waits_begun (ask.Tick now) w = waits_on now w
waits_begun asked w = w

-- how the first of them ended
abbrev pub step_end : ℕ → ℕ → NodeState → List Turn → CallEnd
step_end self nodes s [] = Ok None
step_end self nodes s (turn ∷ turns) = end_of self nodes s turn

abbrev pub is_device : NodeFault → Bool
is_device node.Device = true
is_device fault = false

abbrev pub is_failed : CallEnd → Bool
is_failed (Ok answer) = false
is_failed (Err fault) = is_device fault

-- how an event ends whose call ended so, where the last call of its line ended so: as its call did, unless the device failed behind that
abbrev pub behind_end : CallEnd → CallEnd → CallEnd
behind_end step last = if is_failed last then last else step

abbrev pub event_line_end : ℕ → ℕ → NodeState → List Turn → CallEnd
event_line_end self nodes s turns = behind_end (step_end self nodes s turns) (line_end self nodes s turns)

abbrev pub IsNone : List Turn → Type 0
IsNone [] = Unit {0}
IsNone (turn ∷ turns) = ⊥

abbrev pub IsOne : (Turn → Type 0) → List Turn → Type 0
IsOne May [] = ⊥
IsOne May (turn ∷ []) = May turn
IsOne May (turn ∷ next ∷ turns) = ⊥

-- each came of a timer
abbrev pub AreTimely : ℕ → ℕ → ℕ → NodeState → List Turn → Type 0
AreTimely self nodes slots s [] = Unit {0}
AreTimely self nodes slots s (turn ∷ turns) = IsTimely self nodes slots s turn
    × AreTimely self nodes slots (after_turn self nodes s turn) turns

-- a node that was down is up
abbrev pub brought_up : Bool → Bool → Bool
brought_up true false = true
brought_up was now = false

-- the calls behind that of an event: where it brought the node up, all that the journal keeps is written anew, by a compaction
abbrev pub IsWrittenAnew : Bool → ℕ → ℕ → ℕ → NodeState → List Turn → Type 0
IsWrittenAnew true self nodes slots s turns = IsOne (MayCompact self nodes slots s) turns
IsWrittenAnew false self nodes slots s turns = IsNone turns

-- the calls of an event
abbrev pub ComesOfEvent : ℕ → ℕ → ℕ → NodeState → Event → List Turn → Type 0
ComesOfEvent self nodes slots s event [] = ⊥
ComesOfEvent self nodes slots s event (turn ∷ turns) =
    MayComeOf self nodes event slots s turn
    × IsWrittenAnew (brought_up (is_down s.state.phase) (is_down (after_turn self nodes s turn).state.phase)) self nodes slots
    (after_turn self nodes s turn) turns

-- and the first of them ended so
abbrev pub ComesAndEnds : Event → CallEnd → ℕ → ℕ → ℕ → NodeState → List Turn → Type 0
ComesAndEnds event step self nodes slots s turns = ComesOfEvent self nodes slots s event turns × (step ≡ step_end self nodes s turns)

-- they may come of what a line asks
abbrev pub MayCome : ℕ → ℕ → ℕ → NodeState → Asked → List Turn → Type 0
MayCome self nodes slots s (ask.Event event) turns = ComesOfEvent self nodes slots s event turns
MayCome self nodes slots s ask.Compact turns = IsOne (MayCompact self nodes slots s) turns
MayCome self nodes slots s (ask.Tick now) turns = AreTimely self nodes slots s turns
MayCome self nodes slots s (ask.Lost id) turns = AreTimely self nodes slots s turns
MayCome self nodes slots s asked turns = IsNone turns

-- a request that makes no call: it asks what the node knows, can't be read, or brings what isn't taken
abbrev pub IsAtOnce : Asked → Type 0
IsAtOnce ask.State = Unit {0}
IsAtOnce ask.Jobs = Unit {0}
IsAtOnce ask.Bad = Unit {0}
IsAtOnce (ask.Refused why) = Unit {0}
IsAtOnce asked = ⊥

-- a node that is down waits for nothing
abbrev pub IsToldBy : Bool → Option ℕ → Type 0
IsToldBy true due = due ≡ None
IsToldBy false due = is_some due ≡ true

-- a tick that led to this state tells when something is due next, and nothing else does
abbrev pub IsTold : Asked → NodeState → Option ℕ → Type 0
IsTold (ask.Tick now) s due = IsToldBy (is_down s.state.phase) due
IsTold asked s due = due ≡ None

-- ---- the numbers of requests

-- the number of the last request behind a line
abbrev pub next : ℕ → Asked → ℕ
next n ask.Nothing = n
next n asked = n + 1

-- ---- one history

abbrev pub AreGoing : List Turn → Type 0
AreGoing [] = Unit {0}
AreGoing (turn ∷ turns) = IsGoing turn × AreGoing turns

abbrev pub AllGoing : List LineOutcome → Type 0
AllGoing [] = Unit {0}
AllGoing (came ∷ all) = AreGoing came.turns × AllGoing all

abbrev pub entry_in_front : ℕ → ℕ → NodeState → Turn → List Entry → List Entry
entry_in_front self nodes s (Goes what) later = record { what = what; sent = sent_at self nodes s what } ∷ later
entry_in_front self nodes s (Unmounted fault) later = later
entry_in_front self nodes s (Begins mounted what) later = later

-- the entries by which the history went on in one line, in front of others
abbrev pub entries_of : ℕ → ℕ → NodeState → List Turn → List Entry → List Entry
entries_of self nodes s [] later = later
entries_of self nodes s (turn ∷ turns) later = entry_in_front self nodes s turn
    (entries_of self nodes (after_turn self nodes s turn) turns later)

-- and in several
abbrev pub entries_in : ℕ → ℕ → NodeState → List LineOutcome → List Entry
entries_in self nodes s [] = []
entries_in self nodes s (came ∷ all) = entries_of self nodes s came.turns (entries_in self nodes (after_turns self nodes s came.turns) all)
