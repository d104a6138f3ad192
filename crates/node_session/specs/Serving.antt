-- A session, and what feeding it does.
use Rattle.std.specs.Prelude.{ℕ, ◌≡◌, ◌≤◌, ◌<◌, ◌-◌, ◌^◌, ◌⊎◌, ◌++◌, List, [], ◌∷◌, All, Bool, true, false, IsTrue, IsFalse, Option, Some}
use Rattle.std.specs.Prelude.{None}
use Rattle.sector_disk.specs.Disk.{DiskState}
use Rattle.job_model.specs.Durable.{Durable}
use Rattle.node_core.specs.Start.{down}
use Rattle.node_store.specs.Store.{slots_for}
use Rattle.durable_node.specs.Node.{Node, Stands}
use Rattle.wire_msg.specs.Spelling.{IsMessage}
use Rattle.node_timers.specs.Retransmission.{Waits, none_waited}
use Rattle.histories.specs.NodeState.{NodeState}
use Rattle.histories.specs.declared.history_event.HistoryEvent.{HistoryEvent}
use Rattle.histories.specs.After.{after}
use Rattle.histories.specs.History.{Follows, FollowsSlots, replay}
use Rattle.line_words.specs.Lines.{lines_of}
use Rattle.node_session.specs.Turns.{CallEnd, Turn, Goes, Begins, begun, after_begun, after_turn, end_of, sent_in, IsGoing}
use Rattle.node_session.specs.Chains.{LineOutcome, AllGoing, AreGoing, IsTold, MayCome, after_turns, entries_in, is_failed, last_end}
use Rattle.node_session.specs.Chains.{line_end, next, first_turn, waits_begun, waits_turn, waits_turns}
use Rattle.node_session.specs.Lines.{At, AreOf, after_lines, answers}
use Rattle.node_session.specs.Exact.{IsCallOf, AreCallsOf, AreCallsIn}
use Rattle.node_session.specs.Sending.{AreMessagesIn, AreSentIn, again, sent_turns}
use Rattle.node_session.specs.Seals.{Seals}
use Rattle.node_session.specs.Timing.{Timers, AreTimedIn, IsTimed, Nothing, OwnTime, Spends, new_timers}
use Rattle.node_timers.specs.declared.timer_settings.TimerSettings.{TimerSettings}
use Rattle.node_session.specs.Text.{answer, turn_text, turns_text}
use Rattle.node_session.specs.declared.asked.Asked.{Asked}

pub record Progress (Disk : Type 0) : Type 0 where
  pub node : Node Disk
  -- the device failed: no line is answered any more
  pub stopped : Bool
  -- how many requests there were
  pub count : ℕ
  -- what was answered since the last clearing
  pub text : List ℕ
  -- the beginning of the line that isn't whole
  pub rest : List ℕ
  -- the messages that are waited for
  pub waits : Waits
  pub timers : Timers
  -- what is kept under a key
  pub seal : Option Seals

abbrev pub at_of : {Disk : Type 0} → Progress Disk → NodeState → At
at_of p s = record { stopped = p.stopped; count = p.count; state = s; waits = p.waits; seal = p.seal }

-- These lines were answered, at a node that stood for this state over this disk. This may be told to the timers between them.
pub record Served {Disk : Type 0} (disks : Disk → DiskState) (Between : ℕ → NodeState → Timers → Timers → Type 0) (old new : Progress Disk)
    (self nodes : ℕ) (lines : List (List ℕ)) (was : Disk) (s : NodeState) : Type 0 where
  -- of each line came something that may come of it
  pub all : List LineOutcome
  pub came : AreOf self nodes (slots_for (disks was).sectors) (at_of old s) lines all
  -- by calls of the node, of which all holds that is said of them
  pub exact : AreCallsIn disks self nodes (at_of old s) lines all old.node new.node
  -- by events that were due, where the timers made them, and with the times that they say
  pub timed : AreTimedIn Between self nodes (at_of old s) lines all old.timers new.timers
  -- what they hand out are messages of the protocol
  pub messages : AreMessagesIn self nodes (at_of old s) lines all
  -- over an honest disk it is one history
  pub honest : IsTrue (disks was).honest → AllGoing all
  -- the node stands for the state that this leaves
  pub state : NodeState
  pub stands : Stands disks new.node state
  pub left : at_of new state ≡ after_lines self nodes (at_of old s) lines all
  -- and these are the answers
  pub text : new.text ≡ old.text ++ answers self nodes (at_of old s) lines all

-- the disk is there, as large and as honest as it was
pub record IsDiskOf {Disk : Type 0} (disks : Disk → DiskState) (was : Disk) (new : Option Disk) : Type 0 where
  pub now : Disk
  pub is : new ≡ Some now
  pub sectors : (disks now).sectors ≡ (disks was).sectors
  pub honest : (disks now).honest ≡ (disks was).honest

-- the node is the same, over the same disk
pub record IsNodeOf {Disk : Type 0} (disks : Disk → DiskState) (old new : Node Disk) : Type 0 where
  pub id : new.id ≡ old.id
  pub nodes : new.nodes ≡ old.nodes
  pub disk : (was : Disk) → old.disk ≡ Some was → IsDiskOf disks was new.disk

-- these lines were answered, whatever state the node stood for
pub record Serves {Disk : Type 0} (disks : Disk → DiskState) (Between : ℕ → NodeState → Timers → Timers → Type 0) (old new : Progress Disk)
    (lines : List (List ℕ)) : Type 0 where
  pub node : IsNodeOf disks old.node new.node
  pub served : (was : Disk) (s : NodeState) → old.node.disk ≡ Some was → Stands disks old.node s
      → Served disks Between old new old.node.id old.node.nodes lines was s

-- a piece was fed: its whole lines were answered, the first behind what was kept, and what is behind the last of them is kept
pub record IsFed {Disk : Type 0} (disks : Disk → DiskState) (Between : ℕ → NodeState → Timers → Timers → Type 0) (old : Progress Disk)
    (piece : List ℕ) (new : Progress Disk) : Type 0 where
  pub lines : List (List ℕ)
  pub cut : lines_of (old.rest ++ piece) ≡ lines ++ new.rest ∷ []
  pub serves : Serves disks Between old new lines

-- in one go
abbrev pub FedAtOnce : {Disk : Type 0} → (Disk → DiskState) → Progress Disk → List ℕ → Progress Disk → Type 0
FedAtOnce disks old piece new = IsFed disks Nothing old piece new

-- and where between the lines the session was told how long commands took
abbrev pub Fed : {Disk : Type 0} → (Disk → DiskState) → Progress Disk → List ℕ → Progress Disk → Type 0
Fed disks old piece new = IsFed disks OwnTime old piece new

-- ---- one call of the node

-- This came of it.
pub record Turned {Disk : Type 0} (disks : Disk → DiskState) (old new : Progress Disk) (self nodes : ℕ)
    (May : ℕ → ℕ → ℕ → NodeState → Turn → Type 0) (ended : CallEnd) (was : Disk) (s : NodeState) : Type 0 where
  pub turn : Turn
  pub may : May self nodes (slots_for (disks was).sectors) s turn
  pub exact : IsCallOf disks self nodes s turn old.node new.node
  pub messages : All IsMessage (sent_in self nodes s turn)
  pub honest : IsTrue (disks was).honest → IsGoing turn
  pub stands : Stands disks new.node (after_turn self nodes s turn)
  pub ended_so : ended ≡ end_of self nodes s turn
  pub text : new.text ≡ old.text ++ turn_text self nodes s turn
  pub waits : new.waits ≡ waits_turn self nodes s turn old.waits

-- whatever state the node stood for; it changes the node, the text and what is waited for alone
pub record Turns {Disk : Type 0} (disks : Disk → DiskState) (old new : Progress Disk) (May : ℕ → ℕ → ℕ → NodeState → Turn → Type 0)
    (ended : CallEnd) : Type 0 where
  pub node : IsNodeOf disks old.node new.node
  pub same : new ≡ record old { node = new.node; text = new.text; waits = new.waits }
  pub turned : (was : Disk) (s : NodeState) → old.node.disk ≡ Some was → Stands disks old.node s
      → Turned disks old new old.node.id old.node.nodes May ended was s

-- ---- several calls, of one line

-- These came of them.
pub record Called {Disk : Type 0} (disks : Disk → DiskState) (old new : Progress Disk) (self nodes : ℕ) (heading : Turn → List ℕ)
    (May : ℕ → ℕ → ℕ → NodeState → List Turn → Type 0) (before ended : CallEnd) (was : Disk) (s : NodeState) : Type 0 where
  pub turns : List Turn
  pub may : May self nodes (slots_for (disks was).sectors) s turns
  pub exact : AreCallsOf disks self nodes s turns old.node new.node
  pub messages : All IsMessage (sent_turns self nodes s turns)
  pub honest : IsTrue (disks was).honest → AreGoing turns
  pub stands : Stands disks new.node (after_turns self nodes s turns)
  pub ended_so : ended ≡ last_end self nodes before s turns
  pub text : new.text ≡ old.text ++ turns_text heading self nodes s turns
  pub waits : new.waits ≡ waits_turns self nodes s turns old.waits

-- whatever state the node stood for; this is written before each. The timers may be looked at meanwhile
pub record Calls {Disk : Type 0} (disks : Disk → DiskState) (old new : Progress Disk) (heading : Turn → List ℕ)
    (May : ℕ → ℕ → ℕ → NodeState → List Turn → Type 0) (before ended : CallEnd) : Type 0 where
  pub node : IsNodeOf disks old.node new.node
  pub same : new ≡ record old { node = new.node; text = new.text; waits = new.waits; timers = new.timers }
  pub called : (was : Disk) (s : NodeState) → old.node.disk ≡ Some was → Stands disks old.node s
      → Called disks old new old.node.id old.node.nodes heading May before ended was s

-- ---- one request, before its messages are sealed

-- where it left a session, and its answer
pub record Replied {Disk : Type 0} (disks : Disk → DiskState) (old new : Progress Disk) (a : Asked) (was : Disk) (s : NodeState) :
    Type 0 where
  pub turns : List Turn
  pub due : Option ℕ
  pub told : IsTold a (after_turns old.node.id old.node.nodes s turns) due
  pub may : MayCome old.node.id old.node.nodes (slots_for (disks was).sectors) s a turns
  pub exact : AreCallsOf disks old.node.id old.node.nodes s turns old.node new.node
  pub timed : IsTimed old.node.id old.node.nodes s old.waits a (record { turns = turns; due = due }) old.timers new.timers
  pub messages : All IsMessage (again a old.waits ++ sent_turns old.node.id old.node.nodes s turns)
  pub honest : IsTrue (disks was).honest → AreGoing turns
  pub stands : Stands disks new.node (after_turns old.node.id old.node.nodes s turns)
  pub stopped : new.stopped ≡ is_failed (line_end old.node.id old.node.nodes s turns)
  pub count : new.count ≡ next old.count a
  pub text : new.text ≡ old.text ++ answer old.node.id old.node.nodes (next old.count a) s old.waits a (record { turns = turns; due = due })
  pub waits : new.waits ≡ waits_turns old.node.id old.node.nodes s turns (waits_begun a old.waits)

-- whatever state the node stood for
pub record Replies {Disk : Type 0} (disks : Disk → DiskState) (old new : Progress Disk) (a : Asked) : Type 0 where
  pub node : IsNodeOf disks old.node new.node
  pub seal : new.seal ≡ old.seal
  pub replied : (was : Disk) (s : NodeState) → old.node.disk ≡ Some was → Stands disks old.node s → Replied disks old new a was s

-- ---- laws

-- two pieces, one after the other, are one
abbrev pub AnyCutting : {Disk : Type 0} → (Disk → DiskState) → Type 0
AnyCutting {Disk} disks =
    (old mid new : Progress Disk) (first second : List ℕ) → Fed disks old first mid → Fed disks mid second new
    → Fed disks old (first ++ second) new

-- what was answered may be written and cleared between two pieces
abbrev pub AnyClearing : {Disk : Type 0} → (Disk → DiskState) → Type 0
AnyClearing {Disk} disks =
    (old mid new : Progress Disk) (first second : List ℕ) → Fed disks old first mid → Fed disks (record mid { text = [] }) second new →
    Fed disks old (first ++ second) (record new { text = mid.text ++ new.text })

-- what is fed in one go is fed
abbrev pub AtOnceIsFed : {Disk : Type 0} → (Disk → DiskState) → Type 0
AtOnceIsFed {Disk} disks = (old new : Progress Disk) (piece : List ℕ) → FedAtOnce disks old piece new → Fed disks old piece new

-- and the session may be told behind it how long a command took
abbrev pub AnyTaking : {Disk : Type 0} → (Disk → DiskState) → Type 0
AnyTaking {Disk} disks =
    (old new : Progress Disk) (piece : List ℕ) (ms : ℕ) (timers : Timers) → Fed disks old piece new →
    Spends new.node.id ms new.node.state new.timers timers → Fed disks old piece (record new { timers = timers })

-- where no history begins, the entries follow each other, and the state is the one that they replay to
abbrev pub OneHistory : Type 0
OneHistory =
    (self nodes slots : ℕ) (a : At) (lines : List (List ℕ)) (all : List LineOutcome) → AreOf self nodes slots a lines all → AllGoing all →
    Follows self nodes a.state (entries_in self nodes a.state all)
    × FollowsSlots slots self nodes a.state (entries_in self nodes a.state all) ×
    (replay self nodes a.state (entries_in self nodes a.state all) ≡ (after_lines self nodes a lines all).state)

-- where a history begins in the first call of a line and no other after it, its entries follow each other from what was mounted on: the
-- mounting, and then the others. The one mounting that begins none is that of a counter that can't be raised
abbrev pub BegunHistory : Type 0
BegunHistory =
    (self nodes slots : ℕ) (a : At) (line : List ℕ) (lines : List (List ℕ)) (mounted : Durable) (what : HistoryEvent) (turns : List Turn)
    (due : Option ℕ) (all : List LineOutcome) →
    AreOf self nodes slots a (line ∷ lines) (first_turn (Begins mounted what) turns due ∷ all) → AreGoing turns → AllGoing all
    → after_begun self nodes a.state mounted what ≡ after self nodes (begun self mounted) what →
    Follows self nodes (begun self mounted) (entries_in self nodes (begun self mounted) (first_turn (Goes what) turns due ∷ all)) ×
    (replay self nodes (begun self mounted) (entries_in self nodes (begun self mounted) (first_turn (Goes what) turns due ∷ all))
    ≡ (after_lines self nodes a (line ∷ lines) (first_turn (Begins mounted what) turns due ∷ all)).state)

-- where no time was told yet and nothing was fed, and jitter is drawn by this seed
abbrev pub opened_by : {Disk : Type 0} → ℕ → ℕ → ℕ → TimerSettings → Disk → Progress Disk
opened_by seed id nodes setting disk = record {
  node = record { id = id; nodes = nodes; state = down id; disk = Some disk; kept = None; area = None; doubt = None; mounted = None };
  stopped = false;
  count = 0;
  text = [];
  rest = [];
  waits = none_waited setting.unit;
  timers = new_timers setting id seed;
  seal = None;
}

-- the same where the seed is the node's number
abbrev pub opened : {Disk : Type 0} → ℕ → ℕ → TimerSettings → Disk → Progress Disk
opened id nodes setting disk = opened_by id id nodes setting disk

-- over a disk of which nothing is known, a new session stands for any jobs and counter
abbrev pub BeginsAnywhere : {Disk : Type 0} → (Disk → DiskState) → Type 0
BeginsAnywhere {Disk} disks =
    (id nodes : ℕ) (setting : TimerSettings) (disk : Disk) (d : Durable) → IsFalse (disks disk).honest → 24 ≤ (disks disk).sectors →
    Stands disks (opened id nodes setting disk).node (record { state = down id; durable = d; doubt = None })

-- a session stops only where the disk's count of failures rose while it was fed, or is the greatest
abbrev pub StopsWhereFailed : {Disk : Type 0} → (Disk → DiskState) → Type 0
StopsWhereFailed {Disk} disks =
    (old new : Progress Disk) (piece : List ℕ) (was now : Disk) (s : NodeState) → Fed disks old piece new → old.node.disk ≡ Some was
    → new.node.disk ≡ Some now → Stands disks old.node s →
    old.stopped ≡ false → new.stopped ≡ true → ((disks was).failures < (disks now).failures) ⊎ (2 ^ 64 - 1 ≤ (disks now).failures)

-- Whatever a session is fed, the `send` lines of its answers are those of the messages that it hands out, each sealed.
abbrev pub SendsSealed : {Disk : Type 0} → (Disk → DiskState) → Type 0
SendsSealed {Disk} disks =
    (old new : Progress Disk) (self nodes : ℕ) (lines : List (List ℕ)) (was : Disk) (s : NodeState) →
    (served : Served disks OwnTime old new self nodes lines was s) → AreSentIn self nodes (at_of old s) lines served.all
