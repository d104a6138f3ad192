-- The processes of a cluster: for each node all of them, one after another over its file.
use Rattle.std.specs.Prelude.{ℕ, suc, ◌≡◌, Bool, true, false, ◌||◌, if◌then◌else◌, List, [], ◌∷◌, ◌++◌, length, slice_get, Some, None}
use Rattle.std.specs.Prelude.{option_to_list}
use Rattle.job_model.specs.Durable.{Durable}
use Rattle.wire_msg.specs.Envelope.{Envelope}
use Rattle.node_core.specs.declared.event.Event.TheVariants as on
use Rattle.node_core.specs.Start.{down}
use Rattle.histories.specs.Lists.{IsAmong}
use Rattle.histories.specs.NodeState.{NodeState, settled}
use Rattle.histories.specs.HistoryEvent.{Entry}
use Rattle.histories.specs.declared.history_event.HistoryEvent.{HistoryEvent}
use Rattle.histories.specs.declared.history_event.HistoryEvent.TheVariants.{Crashed, Recovered, RaiseFailed, RaiseRefused}
use Rattle.histories.specs.Possible.{IsSettling}
use Rattle.durable_node.specs.Changes.{told_anew, view_of}
use Rattle.durable_node.specs.declared.group_view.GroupView.{GroupView}
use Rattle.node_session.specs.declared.asked.Asked.{Asked}
use Rattle.node_session.specs.declared.asked.Asked.TheVariants as ask
use Rattle.node_session.specs.Turns.{Turn, after_turn}
use Rattle.node_session.specs.Chains.{LineOutcome, AllGoing, after_turns, entries_in}
use Rattle.node_session.specs.Lines.{At, AreOf, after_line, after_lines}
use Rattle.node_session.specs.Seals.{asked_under}
use Rattle.node_session.specs.Sending.{handed_out}
use Rattle.node_session.specs.Stamping.{Life, life_begun}
use Rattle.processes.specs.Files.{FileHistory, IsFormatted, at_first}

-- ---- one process

-- A process of a node: its lines, and what came of each. One that is ended in the middle of a call of its disk is one whose disk
-- failed in that call: then the command of that call is in doubt.
pub record Process : Type 0 where
  -- whether the command that the last process left in doubt was on the disk
  pub kept : Bool
  -- whether it was given the keys of its life
  pub keyed : Bool
  pub life : Life

-- it begins down, and knows of no command in doubt: the disk keeps it, or doesn't
abbrev pub found : ℕ → NodeState → Process → NodeState
found self s p = record { state = down self; durable = settled p.kept s; doubt = None }

abbrev pub begun : ℕ → ℕ → NodeState → Process → At
begun self nodes s p = if p.keyed then life_begun self nodes (found self s p) p.life
    else record (life_begun self nodes (found self s p) p.life) { seal = None }

-- and leaves this
abbrev pub left : ℕ → ℕ → NodeState → Process → NodeState
left self nodes s p = (after_lines self nodes (begun self nodes s p) p.life.lines p.life.all).state

-- the message that a line is to deliver
abbrev pub brings : Bool → Asked → List Envelope
brings false (ask.Event (on.Deliver m)) = m ∷ []
brings stopped asked = []

-- those that lines are to deliver
abbrev pub delivered_in : ℕ → ℕ → At → List (List ℕ) → List LineOutcome → List Envelope
delivered_in self nodes a [] all = []
delivered_in self nodes a (line ∷ lines) [] = []
delivered_in self nodes a (line ∷ lines) (came ∷ all) = brings a.stopped (asked_under a.seal line)
    ++ delivered_in self nodes (after_line self nodes a line came) lines all

-- and those of the `send` lines of the answers
abbrev pub handed_in : ℕ → ℕ → At → List (List ℕ) → List LineOutcome → List Envelope
handed_in self nodes a [] all = []
handed_in self nodes a (line ∷ lines) [] = []
handed_in self nodes a (line ∷ lines) (came ∷ all) = handed_out self nodes a line came
    ++ handed_in self nodes (after_line self nodes a line came) lines all

-- what the `group` lines of the answers tell
abbrev pub told_by : ℕ → ℕ → NodeState → List Turn → List GroupView
told_by self nodes s [] = []
told_by self nodes s (turn ∷ turns) =
    option_to_list (told_anew (view_of s.state) (view_of (after_turn self nodes s turn).state))
    ++ told_by self nodes (after_turn self nodes s turn) turns

abbrev pub told_in : ℕ → ℕ → NodeState → List LineOutcome → List GroupView
told_in self nodes s [] = []
told_in self nodes s (came ∷ all) = told_by self nodes s came.turns ++ told_in self nodes (after_turns self nodes s came.turns) all

-- ---- the command in doubt

-- whether a mounting leaves the doubt settled
abbrev pub mounts : HistoryEvent → Bool
mounts (Recovered kept) = true
mounts (RaiseFailed kept) = true
mounts what = false

abbrev pub settled_as : Bool → HistoryEvent → HistoryEvent
settled_as kept (Recovered none) = Recovered kept
settled_as kept (RaiseFailed none) = RaiseFailed kept
settled_as kept (RaiseRefused none) = RaiseRefused kept
settled_as kept what = what

-- the entries, with what the first mounting that settles the doubt, and those before it, found of it
abbrev pub settles : Bool → List Entry → List Entry
settles kept [] = []
settles kept (e ∷ es) = record { what = settled_as kept e.what; sent = e.sent } ∷ (if mounts e.what then es else settles kept es)

-- what a later process finds of it, where none settled it
abbrev pub carried : Bool → List Entry → Bool
carried kept [] = kept
carried kept (e ∷ es) = if mounts e.what then false else carried kept es

-- ---- the processes of a node

-- one after another over a file that keeps to the disk model
abbrev pub AreProcesses : ℕ → ℕ → ℕ → NodeState → List Process → Type 0
AreProcesses self nodes slots s [] = Unit {0}
AreProcesses self nodes slots s (p ∷ ps) =
    IsSettling p.kept s.doubt × AreOf self nodes slots (begun self nodes s p) p.life.lines p.life.all × AllGoing p.life.all
    × AreProcesses self nodes slots (left self nodes s p) ps

-- what came of one of them
abbrev pub process_entries : ℕ → ℕ → NodeState → Process → List Entry
process_entries self nodes s p = entries_in self nodes (found self s p) p.life.all

-- and of all, as one history of the node: with a crash in front of each, and said at the first mounting behind it whether the command in
-- doubt was there, if one was
abbrev pub entries_from : ℕ → ℕ → Bool → NodeState → List Process → List Entry
entries_from self nodes doubted s [] = []
entries_from self nodes doubted s (p ∷ ps) =
    record { what = Crashed; sent = [] } ∷ (settles (doubted || p.kept) (process_entries self nodes s p)
    ++ entries_from self nodes (carried (doubted || p.kept) (process_entries self nodes s p)) (left self nodes s p) ps)

abbrev pub entries_of : ℕ → ℕ → NodeState → List Process → List Entry
entries_of self nodes s ps = entries_from self nodes false s ps

abbrev pub delivered_to : ℕ → ℕ → NodeState → List Process → List Envelope
delivered_to self nodes s [] = []
delivered_to self nodes s (p ∷ ps) = delivered_in self nodes (begun self nodes s p) p.life.lines p.life.all
    ++ delivered_to self nodes (left self nodes s p) ps

abbrev pub handed_by : ℕ → ℕ → NodeState → List Process → List Envelope
handed_by self nodes s [] = []
handed_by self nodes s (p ∷ ps) = handed_in self nodes (begun self nodes s p) p.life.lines p.life.all
    ++ handed_by self nodes (left self nodes s p) ps

abbrev pub told_of : ℕ → ℕ → NodeState → List Process → List GroupView
told_of self nodes s [] = []
told_of self nodes s (p ∷ ps) = told_in self nodes (found self s p) p.life.all ++ told_of self nodes (left self nodes s p) ps

-- ---- a cluster

-- a node: what its file kept when it was formatted, with so many slots, and its processes
pub record NodeProcesses : Type 0 where
  pub file : Durable
  pub slots : ℕ
  pub processes : List Process

-- a process of a node printed a `send` line of this message
abbrev pub WasPrinted : List NodeProcesses → Envelope → Type 0
WasPrinted cluster m =
    (n : ℕ) × (node : NodeProcesses) × (slice_get cluster n ≡ Some node)
    × IsAmong m (handed_by n (length cluster) (at_first n node.file) node.processes)

-- The processes of a cluster, those of a node at the place of its id: each node has one file, which was formatted, and one process at a
-- time over it; and each message that is delivered stood in a `send` line that one of all these processes printed.
pub record AreProcessesOf (cluster : List NodeProcesses) : Type 0 where
  pub files : (n : ℕ) (node : NodeProcesses) → slice_get cluster n ≡ Some node → IsFormatted node.file
  pub processes : (n : ℕ) (node : NodeProcesses) → slice_get cluster n ≡ Some node
      → AreProcesses n (length cluster) node.slots (at_first n node.file) node.processes
  pub delivers : (n : ℕ) (node : NodeProcesses) → slice_get cluster n ≡ Some node →
      (m : Envelope) → IsAmong m (delivered_to n (length cluster) (at_first n node.file) node.processes) → WasPrinted cluster m

-- what came of each node, the first being node n of so many
abbrev pub histories_from : ℕ → ℕ → List NodeProcesses → List FileHistory
histories_from n nodes [] = []
histories_from n nodes (node ∷ more) = record {
  file = node.file;
  entries =
      entries_of n nodes (at_first n node.file) node.processes;
} ∷ histories_from (suc n) nodes more

abbrev pub histories_of : List NodeProcesses → List FileHistory
histories_of cluster = histories_from 0 (length cluster) cluster

-- a process of node n printed a `group` line that tells this
abbrev pub IsToldBy : List NodeProcesses → ℕ → GroupView → Type 0
IsToldBy cluster n view = (node : NodeProcesses) × (slice_get cluster n ≡ Some node)
    × IsAmong view (told_of n (length cluster) (at_first n node.file) node.processes)
