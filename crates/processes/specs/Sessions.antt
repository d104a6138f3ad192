-- Sessions over disks that keep to the disk model are processes.
use Rattle.std.specs.Prelude.{ℕ, ◌≡◌, ◌≤◌, ◌++◌, List, Bool, IsTrue, Some, None}
use Rattle.sector_disk.specs.Disk.{Image, DiskState, IsImage}
use Rattle.job_model.specs.Durable.{Durable}
use Rattle.job_journal.specs.Journal.{IsSound}
use Rattle.node_core.specs.Start.{down}
use Rattle.node_store.specs.Store.{AllStandFor, slots_for}
use Rattle.histories.specs.NodeState.{NodeState}
use Rattle.histories.specs.Possible.{IsSettling}
use Rattle.durable_node.specs.Node.{Node, Stands}
use Rattle.node_session.specs.Chains.{LineOutcome, AllGoing}
use Rattle.node_session.specs.Lines.{AreOf, answers}
use Rattle.node_session.specs.Sending.{AreSentIn}
use Rattle.node_session.specs.Serving.{Fed, Progress, at_of}
use Rattle.processes.specs.Files.{at_first}
use Rattle.processes.specs.Processes.{Process, begun, found, left}

-- a node that knows nothing yet of its disk
pub record IsFresh {Disk : Type 0} (node : Node Disk) (disk : Disk) : Type 0 where
  pub state : node.state ≡ down node.id
  pub doubt : node.doubt ≡ None
  pub disk_is : node.disk ≡ Some disk

-- what a stop leaves of a disk: one image of those that it might leave
pub record IsStopped (was now : DiskState) : Type 0 where
  pub honest : IsTrue was.honest
  pub sectors : now.sectors ≡ was.sectors
  pub image : Image
  pub might : IsImage was image
  pub alone : (other : Image) → IsImage now other → other ≡ image

-- ---- where processes begin

-- the first, over a file that was formatted
abbrev pub FirstStands : {Disk : Type 0} → (Disk → DiskState) → Type 0
FirstStands {Disk} disks = (node : Node Disk) (disk : Disk) (file : Durable) → IsFresh node disk → 24 ≤ (disks disk).sectors →
    AllStandFor (slots_for (disks disk).sectors) file (disks disk) → IsSound (slots_for (disks disk).sectors) (disks disk)
    → Stands disks node (at_first node.id file)

-- and each other, over what a stop left of the disk of the last, whatever it was about
abbrev pub NextStands : {Disk : Type 0} → (Disk → DiskState) → Type 0
NextStands {Disk} disks = (last node : Node Disk) (was now : Disk) (s : NodeState) → Stands disks last s → last.disk ≡ Some was
    → IsStopped (disks was) (disks now) → IsFresh node now →
    (kept : Bool) × IsSettling kept s.doubt × ((p : Process) → p.kept ≡ kept → Stands disks node (found node.id s p))

-- ---- a process

-- a session begins where a process of its node does, with these keys
pub record Begins {Disk : Type 0} (disks : Disk → DiskState) (session : Progress Disk) (disk : Disk) (s : NodeState) (p : Process) :
    Type 0 where
  pub disk_is : session.node.disk ≡ Some disk
  pub honest : IsTrue (disks disk).honest
  pub stands : Stands disks session.node (found session.node.id s p)
  pub at : at_of session (found session.node.id s p) ≡ begun session.node.id session.node.nodes s p

-- the process with these lines, of which this came
abbrev pub with_lines : Process → List (List ℕ) → List LineOutcome → Process
with_lines p lines all = record p { life = record p.life { lines = lines; all = all } }

-- a session that was fed is a process: these came of its lines, its text is their answers, whose `send` lines are those of the messages
-- that
-- it hands out, and it leaves what the process leaves
pub record IsProcess {Disk : Type 0} (disks : Disk → DiskState) (old new : Progress Disk) (self nodes slots : ℕ) (s : NodeState)
    (p : Process) : Type 0 where
  pub came : AreOf self nodes slots (begun self nodes s p) p.life.lines p.life.all
  pub going : AllGoing p.life.all
  pub text : new.text ≡ old.text ++ answers self nodes (begun self nodes s p) p.life.lines p.life.all
  pub sent : AreSentIn self nodes (begun self nodes s p) p.life.lines p.life.all
  pub stands : Stands disks new.node (left self nodes s p)

abbrev pub SessionsAreProcesses : {Disk : Type 0} → (Disk → DiskState) → Type 0
SessionsAreProcesses {Disk} disks = (old new : Progress Disk) (piece : List ℕ) (disk : Disk) (s : NodeState) (p : Process)
    → Begins disks old disk s p → Fed disks old piece new →
    (lines : List (List ℕ)) × (all : List LineOutcome) × IsProcess disks old new old.node.id old.node.nodes (slots_for (disks disk).sectors)
    s (with_lines p lines all)
