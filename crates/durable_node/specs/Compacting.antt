-- What a compaction of a node's journal does, and how it is answered.
use Rattle.std.specs.Prelude.{ℕ, ◌≡◌, IsTrue, IsOk, Some, None, Result, Err}
use Rattle.sector_disk.specs.Disk.{DiskState, Image}
use Rattle.sector_disk.specs.Run.{Each}
use Rattle.job_model.specs.Durable.{Durable}
use Rattle.node_core.specs.declared.fault.CoreFault.TheVariants.{Down}
use Rattle.node_core.specs.Core.{Core}
use Rattle.node_core.specs.Start.{down}
use Rattle.job_journal.specs.Compacting.{records_for}
use Rattle.node_store.specs.Store.{slots_for, stands_for}
use Rattle.durable_node.specs.declared.fault.NodeFault.{NodeFault}
use Rattle.durable_node.specs.declared.fault.NodeFault.TheVariants as node
use Rattle.histories.specs.NodeState.{NodeState}
use Rattle.histories.specs.declared.history_event.HistoryEvent.{HistoryEvent}
use Rattle.histories.specs.declared.history_event.HistoryEvent.TheVariants.{Did, Refused, Faulted, NoOp, Crashed, Recovered, MountFailed}
use Rattle.histories.specs.declared.history_event.HistoryEvent.TheVariants.{RaiseFailed, RaiseRefused}
use Rattle.histories.specs.declared.history_event.NoOpKind.{NoOpKind}
use Rattle.histories.specs.declared.history_event.NoOpKind.TheVariants.{Nothing, Compacted, CompactDown, CompactAreaExhausted}
use Rattle.histories.specs.After.{after}
use Rattle.histories.specs.Possible.{IsPossible}
use Rattle.durable_node.specs.Area.{AllEndIn, jobs_in}
pub use Rattle.durable_node.specs.Area.{moved}
use Rattle.durable_node.specs.Node.{Node, Area, IsCoreOf, Stands}

-- what a compaction that rests answers
abbrev pub RestAnswers : {A : Type 0} → NoOpKind → Result A NodeFault → Type 0
RestAnswers Nothing result = ⊥
RestAnswers Compacted result = IsOk result
RestAnswers CompactDown result = result ≡ Err (node.Core Down)
RestAnswers CompactAreaExhausted result = result ≡ Err node.Exhausted

-- what a compaction answers, by what came of it: where the device fails in it, the node falls as in a crash
abbrev pub CompactionAnswers : {A : Type 0} → HistoryEvent → Result A NodeFault → Type 0
CompactionAnswers (Did event) result = ⊥
CompactionAnswers (Refused event fault) result = ⊥
CompactionAnswers (Faulted event) result = ⊥
CompactionAnswers (NoOp rest) result = RestAnswers rest result
CompactionAnswers Crashed result = result ≡ Err node.Device
CompactionAnswers (Recovered kept) result = ⊥
CompactionAnswers MountFailed result = ⊥
CompactionAnswers (RaiseFailed kept) result = ⊥
CompactionAnswers (RaiseRefused kept) result = ⊥

-- whatever state the node stood for, one of the things that may come of a compaction came of it, and the node stands for the
-- state after it
abbrev pub Compacts : {Disk A : Type 0} → (Disk → DiskState) → Node Disk → Node Disk → Result A NodeFault → Type 0
Compacts {Disk} disks old new result =
    (disk : Disk) (s : NodeState) → old.disk ≡ Some disk → Stands disks old s →
    (what : HistoryEvent) × CompactionAnswers what result × IsPossible old.id old.nodes s what
    × Stands disks new (after old.id old.nodes s what)

-- in each image since the compaction began the disk of a node that was up stands for what it kept
abbrev pub StaysKept : {Disk : Type 0} → (Disk → DiskState) → Node Disk → Node Disk → Type 0
StaysKept {Disk} disks old new =
    (was now : Disk) (d : Durable) → old.disk ≡ Some was → new.disk ≡ Some now → old.kept ≡ Some d → IsTrue (disks was).honest →
    Each (disks was) (disks now) (λ (image : Image). stands_for (slots_for (disks was).sectors) image ≡ Some d)

-- it was done: the jobs are in the other area, and nothing else that the node shows has changed
pub record IsMovedNode {Disk : Type 0} (old new : Node Disk) : Type 0 where
  pub is : new ≡ record old { disk = new.disk; area = new.area; mounted = None }
  pub area : (d : Durable) (area : Area) → old.kept ≡ Some d → old.area ≡ Some area → new.area ≡ Some (moved d area)

-- then its area ends in the records of the jobs on an honest disk, in each image and in the spelling of today
abbrev pub IsMovedInto : {Disk A : Type 0} → (Disk → DiskState) → Node Disk → Node Disk → Result A NodeFault → Type 0
IsMovedInto {Disk} disks old new result =
    (was now : Disk) (d : Durable) (area : Area) → old.disk ≡ Some was → new.disk ≡ Some now → old.kept ≡ Some d → old.area ≡ Some area →
    IsTrue (disks was).honest → IsOk result → AllEndIn (moved d area) (records_for (jobs_in d)) (disks now)

-- the device failed in it: the node is down, and what was in doubt is as before, so no command of a node that was up
abbrev pub IsFallenNode : {Disk : Type 0} → Node Disk → Node Disk → Type 0
IsFallenNode old new = new ≡ record old { state = down old.id; disk = new.disk; kept = None; area = None; mounted = None }

-- the core goes down where the device fails, and else it stays
pub record IsRewrittenCore {A : Type 0} (self nodes : ℕ) (old new : Core) (result : Result A NodeFault) : Type 0 where
  pub of : IsCoreOf self nodes new
  pub stays : (result ≡ Err node.Device → ⊥) → new.state ≡ old.state
  pub falls : result ≡ Err node.Device → new.state ≡ down self
