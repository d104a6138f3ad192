-- What an act of the operator does to the node that it names, and to its disk.
use Rattle.std.specs.Prelude.{ℕ, ◌≡◌, ◌≢◌, List, slice_get, Option, Some, None}
use Rattle.sector_disk.specs.Memory.{Memory, all_synced, state_of}
use Rattle.sector_disk.specs.Crash.{IsCrashed}
use Rattle.durable_node.specs.Arming.{armed_disk}
use Rattle.durable_node.specs.Compacting.{IsFallenNode, IsMovedNode, StaysKept}
use Rattle.durable_node.specs.Node.{Node}
use Rattle.durable_node.specs.Refusing.{compaction_refusal}
use Rattle.histories.specs.NodeState.{NodeState}
use Rattle.histories.specs.declared.history_event.HistoryEvent.{HistoryEvent}
use Rattle.histories.specs.declared.history_event.HistoryEvent.TheVariants.{NoOp, Crashed}
use Rattle.histories.specs.declared.history_event.NoOpKind.TheVariants.{Nothing}
use Rattle.node_core.specs.declared.fault.Refusal.{Refusal}
use Rattle.runs.specs.declared.outcome.Outcome.{Outcome}
use Rattle.runs.specs.declared.outcome.Outcome.TheVariants as outcome
use Rattle.runs.specs.declared.outcome.ActRefusal.{ActRefusal}
use Rattle.runs.specs.declared.outcome.ActRefusal.TheVariants.{Node as OfNode}
use Rattle.runs.specs.Acts.{IsCompaction}
use Rattle.schedule.specs.declared.act.Act.{Act}
use Rattle.schedule.specs.declared.act.Act.TheVariants as act
use Rattle.cluster_sim.specs.World.{WorldView, disk_of}

-- a crash with these bytes leaves this of a disk
abbrev pub IsLeftWith : List ℕ → Option Memory → Option Memory → Type 0
IsLeftWith fill old new = (was now : Memory) → old ≡ Some was → new ≡ Some now
    → IsCrashed was fill now.contents × (now ≡ all_synced now.contents was.failures)

-- an act is refused by its node for this reason, or isn't refused
abbrev pub IsRefusedAs : Option Refusal → Outcome → Type 0
IsRefusedAs (Some why) o = o ≡ outcome.Refused (OfNode why)
IsRefusedAs None o = (why : ActRefusal) → o ≢ outcome.Refused why

-- what a compaction that ended so leaves: the jobs are in the other area, nothing has changed, or the node is down
abbrev pub IsLeftBy : Outcome → Node Memory → Node Memory → Type 0
IsLeftBy (outcome.Done answer first many) was now = IsMovedNode was now
IsLeftBy (outcome.Refused why) was now = now ≡ record was { mounted = None }
IsLeftBy outcome.Faulted was now = IsFallenNode was now

-- a compaction ended so: it is refused as the node's area says, and meanwhile the disk of a node that is up stands for what it kept
pub record IsCompacted (was now : Node Memory) (o : Outcome) : Type 0 where
  pub refused : IsRefusedAs (compaction_refusal was.area) o
  pub left : IsLeftBy o was now
  pub kept : StaysKept state_of was now

-- it is armed with so many calls, a crash leaves what it leaves with these bytes, or it is compacted
abbrev pub Operates : Act → WorldView → WorldView → Outcome → Type 0
Operates (act.Arm n calls) old new o = disk_of (slice_get new.nodes n) ≡ armed_disk calls (disk_of (slice_get old.nodes n))
Operates (act.Crash n fill) old new o = (was now : Memory) → disk_of (slice_get old.nodes n) ≡ Some was →
    disk_of (slice_get new.nodes n) ≡ Some now → IsCrashed was fill now.contents × (now ≡ all_synced now.contents was.failures)
Operates (act.Compact n) old new o = (was now : Node Memory) → slice_get old.nodes n ≡ Some was →
    slice_get new.nodes n ≡ Some now → IsCompacted was now o
Operates a old new o = Unit {0}

-- ---- at the node alone

-- the node at which the operator acts
abbrev pub operated_at : Act → Option ℕ
operated_at (act.Arm n calls) = Some n
operated_at (act.Crash n fill) = Some n
operated_at (act.Compact n) = Some n
operated_at a = None

-- what may come of it there, where the node is in this state
abbrev pub OperatedAs : Act → NodeState → HistoryEvent → Type 0
OperatedAs (act.Arm n calls) s what = what ≡ NoOp Nothing
OperatedAs (act.Crash n fill) s what = what ≡ Crashed
OperatedAs (act.Compact n) s what = IsCompaction s what
OperatedAs a s what = ⊥

-- what it does there
abbrev pub OperatesNode : Act → Node Memory → Node Memory → Outcome → Type 0
OperatesNode (act.Arm n calls) was now o = now.disk ≡ armed_disk calls was.disk
OperatesNode (act.Crash n fill) was now o = IsLeftWith fill was.disk now.disk
OperatesNode (act.Compact n) was now o = IsCompacted was now o
OperatesNode a was now o = Unit {0}
