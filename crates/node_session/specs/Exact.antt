-- What a call of the node does, said as exactly as `DurableNode::step` and `DurableNode::compact` say it, and the calls of lines, one
-- behind another.
use Rattle.std.specs.Prelude.{ℕ, ◌≡◌, ◌≢◌, ◌≤◌, ◌<◌, ◌-◌, ◌^◌, ◌⊎◌, List, [], ◌∷◌, length, true, Option, Some, None, Result, Err, IfOk}
use Rattle.std.specs.Prelude.{IfErr, IsOk, IsErrOf}
use Rattle.sector_disk.specs.Disk.{DiskState}
use Rattle.wire_msg.specs.Envelope.{Envelope}
use Rattle.job_model.specs.Durable.{Durable}
use Rattle.node_core.specs.declared.event.Event.{Event}
use Rattle.node_core.specs.declared.event.Event.TheVariants.{Recover}
use Rattle.node_core.specs.declared.fault.CoreFault.TheVariants.{NoMemory}
use Rattle.node_core.specs.declared.fault.Refusal.TheVariants.{Exhausted, AreaExhausted}
use Rattle.node_core.specs.State.{is_down}
use Rattle.node_core.specs.Wants.{wants_of}
use Rattle.histories.specs.NodeState.{NodeState}
use Rattle.durable_node.specs.declared.fault.NodeFault.{NodeFault}
use Rattle.durable_node.specs.declared.fault.NodeFault.TheVariants as node
use Rattle.durable_node.specs.declared.step_report.StepReport.{StepReport}
use Rattle.durable_node.specs.Compacting.{Compacts, StaysKept, IsMovedNode, IsMovedInto, IsFallenNode}
use Rattle.durable_node.specs.Faults.{answered}
use Rattle.durable_node.specs.Node.{Node, Area}
use Rattle.durable_node.specs.Reading.{ReadsDisk}
use Rattle.durable_node.specs.Refusing.{Answers, AnswersTo, compaction_refusal, disk_refusal}
use Rattle.durable_node.specs.Remounting.{IsMountedBy, Remounted}
use Rattle.durable_node.specs.Stepping.{AreaGoesOn, CountsOf, Steps, Stuck, most_by}
use Rattle.node_session.specs.Turns.{CallEnd, Turn, after_turn, cause, compaction_end, end_of, ended_by, sent_by, sent_in}
use Rattle.node_session.specs.Chains.{LineOutcome}
use Rattle.node_session.specs.Lines.{At, after_line}

-- ---- one call

-- all that is said of a step that answered this
pub record StepSays {Disk : Type 0} (disks : Disk → DiskState) (old : Node Disk) (event : Event) (reply : Result StepReport NodeFault)
    (new : Node Disk) : Type 0 where
  pub step : IfOk reply (Steps disks old new event)
  pub stuck : IfErr reply (Stuck disks old new event)
  -- for want of memory the session ends, and says nothing
  pub memory : reply ≢ Err (node.Core NoMemory)
  -- each refusal exactly where its rule says
  pub answers : Answers old event (answered reply)
  -- `Device` only where the count of the device's failures rose
  pub counts : CountsOf disks old.disk new.disk (answered reply)
  pub area : AreaGoesOn disks old new event (answered reply)
  pub mounting : is_down old.state.phase ≡ true → event ≡ Recover → Remounted old new (answered reply) new.mounted
  -- what is mounted is what the disk reads, and whether the command in doubt counted
  pub mounted : is_down old.state.phase ≡ true → event ≡ Recover
      → IfOk reply (λ came. IsMountedBy old.doubt came.event_outcome new.mounted)
      × ReadsDisk disks old.disk new.disk (answered reply) new.mounted
  pub few : IfOk reply (λ came. length came.sent.items ≤ most_by old.nodes old.kept)

-- the node took a step at the event, which ended so and handed out these messages
pub record IsStep {Disk : Type 0} (disks : Disk → DiskState) (old : Node Disk) (event : Event) (sent : List Envelope) (ended : CallEnd)
    (new : Node Disk) : Type 0 where
  pub reply : Result StepReport NodeFault
  pub ended_so : ended ≡ ended_by (answered reply)
  pub sent_so : sent ≡ sent_by (answered reply)
  pub says : StepSays disks old event reply new

-- all that is said of a compaction that answered this
pub record CompactionSays {Disk A : Type 0} (disks : Disk → DiskState) (old : Node Disk) (result : Result A NodeFault) (new : Node Disk) :
    Type 0 where
  -- each refusal exactly where its rule says
  pub answers : AnswersTo (compaction_refusal old.area) result
  pub step : Compacts disks old new result
  pub moved : IsOk result → IsMovedNode old new
  pub spelled : IsMovedInto disks old new result
  pub fallen : IsErrOf result node.Device → IsFallenNode old new
  pub refused : IfErr result (λ fault. fault ≢ node.Device → new ≡ record old { mounted = None })
  pub images : StaysKept disks old new
  -- `Device` only where the count of the device's failures rose
  pub counts : CountsOf disks old.disk new.disk result

-- the node compacted its journal, which ended so
pub record IsCompacting {Disk : Type 0} (disks : Disk → DiskState) (old : Node Disk) (ended : CallEnd) (new : Node Disk) : Type 0 where
  pub result : Result Unit NodeFault
  pub ended_so : ended ≡ compaction_end result
  pub says : CompactionSays disks old result new

-- a call at this event; a compaction is of none
abbrev pub IsCallBy : {Disk : Type 0} → (Disk → DiskState) → Option Event → Node Disk → List Envelope → CallEnd → Node Disk → Type 0
IsCallBy disks (Some event) old sent ended new = IsStep disks old event sent ended new
IsCallBy disks None old sent ended new = IsCompacting disks old ended new

-- the node made the call of which this came at a state that it stood for
abbrev pub IsCallOf : {Disk : Type 0} → (Disk → DiskState) → ℕ → ℕ → NodeState → Turn → Node Disk → Node Disk → Type 0
IsCallOf disks self nodes s turn old new = IsCallBy disks (cause turn) old (sent_in self nodes s turn) (end_of self nodes s turn) new

-- ---- several

-- the node made the calls of one line, one behind another, and nothing else changed it
abbrev pub AreCallsOf : {Disk : Type 0} → (Disk → DiskState) → ℕ → ℕ → NodeState → List Turn → Node Disk → Node Disk → Type 0
AreCallsOf disks self nodes s [] old new = new ≡ old
AreCallsOf {Disk} disks self nodes s (turn ∷ turns) old new =
    (mid : Node Disk) × IsCallOf disks self nodes s turn old mid × AreCallsOf disks self nodes (after_turn self nodes s turn) turns mid new

-- and those of several lines
abbrev pub AreCallsIn : {Disk : Type 0} → (Disk → DiskState) → ℕ → ℕ → At → List (List ℕ) → List LineOutcome → Node Disk → Node Disk
    → Type 0
AreCallsIn disks self nodes a [] all old new = new ≡ old
AreCallsIn disks self nodes a (line ∷ lines) [] old new = new ≡ old
AreCallsIn {Disk} disks self nodes a (line ∷ lines) (came ∷ all) old new =
    (mid : Node Disk) × AreCallsOf disks self nodes a.state came.turns old mid
    × AreCallsIn disks self nodes (after_line self nodes a line came) lines all mid new

-- ---- laws

-- a call ends with `Device` only where the disk's count of failures rose, or is the greatest, and any other leaves that count
abbrev pub DeviceWhereFailed : {Disk : Type 0} → (Disk → DiskState) → Type 0
DeviceWhereFailed {Disk} disks = (event : Option Event) (old new : Node Disk) (sent : List Envelope) (ended : CallEnd) (was now : Disk)
    → IsCallBy disks event old sent ended new → old.disk ≡ Some was → new.disk ≡ Some now
    → (ended ≡ Err node.Device → ((disks was).failures < (disks now).failures) ⊎ ((disks now).failures ≡ 2 ^ 64 - 1))
    × (ended ≢ Err node.Device → (disks now).failures ≡ (disks was).failures)

-- an event at a node that is up ends with `Exhausted` only where the disk has no number left for its command
abbrev pub ExhaustedWhereNoneLeft : {Disk : Type 0} → (Disk → DiskState) → Type 0
ExhaustedWhereNoneLeft {Disk} disks = (event : Event) (old new : Node Disk) (sent : List Envelope) (d : Durable) (area : Area)
    → IsStep disks old event sent (Err node.Exhausted) new → old.kept ≡ Some d → old.area ≡ Some area
    → (disk_refusal d area (wants_of old.id d.pending event old.state) ≡ Some Exhausted)
    ⊎ (disk_refusal d area (wants_of old.id d.pending event old.state) ≡ Some AreaExhausted)
