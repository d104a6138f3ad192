-- Why a node refuses an event or a compaction: of several reasons the first.
use Rattle.std.specs.Prelude.{◌≡◌, ◌⊎◌, ◌+◌, ◌-◌, ◌^◌, ◌==◌, ◌&&◌, nat_lt, nat_le, Bool, length, if◌then◌else◌, Option, Some, None, Result}
use Rattle.std.specs.Prelude.{Err, IsOk, IsErrOf}
use Rattle.job_model.specs.declared.node_command.NodeCommand.{NodeCommand as Command}
use Rattle.job_model.specs.declared.node_command.NodeCommand.TheVariants.{Raise, Put, Done}
use Rattle.job_model.specs.Durable.{Durable}
use Rattle.node_core.specs.declared.event.Event.{Event}
use Rattle.node_core.specs.declared.fault.CoreFault.{CoreFault}
use Rattle.node_core.specs.declared.fault.CoreFault.TheVariants.{Down, NoMemory}
use Rattle.node_core.specs.declared.fault.Refusal.{Refusal}
use Rattle.node_core.specs.declared.fault.Refusal.TheVariants.{Core, Full, Exhausted, AreaExhausted}
use Rattle.node_core.specs.Refusals.{refusal_of}
use Rattle.node_core.specs.Wants.{wants_of}
use Rattle.histories.specs.declared.event_outcome.EventOutcome.{EventOutcome}
use Rattle.histories.specs.declared.event_outcome.EventOutcome.TheVariants.{Refused, Faulted}
use Rattle.durable_node.specs.declared.fault.NodeFault.{NodeFault}
use Rattle.durable_node.specs.declared.fault.NodeFault.TheVariants as node
use Rattle.durable_node.specs.declared.step_report.StepReport.{StepReport}
use Rattle.durable_node.specs.Faults.{shown}
use Rattle.durable_node.specs.Node.{Node, Area}

-- ---- a command

-- the area can't be changed once more
abbrev pub is_last : Area → Bool
is_last area = area.number == 2 ^ 64 - 1

-- no slot is free, and no compaction can free one
abbrev pub area_refusal : Area → Option Refusal
area_refusal area = if area.used == area.slots && is_last area then Some AreaExhausted else None

-- why the disk can't take a command
abbrev pub disk_refusal : Durable → Area → Option Command → Option Refusal
disk_refusal d area None = None
disk_refusal d area (Some Raise) = if d.counter == 2 ^ 64 - 1 then Some Exhausted else None
disk_refusal d area (Some (Put work)) =
    if nat_le (2 ^ 64 - 1) d.next then Some Exhausted
    else (if nat_lt area.slots (length d.pending + 3) then Some Full else area_refusal area)
disk_refusal d area (Some (Done id)) = area_refusal area

-- what came of an event by its command: it was refused for this reason, or else done or met by a device that failed
abbrev pub CarriesAs : {A : Type 0} → Option Refusal → Result A EventOutcome → Type 0
CarriesAs (Some why) result = result ≡ Err (Refused why)
CarriesAs None result = IsOk result ⊎ IsErrOf result Faulted

-- a call that was given a command answers why it was refused, or else does it or meets a device that fails
abbrev pub AnswersTo : {A : Type 0} → Option Refusal → Result A NodeFault → Type 0
AnswersTo (Some why) result = result ≡ Err (shown why)
AnswersTo None result = IsOk result ⊎ IsErrOf result node.Device

-- ---- an event

-- there was no memory, or P
abbrev pub OrNoMemory : {A : Type 0} → Result A NodeFault → Type 0 → Type 0
OrNoMemory result P = IsErrOf result (node.Core NoMemory) ⊎ P

-- want of memory comes after the core's reasons, and before the disk's
abbrev pub AnswersEvent : {A : Type 0} → Option CoreFault → Option Refusal → Result A NodeFault → Type 0
AnswersEvent (Some fault) why result = result ≡ Err (node.Core fault)
AnswersEvent None why result = OrNoMemory result (AnswersTo why result)

-- what a node that is up answers to an event
abbrev pub Answers : {Disk : Type 0} → Node Disk → Event → Result StepReport NodeFault → Type 0
Answers node event result = (d : Durable) (area : Area) → node.kept ≡ Some d → node.area ≡ Some area →
    AnswersEvent (refusal_of node.nodes node.id event node.state) (disk_refusal d area (wants_of node.id d.pending event node.state)) result

-- ---- a compaction

-- why a compaction is refused, by the area of a node that is up
abbrev pub compaction_refusal : Option Area → Option Refusal
compaction_refusal None = Some (Core Down)
compaction_refusal (Some area) = if is_last area then Some AreaExhausted else None
