-- How the faults of the layers below are answered.
use Rattle.std.specs.Prelude.{Option, Some, None, Result, Ok, Err}
use Rattle.node_core.specs.declared.fault.CoreFault.TheVariants as core
use Rattle.node_core.specs.declared.fault.Refusal.{Refusal}
use Rattle.node_core.specs.declared.fault.Refusal.TheVariants.{Core, Full, Exhausted, AreaExhausted}
use Rattle.job_journal.specs.declared.fault.JournalFault.{JournalFault}
use Rattle.job_journal.specs.declared.fault.JournalFault.TheVariants as journal
use Rattle.node_store.specs.declared.fault.StoreFault.{StoreFault}
use Rattle.node_store.specs.declared.fault.StoreFault.TheVariants as store
use Rattle.durable_node.specs.declared.fault.NodeFault.{NodeFault}
use Rattle.durable_node.specs.declared.fault.NodeFault.TheVariants as node
use Rattle.durable_node.specs.declared.step_report.StepReport.{StepReport}
use Rattle.histories.specs.declared.event_outcome.EventOutcome.{EventOutcome}
use Rattle.histories.specs.declared.event_outcome.EventOutcome.TheVariants.{Done, Refused, Faulted, Recovered, MountFailed, RaiseFailed}
use Rattle.histories.specs.declared.event_outcome.EventOutcome.TheVariants.{RaiseRefused}

-- why an event is refused, as it is answered: a caller sees no areas
abbrev pub shown : Refusal → NodeFault
shown (Core fault) = node.Core fault
shown Full = node.Full
shown Exhausted = node.Exhausted
shown AreaExhausted = node.Exhausted

-- why a disk isn't mounted, as it is answered
abbrev pub fault_for : StoreFault → NodeFault
fault_for store.Device = node.Device
fault_for store.NotFormatted = node.NotFormatted
fault_for (store.Damaged sector) = node.Damaged sector
fault_for store.NoMemory = node.Core core.NoMemory
fault_for store.TooSmall = node.TooSmall

-- what came of an event whose command the store didn't take: a node that is up has no broken store, and asks for no job that isn't pending
abbrev pub outcome_for : JournalFault → EventOutcome
outcome_for journal.Full = Refused Full
outcome_for journal.Exhausted = Refused Exhausted
outcome_for journal.AreaExhausted = Refused AreaExhausted
outcome_for fault = Faulted

-- why an event wasn't done, by what came of it: it was refused, or the device failed
abbrev pub fault_of : EventOutcome → Option NodeFault
fault_of Done = None
fault_of (Refused why) = Some (shown why)
fault_of Faulted = Some node.Device
fault_of (Recovered kept) = None
fault_of MountFailed = Some node.Device
fault_of (RaiseFailed kept) = Some node.Device
fault_of (RaiseRefused kept) = Some node.Exhausted

abbrev pub answered_as : StepReport → Option NodeFault → Result StepReport NodeFault
answered_as came None = Ok came
answered_as came (Some fault) = Err fault

-- what a call answers, where what wasn't done is a fault
abbrev pub answered : Result StepReport NodeFault → Result StepReport NodeFault
answered (Ok came) = answered_as came (fault_of came.event_outcome)
answered (Err fault) = Err fault
