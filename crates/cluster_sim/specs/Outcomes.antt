-- The outcome of what came of a call of a node.
use Rattle.std.specs.Prelude.{ℕ, None, length, Result, Ok, Err}
use Rattle.node_core.specs.declared.fault.Refusal.TheVariants.{Core, Exhausted, AreaExhausted}
use Rattle.durable_node.specs.declared.step_report.StepReport.{StepReport}
use Rattle.durable_node.specs.declared.fault.NodeFault.{NodeFault}
use Rattle.durable_node.specs.declared.fault.NodeFault.TheVariants as node
use Rattle.histories.specs.declared.event_outcome.EventOutcome.{EventOutcome}
use Rattle.histories.specs.declared.event_outcome.EventOutcome.TheVariants as event_outcome
use Rattle.runs.specs.declared.outcome.Outcome.{Outcome}
use Rattle.runs.specs.declared.outcome.Outcome.TheVariants as outcome
use Rattle.runs.specs.declared.outcome.ActRefusal.TheVariants.{Node}

-- the outcome of what came of an event, where so many messages were sent before it: it was done or refused, or else the device failed
abbrev pub came_outcome : EventOutcome → ℕ → StepReport → Outcome
came_outcome event_outcome.Done first came = outcome.Done came.answer first (length came.sent.items)
came_outcome (event_outcome.Recovered kept) first came = outcome.Done came.answer first (length came.sent.items)
came_outcome (event_outcome.Refused why) first came = outcome.Refused (Node why)
came_outcome (event_outcome.RaiseRefused kept) first came = outcome.Refused (Node Exhausted)
came_outcome rest first came = outcome.Faulted

-- the outcome of a compaction, where so many messages were sent: it sends none, and is refused at a node that is up only where no area of
-- its disk is left
abbrev pub compaction_outcome : {A : Type 0} → ℕ → Result A NodeFault → Outcome
compaction_outcome first (Ok a) = outcome.Done None first 0
compaction_outcome first (Err node.Device) = outcome.Faulted
compaction_outcome first (Err (node.Core fault)) = outcome.Refused (Node (Core fault))
compaction_outcome first (Err fault) = outcome.Refused (Node AreaExhausted)
